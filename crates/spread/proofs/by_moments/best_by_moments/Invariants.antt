-- `spread::by_moments::best_by_moments` meets its contract: after each bin the best is that of the positions so far.
-- Assumes nothing.
use Rattle.std.proofs.Common.{◌≡◌, ◌+◌, ◌-◌}
use Rattle.table.specs.Layout.{laid_view}
use Rattle.boxes.specs.Box.{min_at}
use Rattle.spread.specs.Cut.{best_run}
use Rattle.spread.proofs.by_moments.best_by_moments.Given as goal

abbrev pub invariant-loop-bin : goal.invariant-loop-bin
invariant-loop-bin g l =
    let first = min_at l.x l.dimension + 1 in
    l.best
    ≡ best_run l.g (laid_view g.L.Layout.layout l.small l.large) l.x l.dimension first (l.bin - first)
