-- `bins::add_up::add_up` meets its contract: after each plane the sum is that of the planes so far.
-- Assumes nothing.
use Rattle.std.proofs.Common.{◌≡◌, ◌-◌}
use Rattle.table.specs.Cell.{cell_of}
use Rattle.table.specs.Layout.{laid_view}
use Rattle.bins.specs.Inner.{planes_sum}
use Rattle.bins.proofs.add_up.add_up.Given as goal

abbrev pub invariant-loop-r : goal.invariant-loop-r
invariant-loop-r g l = l.sum ≡ cell_of (planes_sum l.g (laid_view g.L.Layout.layout l.small l.large) l.x l.initial.r (l.r - l.initial.r))
