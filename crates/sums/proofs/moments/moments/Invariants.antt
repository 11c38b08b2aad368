-- `sums::moments::moments` meets its contract: after each plane the moments of the planes so far stand.
-- Assumes nothing.
use Rattle.std.proofs.Common.{◌*◌}
use Rattle.table.specs.Layout.{laid}
use Rattle.sums.specs.Inner.{Before}
use Rattle.sums.proofs.moments.moments.Given as goal

abbrev pub invariant-loop-r : goal.invariant-loop-r
invariant-loop-r g l =
    let layout = g.L.Layout.layout in
    Before layout l.g (laid layout l.small l.large) (laid layout l.smallwork l.largework) (l.r * (l.g.size2 * l.g.size3))
