-- `sums::moments::next_plane` meets its contract: after each row the moments of the rows so far stand.
-- Assumes nothing.
use Rattle.std.proofs.Common.{◌+◌, ◌*◌}
use Rattle.grid.specs.Grid.{place_of}
use Rattle.table.specs.Layout.{laid}
use Rattle.sums.specs.Inner.{Before}
use Rattle.sums.proofs.moments.next_plane.Given as goal

abbrev pub invariant-loop-gr : goal.invariant-loop-gr
invariant-loop-gr g l =
    let layout = g.L.Layout.layout in
    Before layout l.g (laid layout l.small l.large) (laid layout l.smallwork l.largework)
    (place_of l.g l.r 0 0 + l.gr * l.g.size3)
