-- `sums::inner_rows::inner_row` meets its contract: after b bins of the row their moments stand, and the line is the sum along
-- them.
-- Assumes nothing.
use Rattle.std.proofs.Common.{◌≡◌, ◌+◌}
use Rattle.grid.specs.Grid.{place_of}
use Rattle.table.specs.Layout.{laid, laid_view}
use Rattle.sums.specs.Inner.{line_cell, Before}
use Rattle.sums.proofs.inner_rows.inner_row.Given as goal

abbrev pub invariant-loop-b : goal.invariant-loop-b
invariant-loop-b g l =
    let layout = g.L.Layout.layout in
    (l.line ≡ line_cell l.g (laid_view layout l.small l.large) l.r l.gr l.b)
    × Before layout l.g (laid layout l.small l.large) (laid layout l.smallwork l.largework) (place_of l.g l.r l.gr 0 + l.b)
