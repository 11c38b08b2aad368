-- `bins::add_up::add_row` meets its contract: after each bin the sum is that of the bins so far.
-- Assumes nothing.
use Rattle.std.proofs.Common.{◌≡◌, ◌-◌}
use Rattle.table.specs.Cell.{cell_of}
use Rattle.table.specs.Layout.{laid_view}
use Rattle.bins.specs.Inner.{row_sum}
use Rattle.bins.proofs.add_up.add_row.Given as goal

abbrev pub invariant-loop-b : goal.invariant-loop-b
invariant-loop-b g l = l.sum ≡ cell_of (row_sum l.g (laid_view g.L.Layout.layout l.small l.large) l.r l.gr l.initial.b (l.b - l.initial.b))
