-- `table::cell::minus` meets its contract: what is required leaves no difference below 0.
-- Assumes nothing.
use Rattle.std.proofs.Common.{refl, lit<}
use Rattle.table.specs.Cell.{number_of, cell_of, minus_cell}
use Rattle.table.proofs.cell.minus.Goals as goal

pub overflow_sub-result : goal.overflow_sub-result
unfolding number_of
overflow_sub-result c = c.requires.least 0 (lit< tt)

pub overflow_sub-result-2 : goal.overflow_sub-result-2
unfolding number_of
overflow_sub-result-2 c = c.requires.least 1 (lit< tt)

pub overflow_sub-result-3 : goal.overflow_sub-result-3
unfolding number_of
overflow_sub-result-3 c = c.requires.least 2 (lit< tt)

pub overflow_sub-result-4 : goal.overflow_sub-result-4
unfolding number_of
overflow_sub-result-4 c = c.requires.least 3 (lit< tt)

pub overflow_sub-result-5 : goal.overflow_sub-result-5
unfolding number_of
overflow_sub-result-5 c = c.requires.least 4 (lit< tt)

pub returns : goal.returns
unfolding minus_cell cell_of number_of
returns c = refl
