-- `table::cell::plus` meets its contract: what is required has room for each sum.
-- Assumes nothing.
use Rattle.std.proofs.Common.{refl, lit<}
use Rattle.table.specs.Cell.{number_of, cell_of, plus_cell}
use Rattle.table.proofs.cell.plus.Goals as goal

pub overflow_add-result : goal.overflow_add-result
unfolding number_of
overflow_add-result c = record { fits = c.requires.fits 0 (lit< tt) }

pub overflow_add-result-2 : goal.overflow_add-result-2
unfolding number_of
overflow_add-result-2 c = record { fits = c.requires.fits 1 (lit< tt) }

pub overflow_add-result-3 : goal.overflow_add-result-3
unfolding number_of
overflow_add-result-3 c = record { fits = c.requires.fits 2 (lit< tt) }

pub overflow_add-result-4 : goal.overflow_add-result-4
unfolding number_of
overflow_add-result-4 c = record { fits = c.requires.fits 3 (lit< tt) }

pub overflow_add-result-5 : goal.overflow_add-result-5
unfolding number_of
overflow_add-result-5 c =
    record {
      fits = c.requires.fits 4
          (lit< tt);
    }

pub returns : goal.returns
unfolding plus_cell cell_of number_of
returns c = refl
