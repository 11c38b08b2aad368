-- `table::narrow::narrow_cell` meets its contract: four numbers of one list and one of the other, read where they stand.
-- Assumes nothing.
use Rattle.std.proofs.Common.{◌+◌, ◌*◌, refl, add-zero, arith, lit<}
use Rattle.table.specs.Cell.{cell_of}
use Rattle.table.specs.Narrow.{narrow_table}
use Rattle.table.proofs.NarrowTables.{narrow_sums, narrow_squares}
use Rattle.table.proofs.narrow.narrow_cell.Goals as goal

pub overflow_cast-result : goal.overflow_cast-result
overflow_cast-result c = omega (arith, c.shared_slice_known-1.given (4 * c.args.place))

pub overflow_cast-result-2 : goal.overflow_cast-result-2
overflow_cast-result-2 c = omega (arith, c.shared_slice_known-2-1.given (4 * c.args.place + 1))

pub overflow_cast-result-3 : goal.overflow_cast-result-3
overflow_cast-result-3 c = omega (arith, c.shared_slice_known-3-1.given (4 * c.args.place + 2))

pub overflow_cast-result-4 : goal.overflow_cast-result-4
overflow_cast-result-4 c = omega (arith, c.shared_slice_known-4-1.given (4 * c.args.place + 3))

pub returns : goal.returns
unfolding cell_of
returns c =
    let a = c.args in
    let t = narrow_table a.sums.now a.squares.now in
    rw (
      narrow_sums t a.place 0 (lit< tt) (lit< tt),
      narrow_sums t a.place 1 (lit< tt) (lit< tt),
      narrow_sums t a.place 2 (lit< tt) (lit< tt),
      narrow_sums t a.place 3 (lit< tt) (lit< tt),
      narrow_squares t a.place 4 (lit< tt) (omega arith),
      add-zero,
    ) refl
