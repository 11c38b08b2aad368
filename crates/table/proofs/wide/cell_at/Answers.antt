-- `table::wide::cell_at` meets its contract: five numbers, read where they stand.
-- Assumes nothing.
use Rattle.std.proofs.Common.{refl, add-zero}
use Rattle.table.specs.Cell.{cell_of}
use Rattle.table.specs.Table.{view_of}
use Rattle.table.proofs.wide.cell_at.Goals as goal

pub returns : goal.returns
unfolding cell_of view_of
returns c = rw add-zero refl
