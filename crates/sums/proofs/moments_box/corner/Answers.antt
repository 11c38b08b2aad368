-- `sums::moments_box::corner` meets its contract: the moments at the last bin before the corner.
-- Assumes nothing.
use Rattle.std.proofs.Common.{arith}
use Rattle.sums.proofs.Corners.{corner_cell, corner_is, bin_is, bin_fits}
use Rattle.sums.proofs.moments_box.corner.Goals as goal

pub overflow_add-row : goal.overflow_add-row
overflow_add-row g c = omega (arith, bin_fits c.requires.corner c.requires.row_value)

pub cell-requires : goal.cell-requires
cell-requires g c = corner_cell c.requires.corner (bin_is c.requires.corner c.requires.row_value)

pub returns : goal.returns
returns g c = corner_is c.requires.corner (bin_is c.requires.corner c.requires.row_value) c.cell.ensures
