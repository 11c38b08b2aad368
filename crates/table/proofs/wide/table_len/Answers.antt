-- `table::wide::table_len` meets its contract: five numbers a bin.
-- Assumes nothing.
use Rattle.std.proofs.Common.{ℕ, ◌*◌, ap, arith}
use Rattle.grid.proofs.Places.{bins_high}
use Rattle.table.specs.Table.{table_len}
use Rattle.table.proofs.wide.table_len.Goals as goal

pub bins-requires : goal.bins-requires
bins-requires c = c.requires

pub overflow_mul-result : goal.overflow_mul-result
overflow_mul-result c = omega (arith, c.bins.ensures, bins_high c.requires)

pub returns : goal.returns
unfolding table_len
returns c = ap (λ (n : ℕ). 5 * n) c.bins.ensures
