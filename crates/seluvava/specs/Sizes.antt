-- The sizes that a caller has to lend (Rules, Lengths). Definitions only.
use Rattle.std.specs.Prelude.{ℕ}
use Rattle.grid.specs.Grid.{grid_of, on_grid, bins_of}
use Rattle.table.specs.Table.{table_len}

-- the bins of a grid: how many bytes a map has; 0 where a size is not among the seven
unfoldable pub bins_for : ℕ → ℕ → ℕ → ℕ
bins_for b1 b2 b3 = on_grid (grid_of b1 b2 b3) 0 bins_of

-- how many numbers a table has, and a work table
unfoldable pub table_len_for : ℕ → ℕ → ℕ → ℕ
table_len_for b1 b2 b3 = on_grid (grid_of b1 b2 b3) 0 (λ g. table_len (bins_of g))
