-- The five numbers of a bin (Rules, Table). Definitions only.
use Rattle.std.specs.Prelude.{ℕ, zero, suc, ◌+◌, ◌-◌, ◌^◌, ◌<◌, ◌≤◌}
use Rattle.table.specs.declared.cell.Cell.{Cell}

-- the number at a place, by which of the five it is
abbrev pub View : Type 0
View = ℕ → ℕ → ℕ

-- the zeros of an empty table
abbrev pub zeros : View
zeros p j = 0

-- "in this order: weight n, three component sums, the sum of squared components"
unfoldable pub number_of : Cell → ℕ → ℕ
number_of c zero = c.weight
number_of c (suc zero) = c.sum1
number_of c (suc (suc zero)) = c.sum2
number_of c (suc (suc (suc zero))) = c.sum3
number_of c (suc (suc (suc (suc j)))) = c.squares

-- five numbers as a cell
unfoldable pub cell_of : (ℕ → ℕ) → Cell
cell_of f = record { weight = f 0; sum1 = f 1; sum2 = f 2; sum3 = f 3; squares = f 4 }

-- two cells added, number by number
unfoldable pub plus_cell : Cell → Cell → Cell
plus_cell c d = cell_of (λ j. number_of c j + number_of d j)

-- and each sum fits a u64
pub record SumsFit (c d : Cell) : Type 0 where
  pub fits : (j : ℕ) → j < 5 → number_of c j + number_of d j < 2 ^ 64

-- one cell less another, number by number
unfoldable pub minus_cell : Cell → Cell → Cell
minus_cell c d = cell_of (λ j. number_of c j - number_of d j)

-- no number of the second is above the first's
pub record AtLeast (c d : Cell) : Type 0 where
  pub least : (j : ℕ) → j < 5 → number_of d j ≤ number_of c j
