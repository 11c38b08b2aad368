-- What the crate's own functions are told of a comparison. Definitions only.
use Rattle.std.specs.Prelude.{Result, Ok, Err}
use Rattle.basics.specs.declared.refusal.Refusal.{Refusal}
use Rattle.basics.specs.Refusal.{number_of}
use Rattle.compare.specs.declared.call.Compared.{Compared}
use Rattle.std.specs.Prelude.{◌≡◌, true, List, ℕ, zero, suc, ◌+◌, ◌*◌, ◌^◌, ◌<◌, ℤ, pos, ◌-ℤ◌, length, set}
use Rattle.grid.specs.declared.place.Grid.{Grid}
use Rattle.grid.specs.Grid.{bins_of}
use Rattle.table.specs.declared.cell.Cell.{Cell}
use Rattle.table.specs.Table.{Table, table_len, view_of}
use Rattle.table.specs.Layout.{TableOf}
use Rattle.table.specs.Sound.{sound}

-- the numbers of one cell taken from those of another, by which of the five it is
unfoldable pub less : Cell → Cell → ℕ → ℤ
less a b zero = pos b.weight -ℤ pos a.weight
less a b (suc zero) = pos b.sum1 -ℤ pos a.sum1
less a b (suc (suc zero)) = pos b.sum2 -ℤ pos a.sum2
less a b (suc (suc (suc zero))) = pos b.sum3 -ℤ pos a.sum3
less a b (suc (suc (suc (suc j)))) = pos b.squares -ℤ pos a.squares

-- a list with five differences written, from 5·place on
unfoldable pub with_differences : List ℤ → ℕ → (ℕ → ℤ) → List ℤ
with_differences l p f =
    set (set (set (set (set l (5 * p) (f 0)) (5 * p + 1) (f 1)) (5 * p + 2) (f 2)) (5 * p + 3) (f 3)) (5 * p + 4) (f 4)

-- no number of a cell is 2^50 or more
pub record Small (c : Cell) : Type 0 where
  pub weight : c.weight < 2 ^ 50
  pub sum1 : c.sum1 < 2 ^ 50
  pub sum2 : c.sum2 < 2 ^ 50
  pub sum3 : c.sum3 < 2 ^ 50
  pub squares : c.squares < 2 ^ 50

-- two sound tables of a grid and a list as long
pub record Comparable (most : ℕ) (g : Grid) (t s : Table) (l : List ℤ) : Type 0 where
  pub first : TableOf g t
  pub second : TableOf g s
  pub list : length l ≡ table_len (bins_of g)
  pub first_sound : sound most g (view_of t) ≡ true
  pub second_sound : sound most g (view_of s) ≡ true

-- what is handed back: "A refused comparison hands back its answer and two zeros."
abbrev pub told : Result Compared Refusal → Compared
told (Ok c) = c
told (Err r) = record { number = number_of r; differ = 0; first = 0 }
