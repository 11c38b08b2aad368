-- A lent table: its length, its view, a view written out, and a cell of it (Rules, Table). Definitions only.
use Rattle.std.specs.Prelude.{◌≡◌, ℕ, ◌+◌, ◌*◌, ◌/◌, ◌%◌, ◌^◌, ◌<◌, ◌≤◌, Bool, List, length, set, replicate, ◌==◌, slice_index, slice_set}
use Rattle.basics.specs.Range.{list_from}
use Rattle.table.specs.declared.cell.Cell.{Cell}
use Rattle.table.specs.Cell.{View, number_of}

-- a lent table in the wide layout: "five u64 numbers per bin, together from 5·place on"
abbrev pub Table : Type 0
Table = List ℕ

-- how many numbers a table of so many bins has: "table and work table exactly 5·bins"
unfoldable pub table_len : ℕ → ℕ
table_len bins = 5 * bins

-- a table of so many bins
pub record Sized (t : Table) (bins : ℕ) : Type 0 where
  pub numbers : length t ≡ table_len bins

-- whether a table is one of so many bins
unfoldable pub is_sized : Table → ℕ → Bool
is_sized t bins = length t == table_len bins

-- what it holds
unfoldable pub view_of : Table → View
view_of t p j = slice_index t (5 * p + j)

-- a view written out as a table of so many bins
unfoldable pub written : ℕ → View → Table
written bins v = list_from 0 (table_len bins) (λ i. v (i / 5) (i % 5))

-- an empty table of so many bins, as a caller lends it
unfoldable pub empty_of : ℕ → Table
empty_of bins = replicate (table_len bins) 0

-- a table with a cell written at a place
unfoldable pub put_at : Table → ℕ → Cell → Table
put_at t p c =
    set (slice_set (slice_set (slice_set (slice_set t (5 * p) c.weight) (5 * p + 1) c.sum1) (5 * p + 2) c.sum2) (5 * p + 3) c.sum3)
    (5 * p + 4) c.squares

-- a table has a cell at a place
pub record HasCell (t : Table) (p : ℕ) : Type 0 where
  pub fits : 5 * p + 5 ≤ length t

-- a cell that is written fits its place: each number is a u64
pub record Held (c : Cell) : Type 0 where
  pub fits : (j : ℕ) → j < 5 → number_of c j < 2 ^ 64
