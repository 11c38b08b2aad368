-- A lent table in the narrow layout: its lengths, its view, a view written out, and a cell of it (Rules, Layouts).
-- Definitions only.
use Rattle.std.specs.Prelude.{◌≡◌, ℕ, ◌+◌, ◌*◌, ◌/◌, ◌%◌, ◌^◌, ◌<◌, ◌≤◌, Bool, cond, ◌&&◌, List, length, set, replicate, ◌==◌, nat_lt, slice_index, slice_set}
use Rattle.basics.specs.Range.{list_from}
use Rattle.table.specs.declared.cell.Cell.{Cell}
use Rattle.table.specs.Cell.{View}

-- "weight and sums as four 32-bit numbers a bin, squares apart as 64-bit"
pub record NarrowTable : Type 0 where
  pub sums : List ℕ
  pub squares : List ℕ

abbrev pub narrow_table : List ℕ → List ℕ → NarrowTable
narrow_table sums squares = record { sums = sums; squares = squares }

-- "both lists of exact length": for so many bins
pub record NarrowSized (t : NarrowTable) (bins : ℕ) : Type 0 where
  pub sums : length t.sums ≡ 4 * bins
  pub squares : length t.squares ≡ bins

unfoldable pub narrow_fit : ℕ → ℕ → ℕ → Bool
narrow_fit sums squares bins = sums == 4 * bins && squares == bins

-- number i of it in the wide order, which has five numbers a bin: the first four are sums, from 4·place on
unfoldable pub narrow_number : NarrowTable → ℕ → ℕ
narrow_number t i = cond (nat_lt (i % 5) 4) (slice_index t.sums (4 * (i / 5) + i % 5)) (slice_index t.squares (i / 5))

-- what it holds
unfoldable pub narrow_view : NarrowTable → View
narrow_view t p j = narrow_number t (5 * p + j)

-- a view written out as a narrow table of so many bins
unfoldable pub narrow_written : ℕ → View → NarrowTable
narrow_written bins v = narrow_table (list_from 0 (4 * bins) (λ i. v (i / 4) (i % 4))) (list_from 0 bins (λ p. v p 4))

-- an empty table of so many bins, as a caller lends it
unfoldable pub narrow_empty : ℕ → NarrowTable
narrow_empty bins = narrow_table (replicate (4 * bins) 0) (replicate bins 0)

-- a table with a cell written at a place
unfoldable pub narrow_put : NarrowTable → ℕ → Cell → NarrowTable
narrow_put t p c =
    narrow_table
    (set (slice_set (slice_set (slice_set t.sums (4 * p) c.weight) (4 * p + 1) c.sum1) (4 * p + 2) c.sum2) (4 * p + 3)
    c.sum3)
    (slice_set t.squares p c.squares)

-- a table has a cell at a place
pub record NarrowCell (t : NarrowTable) (p : ℕ) : Type 0 where
  pub sums : 4 * p + 4 ≤ length t.sums
  pub squares : p < length t.squares

-- a cell that is written fits its place: weight and sums are u32s, the squares a u64
pub record NarrowHeld (c : Cell) : Type 0 where
  pub weight : c.weight < 2 ^ 32
  pub sum1 : c.sum1 < 2 ^ 32
  pub sum2 : c.sum2 < 2 ^ 32
  pub sum3 : c.sum3 < 2 ^ 32
  pub squares : c.squares < 2 ^ 64
