-- Adding to a table that is known to be sound: a batch, each weight multiplied by a scale, by a step table that is
-- filled once, or a cell at a place (Rules, Load; Rules, Record; Rules, Merge). Definitions only.
use Rattle.std.specs.Prelude.{None, Option, Some}
use Rattle.std.specs.Borrow.{Bor}
use Rattle.std.specs.Prelude.{◌≡◌, Bool, true, cond, List, [], ◌∷◌, ℕ, ◌+◌, ◌*◌, ◌/◌, ◌%◌, ◌≤◌, leb, length, get_or}
use Rattle.grid.specs.declared.place.Grid.{Grid}
use Rattle.basics.specs.Answer.{Answer}
use Rattle.basics.specs.Range.{list_from}
use Rattle.grid.specs.Grid.{Accepted, bins_of, steps_of}
use Rattle.table.specs.declared.cell.Cell.{Cell}
use Rattle.table.specs.Layouts.{Layout}
use Rattle.table.specs.Layouts.{Wide}
use Rattle.table.specs.Cell.{cell_of, plus_cell, SumsFit}
use Rattle.table.specs.Table.{Table}
use Rattle.table.specs.Layout.{TableIn, TableOfIn, view_in, written_in, put_in, CellIn, HeldIn}
use Rattle.table.specs.Sound.{sound, total, passed_number}
use Rattle.adder.specs.Batch.{Weighted, weight_of, loaded, batch_of, scaled_weights}

-- ---- what is lent
-- for each dimension and each value of a component its step, and 2^32 times its square: 256 numbers a dimension
unfoldable pub step_number : Grid → ℕ → ℕ
step_number g i = get_or (steps_of g (i / 256)) (i % 256) 0 + 4294967296 * ((i % 256) * (i % 256))

unfoldable pub step_table : Grid → List ℕ
step_table g = list_from 0 768 (step_number g)

-- a list is the step table of an accepted grid
pub record StepTable (g : Grid) (steps : List ℕ) : Type 0 where
  pub accepted : Accepted g
  pub filled : steps ≡ step_table g

-- a sound table, with its total
pub record KnownIn (l : Layout) (most : ℕ) (g : Grid) (t : TableIn l) (had : ℕ) : Type 0 where
  pub table : TableOfIn l g t
  pub is_sound : sound most g (view_in l t) ≡ true
  pub total_is : had ≡ total g (view_in l t)

-- and one in the wide layout
abbrev pub Known : ℕ → Grid → Table → ℕ → Type 0
Known most g t had = KnownIn Wide most g t had

-- a batch that neither 3 nor 4 refuses
pub record Whole (colours : List ℕ) (weighted : Bool) (weights : List ℕ) : Type 0 where
  pub threes : length colours % 3 ≡ 0
  pub paired : weighted ≡ true → length weights ≡ length colours / 3

-- the weights where some are given
abbrev pub given : Option (Bor (List ℕ)) → List ℕ
given None = []
given (Some weights) = weights.now

-- what a weight is multiplied by: an interval, or 1
pub record IsScale (scale : ℕ) : Type 0 where
  pub some : 1 ≤ scale
  pub few : scale ≤ 4096

-- ---- what comes of it
-- the colours of a batch, each weight multiplied
abbrev pub scaled_batch : ℕ → List ℕ → Bool → List ℕ → List Weighted
scaled_batch scale colours weighted weights =
    batch_of colours true (scaled_weights scale (length colours / 3) weighted weights)

-- the total then, or that it would pass the limit
unfoldable pub added_to : ℕ → ℕ → List Weighted → Option ℕ
added_to most had cs = cond (leb (had + weight_of cs) most) (Some (had + weight_of cs)) None

-- the answer and the values of each case, in a layout and in the wide one
abbrev pub added_answer_in : Layout → Option ℕ → Answer
added_answer_in l (Some n) = record { number = 0; values = n ∷ [] }
added_answer_in l None = record { number = passed_number l; values = [] }

abbrev pub added_answer : Option ℕ → Answer
added_answer a = added_answer_in Wide a

-- the table then
unfoldable pub added_later_in : (l : Layout) → ℕ → Grid → TableIn l → ℕ → List Weighted → TableIn l
added_later_in l most g t had cs =
    cond (leb (had + weight_of cs) most) (written_in l (bins_of g) (loaded g cs (view_in l t))) t

abbrev pub added_later : ℕ → Grid → Table → ℕ → List Weighted → Table
added_later most g t had cs = added_later_in Wide most g t had cs

-- ---- a cell at a place
-- a cell can be added at a place: each sum is a number, and fits its place
pub record CellFits (l : Layout) (t : TableIn l) (p : ℕ) (c : Cell) : Type 0 where
  pub cell : CellIn l t p
  pub sums : SumsFit (cell_of (view_in l t p)) c
  pub held : HeldIn l (plus_cell (cell_of (view_in l t p)) c)

-- a table with a cell added at a place
abbrev pub with_cell : (l : Layout) → TableIn l → ℕ → Cell → TableIn l
with_cell l t p c = put_in l t p (plus_cell (cell_of (view_in l t p)) c)
