-- A lent table in either layout (Rules, Layouts): the wide one by the definitions of Table, the narrow one by those of
-- Narrow. Definitions only.
use Rattle.std.specs.Prelude.{ℕ, Bool, List, length, ◌==◌}
use Rattle.grid.specs.declared.place.Grid.{Grid}
use Rattle.grid.specs.Grid.{Accepted, bins_of}
use Rattle.table.specs.declared.cell.Cell.{Cell}
use Rattle.table.specs.Layouts.{Layout}
use Rattle.table.specs.Layouts.{Wide, Narrow}
use Rattle.table.specs.Cell.{View}
use Rattle.table.specs.Table.{Table, table_len, Sized, is_sized, view_of, written, empty_of, put_at, HasCell, Held}
use Rattle.table.specs.Narrow.{NarrowTable, narrow_table, NarrowSized, narrow_fit, narrow_view, narrow_written}
use Rattle.table.specs.Narrow.{narrow_empty, narrow_put, NarrowCell, NarrowHeld}

-- a table in a layout
abbrev pub TableIn : Layout → Type 0
TableIn Wide = Table
TableIn Narrow = NarrowTable

-- the table that two lent lists make: the wide layout has all in the large one
abbrev pub laid : (l : Layout) → List ℕ → List ℕ → TableIn l
laid Wide small large = large
laid Narrow small large = narrow_table small large

-- a table of so many bins, and whether two lengths are those of one
abbrev pub SizedIn : (l : Layout) → TableIn l → ℕ → Type 0
SizedIn Wide t bins = Sized t bins
SizedIn Narrow t bins = NarrowSized t bins

unfoldable pub lengths_fit : Layout → ℕ → ℕ → ℕ → Bool
lengths_fit Wide small large bins = large == table_len bins
lengths_fit Narrow small large bins = narrow_fit small large bins

abbrev pub is_sized_in : (l : Layout) → TableIn l → ℕ → Bool
is_sized_in Wide t bins = is_sized t bins
is_sized_in Narrow t bins = narrow_fit (length t.sums) (length t.squares) bins

-- what it holds
abbrev pub view_in : (l : Layout) → TableIn l → View
view_in Wide t = view_of t
view_in Narrow t = narrow_view t

abbrev pub laid_view : Layout → List ℕ → List ℕ → View
laid_view l small large = view_in l (laid l small large)

-- a view written out
abbrev pub written_in : (l : Layout) → ℕ → View → TableIn l
written_in Wide bins v = written bins v
written_in Narrow bins v = narrow_written bins v

-- an empty table
abbrev pub empty_in : (l : Layout) → ℕ → TableIn l
empty_in Wide bins = empty_of bins
empty_in Narrow bins = narrow_empty bins

-- a cell written at a place; that there is one; that it fits
abbrev pub put_in : (l : Layout) → TableIn l → ℕ → Cell → TableIn l
put_in Wide t p c = put_at t p c
put_in Narrow t p c = narrow_put t p c

abbrev pub CellIn : (l : Layout) → TableIn l → ℕ → Type 0
CellIn Wide t p = HasCell t p
CellIn Narrow t p = NarrowCell t p

abbrev pub HeldIn : Layout → Cell → Type 0
HeldIn Wide c = Held c
HeldIn Narrow c = NarrowHeld c

-- a table of a grid, and the grid is accepted
pub record TableOfIn (l : Layout) (g : Grid) (t : TableIn l) : Type 0 where
  pub accepted : Accepted g
  pub lent : SizedIn l t (bins_of g)

-- and one in the wide layout
abbrev pub TableOf : Grid → Table → Type 0
TableOf g t = TableOfIn Wide g t
