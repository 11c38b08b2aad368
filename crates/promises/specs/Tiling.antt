-- What the record of a cut is to be, with the palette, counts and map that it leaves behind (Rules, Demands).
-- Definitions only.
use Rattle.std.specs.Prelude.{◌≡◌, cond, List, ℕ, ◌<◌, eqb, length, get_or}
use Rattle.grid.specs.declared.place.Grid.{Grid}
use Rattle.basics.specs.Range.{sum_from}
use Rattle.grid.specs.Grid.{bins_of, colour_place}
use Rattle.pixels.specs.Colour.{colour_at}
use Rattle.table.specs.Table.{view_of}
use Rattle.table.specs.Sound.{total}
use Rattle.adder.specs.Batch.{Weighted, sum_over}
use Rattle.boxes.specs.declared.sides.Bounds.{Bounds}
use Rattle.boxes.specs.Box.{Within}
use Rattle.boxes.specs.Box.{no_box}
use Rattle.cutter.specs.Record.{CutRecord}
use Rattle.cutter.specs.Palette.{colour_of, colours_of, front_of}
use Rattle.boxes.specs.Holds.{holds_at, Tiles}
use Rattle.cutter.specs.Cut.{Buffers, list_of}

-- the boxes of a record, in order: those of its places that are in use
unfoldable pub boxes_in : CutRecord → List Bounds
boxes_in r = list_of r.boxes r.places

unfoldable pub box_in : CutRecord → ℕ → Bounds
box_in r i = get_or (boxes_in r) i no_box

pub record Tiling (g : Grid) (t : List ℕ) (r : CutRecord) (later : Buffers) : Type 0 where
  pub listed : length (boxes_in r) ≡ r.boxes
  -- each bin of the grid lies in exactly one box
  pub tiles : Tiles g (boxes_in r)
  -- each box is one of the grid, with some bins in each dimension
  pub within : (i : ℕ) → i < r.boxes → Within g (box_in r i)
  -- each count is the sum of the weights in its box
  pub count : (i : ℕ) → i < r.boxes
      → get_or later.results.counts i 0 ≡ sum_from 0 (bins_of g) (λ p. cond (holds_at g (box_in r i) p) (view_of t p 0) 0)
  -- no box is empty
  pub some : (i : ℕ) → i < r.boxes → 0 < get_or later.results.counts i 0
  -- the counts add up to the total
  pub all : sum_from 0 r.boxes (λ i. get_or later.results.counts i 0) ≡ total g (view_of t)
  -- "every bin of it gets index i in the map", and no other bin does
  pub index : (i p : ℕ) → i < r.boxes → p < bins_of g → holds_at g (box_in r i) p ≡ eqb (get_or later.results.map p 0) i
  pub below : (p : ℕ) → p < bins_of g → get_or later.results.map p 0 < r.boxes
  -- "Its palette colour is each sum divided by n, rounded down"
  pub colour : (i : ℕ) → i < r.boxes → colour_at later.results.palette i ≡ colour_of g (view_of t) (box_in r i)
  -- "the filled front of the lent palette" is these colours, one after the other
  pub front : front_of later.results.palette r.boxes ≡ colours_of g (view_of t) (boxes_in r)

-- of a table loaded from colours, "each count is the sum of loaded weights in its box": of the colours whose bin lies
-- there, which are those that the map gives its index
pub record LoadedCounts (g : Grid) (cs : List Weighted) (r : CutRecord) (later : Buffers) : Type 0 where
  pub count : (i : ℕ) → i < r.boxes
      → get_or later.results.counts i 0
      ≡ sum_over cs (λ c. cond (holds_at g (box_in r i) (colour_place g c.colour)) c.weight 0)
  pub mapped : (i : ℕ) → i < r.boxes
      → get_or later.results.counts i 0
      ≡ sum_over cs (λ c. cond (eqb (get_or later.results.map (colour_place g c.colour) 0) i) c.weight 0)
