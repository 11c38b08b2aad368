-- Weights multiplied by a power of two (Rules, Doubling). Definitions only.
use Rattle.std.specs.Prelude.{◌≡◌, true, List, map, ◌++◌, ℕ, ◌*◌, ◌^◌, ◌≤◌, ◌<◌, get_or, take, drop}
use Rattle.pixels.specs.declared.colour.Rgb.{Rgb}
use Rattle.grid.specs.declared.place.Grid.{Grid}
use Rattle.grid.specs.Grid.{colour_place}
use Rattle.table.specs.Layouts.{Layout}
use Rattle.table.specs.Layouts.{Wide, Narrow}
use Rattle.table.specs.Narrow.{narrow_table}
use Rattle.table.specs.Layout.{TableIn, view_in}
use Rattle.table.specs.Sound.{limit_of, total, sound}
use Rattle.sums.specs.declared.source.Source.{Source}
use Rattle.sums.specs.declared.source.Source.TheVariants.{Moments}
use Rattle.heap.specs.Boxes.{BoxSpread}
use Rattle.cutter.specs.Record.{CutRecord}
use Rattle.cutter.specs.Cut.{BuffersIn, cut_number_in, cut_record_in, cut_later_in}
use Rattle.doubling.specs.Grow.{times_power}

-- every number of a list multiplied by 2 ^ e
unfoldable pub times_all : ℕ → List ℕ → List ℕ
times_all e xs = map (λ n. n * 2 ^ e) xs

-- "multiplying its weights means multiplying all five numbers of every bin"
abbrev pub doubled_in : (l : Layout) → ℕ → TableIn l → TableIn l
doubled_in Wide e t = times_all e t
doubled_in Narrow e t = narrow_table (times_all e t.sums) (times_all e t.squares)

-- a sound table with a total above 0 that still fits when it is multiplied
pub record CanDouble (l : Layout) (g : Grid) (t : TableIn l) (e : ℕ) : Type 0 where
  pub is_sound : sound (limit_of l) g (view_in l t) ≡ true
  pub some : 0 < total g (view_in l t)
  pub fits : total g (view_in l t) * 2 ^ e ≤ limit_of l

-- ---- what a cut of it hands back
-- a place of its record: the same box, its spread multiplied in f64
unfoldable pub doubled_place : ℕ → BoxSpread → BoxSpread
doubled_place e x = record { bounds = x.bounds; spread = times_power e x.spread }

-- the record: the same answer, number of boxes and number of rounds, the same boxes in the same order
unfoldable pub doubled_record : ℕ → CutRecord → CutRecord
doubled_record e r =
    record { number = r.number; boxes = r.boxes; rounds = r.rounds; places = map (doubled_place e) r.places }

-- the first n numbers multiplied, the others as they were
unfoldable pub doubled_front : ℕ → ℕ → List ℕ → List ℕ
doubled_front e n xs = times_all e (take n xs) ++ drop n xs

-- a cut of the multiplied table beside that of the table, with the same buffers lent: the same answer, boxes, order,
-- rounds, palette and map, and so the same index for every pixel; each spread, count and remainder multiplied, and so
-- are the moments that a cut with moments leaves where it is done
pub record Doubles (l : Layout) (source : Source) (g : Grid) (b1 b2 b3 k : ℕ) (t : TableIn l) (b : BuffersIn l) (e : ℕ)
    : Type 0
  where
    pub hands : cut_record_in l source b1 b2 b3 k (doubled_in l e t) b
        ≡ doubled_record e (cut_record_in l source b1 b2 b3 k t b)
    pub palette : (cut_later_in l source b1 b2 b3 k (doubled_in l e t) b).results.palette
        ≡ (cut_later_in l source b1 b2 b3 k t b).results.palette
    pub counts : (cut_later_in l source b1 b2 b3 k (doubled_in l e t) b).results.counts
        ≡ doubled_front e (cut_record_in l source b1 b2 b3 k t b).boxes
        (cut_later_in l source b1 b2 b3 k t b).results.counts
    pub remainders : (cut_later_in l source b1 b2 b3 k (doubled_in l e t) b).results.remainders
        ≡ doubled_front e (3 * (cut_record_in l source b1 b2 b3 k t b).boxes)
        (cut_later_in l source b1 b2 b3 k t b).results.remainders
    pub map : (cut_later_in l source b1 b2 b3 k (doubled_in l e t) b).results.map
        ≡ (cut_later_in l source b1 b2 b3 k t b).results.map
    pub pixel : (c : Rgb)
        → get_or (cut_later_in l source b1 b2 b3 k (doubled_in l e t) b).results.map (colour_place g c) 0
        ≡ get_or (cut_later_in l source b1 b2 b3 k t b).results.map (colour_place g c) 0
    pub work : source ≡ Moments → cut_number_in l source b1 b2 b3 k t b ≡ 0
        → (cut_later_in l source b1 b2 b3 k (doubled_in l e t) b).work
        ≡ doubled_in l e (cut_later_in l source b1 b2 b3 k t b).work
