-- The call cut (Rules, Results; Rules, Answers): its answer, its record and its results over a view and for any limit,
-- and the call on lent lists. Definitions only.
use Rattle.std.specs.Prelude.{Result, Ok, Err, ◌≡◌, Bool, true, not, ◌&&◌, List, [], map, ℕ, ◌*◌, ◌≤◌, ◌<◌, eqb, leb, length, take, replicate}
use Rattle.grid.specs.declared.place.Grid.{Grid}
use Rattle.basics.specs.Answer.{refuse, when_done}
use Rattle.basics.specs.declared.refusal.Refusal.{Refusal}
use Rattle.basics.specs.Refusal.{number_of}
use Rattle.grid.specs.Grid.{grid_of, grid_answer, on_grid, number_on, bins_of}
use Rattle.table.specs.Cell.{View}
use Rattle.table.specs.Layouts.{Layout, Wide}
use Rattle.table.specs.Table.{Table}
use Rattle.table.specs.Layout.{TableIn, laid, is_sized_in, view_in, written_in}
use Rattle.table.specs.Sound.{limit_of, total, sound, unsound_number}
use Rattle.boxes.specs.declared.sides.Bounds.{Bounds}
use Rattle.boxes.specs.Box.{no_box}
use Rattle.sums.specs.declared.source.Source.{Source}
use Rattle.sums.specs.declared.source.Source.TheVariants.{Moments, Bins}
use Rattle.sums.specs.Moments.{moments_of}
use Rattle.heap.specs.Boxes.{BoxSpread}
use Rattle.rounds.specs.declared.gather.Boxes.{Boxes}
use Rattle.rounds.specs.Loop.{with_zero, boxes_of}
use Rattle.cutter.specs.Record.{CutRecord}
use Rattle.cutter.specs.Palette.{palette_later, counts_later, remainders_later}
use Rattle.cutter.specs.Map.{map_of}

-- ---- the answer
-- the answer to a cut on an accepted grid, where lengths fit or not
unfoldable pub cut_number_on : ℕ → Grid → ℕ → Bool → View → ℕ
cut_number_on most g k fit v =
    refuse (not (leb 1 k && leb k 256)) 2
    (refuse (not fit) 5
    (refuse (not (sound most g v)) unsound_number
    (refuse (eqb (total g v) 0) 8 0)))

-- a cut that nothing refuses, where the lengths fit
pub record CanCut (limit : ℕ) (g : Grid) (k : ℕ) (v : View) : Type 0 where
  pub least : 1 ≤ k
  pub most : k ≤ 256
  pub is_sound : sound limit g v ≡ true
  pub some : 0 < total g v

-- ---- the record: "its answer, the number of boxes, the number of rounds, and the boxes with their spreads in order;
-- places past the last box are all zeros"
-- "A refused cut hands back its answer, zero boxes, zero rounds and box places all zero."
abbrev pub no_boxes : Boxes
no_boxes = record { boxes = 0; rounds = 0; places = replicate 256 (with_zero no_box) }

unfoldable pub refused_record : ℕ → CutRecord
refused_record n =
    record { number = n; boxes = no_boxes.boxes; rounds = no_boxes.rounds; places = no_boxes.places }

unfoldable pub done_record : Boxes → CutRecord
done_record b = record { number = 0; boxes = b.boxes; rounds = b.rounds; places = b.places }

-- the record that a cut's result tells
abbrev pub record_of : Result Boxes Refusal → CutRecord
record_of (Ok b) = done_record b
record_of (Err r) = refused_record (number_of r)

unfoldable pub record_on : ℕ → Grid → ℕ → Bool → View → CutRecord
record_on most g k fit v =
    let n = cut_number_on most g k fit v in
    when_done n (done_record (boxes_of g v k)) (refused_record n)

-- ---- the results
pub record Results : Type 0 where
  pub palette : List ℕ
  pub counts : List ℕ
  pub remainders : List ℕ
  pub map : List ℕ

-- the boxes of the first n places, in order
unfoldable pub list_of : ℕ → List BoxSpread → List Bounds
list_of n places = map (λ x. x.bounds) (take n places)

-- the boxes of a cut
unfoldable pub box_list : Grid → View → ℕ → List Bounds
box_list g v k = let b = boxes_of g v k in list_of b.boxes b.places

-- palette, counts and remainders are filled in front; the map is full
unfoldable pub results_on : Grid → View → ℕ → Results → Results
results_on g v k r =
    record {
      palette = palette_later g v (box_list g v k) r.palette;
      counts = counts_later g v (box_list g v k) r.counts;
      remainders = remainders_later g v (box_list g v k) r.remainders;
      map = map_of g (box_list g v k);
    }

-- ---- the call on lent lists
-- what is lent to be written: a work table in the table's layout, and the results
pub record BuffersIn (l : Layout) : Type 0 where
  pub work : TableIn l
  pub results : Results

abbrev pub Buffers : Type 0
Buffers = BuffersIn Wide

abbrev pub buffers_in : (l : Layout) → TableIn l → List ℕ → List ℕ → List ℕ → List ℕ → BuffersIn l
buffers_in l work palette counts remainders map =
    record {
      work = work;
      results = record { palette = palette; counts = counts; remainders = remainders; map = map };
    }

abbrev pub buffers : Table → List ℕ → List ℕ → List ℕ → List ℕ → Buffers
buffers work palette counts remainders map = buffers_in Wide work palette counts remainders map

-- whether the work table is one of the grid, and the lengths of the rest
pub record Lengths : Type 0 where
  pub work : Bool
  pub palette : ℕ
  pub counts : ℕ
  pub remainders : ℕ
  pub map : ℕ

abbrev pub lengths_of : (l : Layout) → Grid → BuffersIn l → Lengths
lengths_of l g b =
    let r = b.results in
    record {
      work = is_sized_in l b.work (bins_of g);
      palette = length r.palette;
      counts = length r.counts;
      remainders = length r.remainders;
      map = length
          r.map;
    }

-- ---- what a source of sums asks of the work table's lengths, and leaves in it
unfoldable pub work_fits : Source → Bool → Bool
work_fits Moments sized = sized
work_fits Bins sized = true

-- "the work table holds the moments of the whole table"
abbrev pub work_later : Source → (l : Layout) → Grid → View → TableIn l → TableIn l
work_later Moments l g v old = written_in l (bins_of g) (moments_of g v)
work_later Bins l g v old = old

-- where no work table is lent
abbrev pub no_work_in : (l : Layout) → TableIn l
no_work_in l = laid l [] []

abbrev pub no_work : Table
no_work = no_work_in Wide

-- "table and work table exactly 5·bins", or in the narrow layout "both lists of exact length"; "map exactly bins",
-- "palette at least 3·k bytes, counts (u32) at least k, remainders (u32) at least 3·k"
pub record LengthsFit (source : Source) (g : Grid) (k : ℕ) (table : Bool) (l : Lengths) : Type 0 where
  pub sized : table ≡ true
  pub work : work_fits source l.work ≡ true
  pub palette : 3 * k ≤ l.palette
  pub counts : k ≤ l.counts
  pub remainders : 3 * k ≤ l.remainders
  pub map : l.map ≡ bins_of g

unfoldable pub long_enough : Source → Grid → ℕ → Bool → Lengths → Bool
long_enough source g k table l =
    table
    && (work_fits source l.work &&
    (leb (3 * k) l.palette && (leb k l.counts && (leb (3 * k) l.remainders && eqb l.map (bins_of g)))))

-- whether what is lent has the right lengths
abbrev pub lengths_right : (l : Layout) → Source → Grid → ℕ → TableIn l → BuffersIn l → Bool
lengths_right l source g k t b = long_enough source g k (is_sized_in l t (bins_of g)) (lengths_of l g b)

-- its answer, in either layout
unfoldable pub cut_number_in : (l : Layout) → Source → ℕ → ℕ → ℕ → ℕ → TableIn l → BuffersIn l → ℕ
cut_number_in l source b1 b2 b3 k t b =
    number_on (grid_of b1 b2 b3) (λ g. cut_number_on (limit_of l) g k (lengths_right l source g k t b) (view_in l t))

unfoldable pub cut_record_in : (l : Layout) → Source → ℕ → ℕ → ℕ → ℕ → TableIn l → BuffersIn l → CutRecord
cut_record_in l source b1 b2 b3 k t b =
    let c = grid_of b1 b2 b3 in
    on_grid c (refused_record (grid_answer c).number)
    (λ g. record_on (limit_of l) g k (lengths_right l source g k t b) (view_in l t))

-- what stands in the work table then, and the results of the boxes
unfoldable pub later_on : (l : Layout) → Source → Grid → View → ℕ → BuffersIn l → BuffersIn l
later_on l source g v k b =
    record { work = work_later source l g v b.work; results = results_on g v k b.results }

-- "A refusal writes nothing."
unfoldable pub cut_later_in : (l : Layout) → Source → ℕ → ℕ → ℕ → ℕ → TableIn l → BuffersIn l → BuffersIn l
cut_later_in l source b1 b2 b3 k t b =
    on_grid (grid_of b1 b2 b3) b
    (λ g. when_done (cut_number_on (limit_of l) g k (lengths_right l source g k t b) (view_in l t))
    (later_on l source g (view_in l t) k b) b)

-- and of a table in the wide layout
abbrev pub cut_number : Source → ℕ → ℕ → ℕ → ℕ → Table → Buffers → ℕ
cut_number source b1 b2 b3 k t b = cut_number_in Wide source b1 b2 b3 k t b

abbrev pub cut_record : Source → ℕ → ℕ → ℕ → ℕ → Table → Buffers → CutRecord
cut_record source b1 b2 b3 k t b = cut_record_in Wide source b1 b2 b3 k t b

abbrev pub cut_later : Source → ℕ → ℕ → ℕ → ℕ → Table → Buffers → Buffers
cut_later source b1 b2 b3 k t b = cut_later_in Wide source b1 b2 b3 k t b
