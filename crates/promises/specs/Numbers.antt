-- When each answer applies to a call, and what a call is given that nothing refuses (Rules, Answers). Definitions only.
use Rattle.std.specs.Prelude.{Option, Some}
use Rattle.std.specs.Prelude.{◌≡◌, Bool, true, false, not, ◌&&◌, ◌||◌, cond, List, [], ◌∷◌, ℕ, zero, suc, ◌+◌, ◌/◌, ◌%◌, ◌≤◌, ◌<◌, eqb, leb, ltb, ℤ, length}
use Rattle.basics.specs.Answer.{refuse}
use Rattle.grid.specs.declared.place.Grid.{Grid}
use Rattle.grid.specs.Grid.{grid_of, grid_answer, on_grid, bins_of}
use Rattle.table.specs.Layouts.{Layout}
use Rattle.table.specs.Layouts.{Narrow}
use Rattle.table.specs.Table.{table_len, Sized, is_sized, view_of}
use Rattle.table.specs.Narrow.{NarrowTable, NarrowSized, narrow_view}
use Rattle.table.specs.Layout.{TableIn, SizedIn, is_sized_in, view_in}
use Rattle.table.specs.Sound.{limit, limit_of, total, sound}
use Rattle.adder.specs.Batch.{weight_of, batch_of}
use Rattle.table.specs.Sound.{passed_number}
use Rattle.sums.specs.declared.source.Source.{Source}
use Rattle.cutter.specs.Cut.{BuffersIn, lengths_right}
use Rattle.band.specs.Band.{all_below}
use Rattle.seluvava.specs.Cut.{LentIn, has_room}

-- ---- which answers apply
-- the tests of a call, each with its answer
abbrev pub Tests : Type 0
Tests = List (ℕ × Bool)

-- an answer applies where one of its tests holds; one that the call does not have never does
unfoldable pub applies : Tests → ℕ → Bool
applies [] n = false
applies (x ∷ xs) n = (eqb x.0 n && x.1) || applies xs n

-- the first that applies of so many answers from n on, or 0
unfoldable pub lowest_from : ℕ → ℕ → (ℕ → Bool) → ℕ
lowest_from n zero f = 0
lowest_from n (suc more) f = cond (f n) n (lowest_from (suc n) more f)

-- "The lowest answer from 1 to 9 that applies is given; where none applies, the answer is 0."
unfoldable pub lowest_of : (ℕ → Bool) → ℕ
lowest_of f = lowest_from 1 9 f

-- "10 to 14 come before 1, in that order: the first of them that applies is given, whatever else applies."
unfoldable pub earliest_of : (ℕ → Bool) → ℕ
earliest_of f =
    cond (f 10) 10 (cond (f 11) 11 (cond (f 12) 12 (cond (f 13) 13 (cond (f 14) 14 (lowest_of f)))))

-- the answer of the first test that holds, or 0
unfoldable pub chain : Tests → ℕ
chain [] = 0
chain (x ∷ xs) = refuse x.1 x.0 (chain xs)

-- answers from n up to a last one, none lower than the one before
unfoldable pub ascends : ℕ → ℕ → Tests → Bool
ascends last n [] = true
ascends last n (x ∷ xs) = leb n x.0 && (leb x.0 last && ascends last x.0 xs)

-- "a grid size not among the seven" (`grid_told`)
unfoldable pub no_grid : Option Grid → Bool
no_grid c = eqb (grid_answer c).number 1

-- a test that asks for the grid's bins: where there is no grid it does not hold, and 1 applies
unfoldable pub on_bins : Option Grid → (Grid → Bool) → Bool
on_bins c test = on_grid c false test

-- "load 1, 3, 4, 5, 6, 7", and in the narrow layout "refused with 15, in the place of 7"
unfoldable pub load_tests : (l : Layout) → Option Grid → TableIn l → List ℕ → Bool → List ℕ → Tests
load_tests l c t colours weighted weights =
    (1, no_grid c)
    ∷ (3, not (eqb (length colours % 3) 0))
    ∷ (4, weighted && not (eqb (length weights) (length colours / 3)))
    ∷ (5, on_bins c (λ g. not (is_sized_in l t (bins_of g))))
    ∷ (6, on_bins c (λ g. not (sound (limit_of l) g (view_in l t))))
    ∷ (
      passed_number l,
      on_bins c (λ g. ltb (limit_of l) (total g (view_in l t) + weight_of (batch_of colours weighted weights))),
    )
    ∷ []

unfoldable pub load_applies : (l : Layout) → ℕ → ℕ → ℕ → TableIn l → List ℕ → Bool → List ℕ → ℕ → Bool
load_applies l b1 b2 b3 t colours weighted weights = applies (load_tests l (grid_of b1 b2 b3) t colours weighted weights)

-- "merge 1, 5, 6, 7 (either table unsound is 6)"
unfoldable pub merge_tests : (l : Layout) → Option Grid → TableIn l → TableIn l → Tests
merge_tests l c t s =
    (1, no_grid c)
    ∷ (5, on_bins c (λ g. not (is_sized_in l t (bins_of g))))
    ∷ (5, on_bins c (λ g. not (is_sized_in l s (bins_of g))))
    ∷ (6, on_bins c (λ g. not (sound (limit_of l) g (view_in l t))))
    ∷ (6, on_bins c (λ g. not (sound (limit_of l) g (view_in l s))))
    ∷ (passed_number l, on_bins c (λ g. ltb (limit_of l) (total g (view_in l t) + total g (view_in l s))))
    ∷ []

unfoldable pub merge_applies : (l : Layout) → ℕ → ℕ → ℕ → TableIn l → TableIn l → ℕ → Bool
merge_applies l b1 b2 b3 t s = applies (merge_tests l (grid_of b1 b2 b3) t s)

-- "compare 1, 5, 6 (likewise)"
unfoldable pub compare_tests : Option Grid → List ℕ → List ℕ → List ℤ → Tests
compare_tests c t s l =
    (1, no_grid c)
    ∷ (5, on_bins c (λ g. not (is_sized t (bins_of g))))
    ∷ (5, on_bins c (λ g. not (is_sized s (bins_of g))))
    ∷ (5, on_bins c (λ g. not (eqb (length l) (table_len (bins_of g)))))
    ∷ (6, on_bins c (λ g. not (sound limit g (view_of t))))
    ∷ (6, on_bins c (λ g. not (sound limit g (view_of s))))
    ∷ []

unfoldable pub compare_applies : ℕ → ℕ → ℕ → List ℕ → List ℕ → List ℤ → ℕ → Bool
compare_applies b1 b2 b3 t s l = applies (compare_tests (grid_of b1 b2 b3) t s l)

-- "rescue 1, 5"
unfoldable pub rescue_tests : Option Grid → List ℕ → List ℕ → Tests
rescue_tests c t l =
    (1, no_grid c)
    ∷ (5, on_bins c (λ g. not (is_sized t (bins_of g))))
    ∷ (5, on_bins c (λ g. not (eqb (length l) (bins_of g))))
    ∷ []

unfoldable pub rescue_applies : ℕ → ℕ → ℕ → List ℕ → List ℕ → ℕ → Bool
rescue_applies b1 b2 b3 t l = applies (rescue_tests (grid_of b1 b2 b3) t l)

-- "cut 1, 2, 5, 6, 8"; `room` is what only the call for C and Rust is lent besides
unfoldable pub cut_tests : (l : Layout) → Source → Option Grid → ℕ → TableIn l → BuffersIn l → Bool → Tests
cut_tests l source c k t b room =
    (1, no_grid c)
    ∷ (2, not (leb 1 k && leb k 256))
    ∷ (5, on_bins c (λ g. not (lengths_right l source g k t b)))
    ∷ (5, not room)
    ∷ (6, on_bins c (λ g. not (sound (limit_of l) g (view_in l t))))
    ∷ (8, on_bins c (λ g. eqb (total g (view_in l t)) 0))
    ∷ []

unfoldable pub cut_applies : (l : Layout) → Source → ℕ → ℕ → ℕ → ℕ → TableIn l → BuffersIn l → ℕ → Bool
cut_applies l source b1 b2 b3 k t b = applies (cut_tests l source (grid_of b1 b2 b3) k t b true)

unfoldable pub call_applies : (l : Layout) → Source → ℕ → ℕ → ℕ → ℕ → TableIn l → LentIn l → ℕ → Bool
call_applies l source b1 b2 b3 k t e =
    applies
    (cut_tests l source (grid_of b1 b2 b3) k t e.buffers (has_room k (length e.boxes) (length e.spreads)))

-- "map and paint 1, 3, 5, 9"; `lengths` are those that only one of them is lent
unfoldable pub band_tests : Option Grid → List ℕ → ℕ → Bool → List ℕ → ℕ → ℕ → Tests
band_tests c map palette_colours lengths frame first pixels =
    (1, no_grid c)
    ∷ (3, not (eqb (length frame % 3) 0))
    ∷ (5, on_bins c (λ g. not (eqb (length map) (bins_of g))))
    ∷ (5, not lengths)
    ∷ (5, ltb (length frame / 3) (first + pixels))
    ∷ (9, not (all_below palette_colours map))
    ∷ []

-- "index buffer exactly one byte per frame pixel. It is told the palette's length in colours, and anything outside
-- 1..256 gives 5."
unfoldable pub map_applies : ℕ → ℕ → ℕ → List ℕ → ℕ → List ℕ → List ℕ → ℕ → ℕ → ℕ → Bool
map_applies b1 b2 b3 map palette_colours frame indices first pixels =
    applies
    (band_tests (grid_of b1 b2 b3) map palette_colours
    ((leb 1 palette_colours && leb palette_colours 256) && eqb (length indices) (length frame / 3)) frame first pixels)

-- "the palette for painting has 3..768 bytes, a multiple of three"
unfoldable pub paint_applies : ℕ → ℕ → ℕ → List ℕ → List ℕ → List ℕ → ℕ → ℕ → ℕ → Bool
paint_applies b1 b2 b3 map palette frame first pixels =
    applies (band_tests (grid_of b1 b2 b3) map (length palette / 3)
    ((leb 3 (length palette) && leb (length palette) 768) && eqb (length palette % 3) 0) frame first pixels)

-- ---- what a call is given that nothing refuses; of a cut, a mapping and a painting it is `CanCut`, `CanMap`,
-- `CanPaint`
-- no 1: each size is among the seven; and on their grid, none of the call's other answers
pub record OnGrid (b1 b2 b3 : ℕ) (Can : Grid → Type 0) : Type 0 where
  pub g : Grid
  pub chosen : grid_of b1 b2 b3 ≡ Some g
  pub can : Can g

-- of a load, no 3, 4, 5, 6, and no 7 or 15
pub record CanLoad (l : Layout) (t : TableIn l) (colours : List ℕ) (weighted : Bool) (weights : List ℕ) (g : Grid)
    : Type 0
  where
    pub threes : length colours % 3 ≡ 0
    pub paired : weighted ≡ true → length weights ≡ length colours / 3
    pub lent : SizedIn l t (bins_of g)
    pub is_sound : sound (limit_of l) g (view_in l t) ≡ true
    pub fits : total g (view_in l t) + weight_of (batch_of colours weighted weights) ≤ limit_of l

-- of a merge, no 5, 6, and no 7 or 15
pub record CanMerge (l : Layout) (t s : TableIn l) (g : Grid) : Type 0 where
  pub lent : SizedIn l t (bins_of g) × SizedIn l s (bins_of g)
  pub are_sound : (sound (limit_of l) g (view_in l t) ≡ true) × (sound (limit_of l) g (view_in l s) ≡ true)
  pub fits : total g (view_in l t) + total g (view_in l s) ≤ limit_of l

-- of a narrow load that is refused with 15: no 3, 4, 5, 6, and the total would pass the limit
pub record PassesLoad (t : NarrowTable) (colours : List ℕ) (weighted : Bool) (weights : List ℕ) (g : Grid)
    : Type 0 where
  pub threes : length colours % 3 ≡ 0
  pub paired : weighted ≡ true → length weights ≡ length colours / 3
  pub lent : NarrowSized t (bins_of g)
  pub is_sound : sound (limit_of Narrow) g (narrow_view t) ≡ true
  pub past : limit_of Narrow < total g (narrow_view t) + weight_of (batch_of colours weighted weights)

-- and of such a merge: no 5, 6
pub record PassesMerge (t s : NarrowTable) (g : Grid) : Type 0 where
  pub lent : NarrowSized t (bins_of g) × NarrowSized s (bins_of g)
  pub are_sound : (sound (limit_of Narrow) g (narrow_view t) ≡ true) × (sound (limit_of Narrow) g (narrow_view s) ≡ true)
  pub past : limit_of Narrow < total g (narrow_view t) + total g (narrow_view s)

-- of a comparison, no 5, 6
pub record CanCompare (t s : List ℕ) (l : List ℤ) (g : Grid) : Type 0 where
  pub lent : Sized t (bins_of g) × Sized s (bins_of g)
  pub list : length l ≡ table_len (bins_of g)
  pub are_sound : (sound limit g (view_of t) ≡ true) × (sound limit g (view_of s) ≡ true)

-- of a rescue, no 5
pub record CanRescue (t l : List ℕ) (g : Grid) : Type 0 where
  pub lent : Sized t (bins_of g)
  pub list : length l ≡ bins_of g
