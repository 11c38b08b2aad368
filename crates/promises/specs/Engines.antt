-- Two engines, one that has moments and one that adds up bins, and what one gives beside the other (Rules, Engines).
-- Definitions only.
use Rattle.std.specs.Prelude.{◌≡◌, true, ◌⊎◌, List, ℕ, Float}
use Rattle.grid.specs.declared.place.Grid.{Grid}
use Rattle.grid.specs.Grid.{bins_of}
use Rattle.table.specs.Layouts.{Layout}
use Rattle.table.specs.Layout.{TableIn, is_sized_in}
use Rattle.sums.specs.declared.source.Source.TheVariants.{Moments, Bins}
use Rattle.cutter.specs.Cut.{Results, BuffersIn, no_work_in, cut_number_in, cut_record_in, cut_later_in}
use Rattle.seluvava.specs.Cut.{lent_in, cut_answer_in, call_later_in}

-- what is lent to the engine that adds up bins, and to the other one: the same results, and no work table or this one
abbrev pub without_work : (l : Layout) → Results → BuffersIn l
without_work l r = record { work = no_work_in l; results = r }

abbrev pub with_work : (l : Layout) → TableIn l → Results → BuffersIn l
with_work l work r = record { work = work; results = r }

-- "the same boxes, order, palette, counts and map", with spreads, rounds and remainders, "and the same refusals"
pub record SameEngines (l : Layout) (b1 b2 b3 k : ℕ) (t work : TableIn l) (r : Results) : Type 0 where
  pub number : cut_number_in l Bins b1 b2 b3 k t (without_work l r)
      ≡ cut_number_in l Moments b1 b2 b3 k t (with_work l work r)
  pub hands : cut_record_in l Bins b1 b2 b3 k t (without_work l r) ≡ cut_record_in l Moments b1 b2 b3 k t (with_work l work r)
  pub leaves : (cut_later_in l Bins b1 b2 b3 k t (without_work l r)).results
      ≡ (cut_later_in l Moments b1 b2 b3 k t (with_work l work r)).results

-- and so through the calls for C and Rust, which are lent arrays for the boxes and their spreads besides
pub record SameCalls (l : Layout) (b1 b2 b3 k : ℕ) (t work : TableIn l) (r : Results) (boxes : List ℕ)
    (spreads : List Float) : Type 0
  where
    pub answer : cut_answer_in l Bins b1 b2 b3 k t (lent_in l (without_work l r) boxes spreads)
        ≡ cut_answer_in l Moments b1 b2 b3 k t (lent_in l (with_work l work r) boxes spreads)
    pub leaves : (call_later_in l Bins b1 b2 b3 k t (lent_in l (without_work l r) boxes spreads)).buffers.results
        ≡ (call_later_in l Moments b1 b2 b3 k t (lent_in l (with_work l work r) boxes spreads)).buffers.results
    pub boxes_left : (call_later_in l Bins b1 b2 b3 k t (lent_in l (without_work l r) boxes spreads)).boxes
        ≡ (call_later_in l Moments b1 b2 b3 k t (lent_in l (with_work l work r) boxes spreads)).boxes
    pub spreads_left : (call_later_in l Bins b1 b2 b3 k t (lent_in l (without_work l r) boxes spreads)).spreads
        ≡ (call_later_in l Moments b1 b2 b3 k t (lent_in l (with_work l work r) boxes spreads)).spreads

-- a work table as the engine with moments asks for on a grid: one of its bins
abbrev pub ExactWork : (l : Layout) → Grid → TableIn l → Type 0
ExactWork l g work = is_sized_in l work (bins_of g) ≡ true

-- the first two refusals
abbrev pub FirstTwo : ℕ → Type 0
FirstTwo n = (n ≡ 1) ⊎ (n ≡ 2)
