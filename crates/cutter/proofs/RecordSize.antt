-- How large the record of a cut is: it has no more boxes than were asked for, and always 256 places.
-- Assumes nothing.
use Rattle.std.specs.Prelude.{None, Option, Some}
use mathlib.Core.Path.{◌≡◌, refl, sym}
use mathlib.Core.Bool.{Bool}
use Prim.Native.Nat.{ℕ, zero, suc, ◌≤◌}
use native.Mathlib.Omega.{arith}
use lib.ListN.{length}
use Rattle.grid.specs.declared.place.Grid.{Grid}
use Rattle.basics.specs.Answer.{when_done}
use Rattle.grid.specs.Grid.{grid_of, grid_answer, on_grid}
use Rattle.basics.proofs.Range.{length_list}
use Rattle.table.specs.Layouts.{Layout}
use Rattle.table.specs.Layout.{TableIn, view_in}
use Rattle.table.specs.Sound.{limit_of}
use Rattle.rounds.specs.Loop.{boxes_of, places_of}
use Rattle.rounds.proofs.Filled.{heap_most}
use Rattle.sums.specs.declared.source.Source.{Source}
use Rattle.cutter.specs.Record.{CutRecord}
use Rattle.cutter.proofs.Refusals.{can_cut}
use Rattle.cutter.specs.Cut.{BuffersIn, lengths_right, cut_number_on, refused_record, done_record, record_on, cut_record_in}

module _ (layout : Layout) (source : Source) (k : ℕ) (t : TableIn layout) where
  few_on : (g : Grid) (fit : Bool) → (record_on (limit_of layout) g k fit (view_in layout t)).boxes ≤ k
  unfolding record_on when_done done_record refused_record boxes_of
  few_on g fit = go (cut_number_on (limit_of layout) g k fit (view_in layout t)) refl
    where
      go : (n : ℕ) → n ≡ cut_number_on (limit_of layout) g k fit (view_in layout t)
          → (when_done n (done_record (boxes_of g (view_in layout t) k)) (refused_record n)).boxes ≤ k
      go zero e = let can = (can_cut (sym e)).0 in heap_most g (view_in layout t) k can.least can.most
      go (suc n) e = omega arith

  few_cut : (b1 b2 b3 : ℕ) (b : BuffersIn layout) → (cut_record_in layout source b1 b2 b3 k t b).boxes ≤ k
  unfolding cut_record_in on_grid refused_record
  few_cut b1 b2 b3 b = go (grid_of b1 b2 b3)
    where
      go : (c : Option Grid)
          → (on_grid c (refused_record (grid_answer c).number)
          (λ g. record_on (limit_of layout) g k (lengths_right layout source g k t b) (view_in layout t))).boxes ≤ k
      go (Some g) = few_on g (lengths_right layout source g k t b)
      go None = omega arith

  pub few : (b1 b2 b3 : ℕ) (b : BuffersIn layout) {r : CutRecord} → r ≡ cut_record_in layout source b1 b2 b3 k t b → r.boxes ≤ k
  few b1 b2 b3 b e = rw e (few_cut b1 b2 b3 b)

  places_on : (g : Grid) (fit : Bool) → length (record_on (limit_of layout) g k fit (view_in layout t)).places ≡ 256
  unfolding record_on when_done done_record refused_record boxes_of places_of
  places_on g fit = go (cut_number_on (limit_of layout) g k fit (view_in layout t))
    where
      go : (n : ℕ) → length (when_done n (done_record (boxes_of g (view_in layout t) k)) (refused_record n)).places ≡ 256
      go zero = length_list 0 256 _
      go (suc n) = refl

  pub all_places : (b1 b2 b3 : ℕ) (b : BuffersIn layout) {r : CutRecord} → r ≡ cut_record_in layout source b1 b2 b3 k t b
      → length r.places ≡ 256
  unfolding cut_record_in on_grid refused_record
  all_places b1 b2 b3 b e = rw e (go (grid_of b1 b2 b3))
    where
      go : (c : Option Grid)
          → length
          (on_grid c (refused_record (grid_answer c).number)
          (λ g. record_on (limit_of layout) g k (lengths_right layout source g k t b) (view_in layout t))).places
          ≡ 256
      go (Some g) = places_on g (lengths_right layout source g k t b)
      go None = refl
