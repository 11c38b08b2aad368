-- What a caller of cut may use without seeing inside its definitions: a refusal hands back its answer with no boxes and
-- leaves all as it was, and where the answer is 0 the grid is accepted, the table is sound, and record and buffers are
-- those of the boxes found.
-- Assumes nothing.
use Rattle.std.specs.Prelude.{None, Option, Some}
use mathlib.Core.Path.{◌≡◌, refl, sym, ap, ◌∙◌}
use mathlib.Core.Bool.{Bool, true}
use Prim.Native.Nat.{ℕ, zero, suc}
use native.Mathlib.Omega.{arith}
use Rattle.grid.specs.declared.place.Grid.{Grid}
use Rattle.basics.specs.Answer.{when_done}
use Rattle.grid.specs.Grid.{grid_of, grid_answer, on_grid, number_on, Accepted, bins_of}
use Rattle.grid.proofs.Places.{chose}
use Rattle.table.specs.Cell.{View}
use Rattle.table.specs.Layouts.{Layout}
use Rattle.table.specs.Layout.{TableIn, is_sized_in, view_in}
use Rattle.table.specs.Sound.{limit_of}
use Rattle.rounds.specs.Loop.{boxes_of}
use Rattle.sums.specs.declared.source.Source.{Source}
use Rattle.sums.specs.declared.source.Source.TheVariants.{Bins}
use Rattle.cutter.specs.Record.{CutRecord}
use Rattle.cutter.specs.Cut.{BuffersIn, lengths_of, lengths_right, cut_number_on, cut_number_in, CanCut, LengthsFit}
use Rattle.cutter.specs.Cut.{refused_record, done_record, record_on, cut_record_in, later_on, cut_later_in}
use Rattle.cutter.proofs.Refusals.{accepts, lengths_fit_lem, fit_lengths, can_cut}

-- nothing refuses a cut of a sound table with a total above 0, k in 1..256, where the lengths fit
pub nothing_refuses : {limit : ℕ} {g : Grid} {k : ℕ} {fit : Bool} {v : View} → CanCut limit g k v → fit ≡ true
    → cut_number_on limit g k fit v ≡ 0
nothing_refuses {limit} {g} {k} {fit} {v} c e =
    accepts limit g k fit v c.least c.most e c.is_sound (λ z. omega (arith, c.some))

module _ (layout : Layout) (source : Source) (b1 b2 b3 k : ℕ) (t : TableIn layout) (b : BuffersIn layout) where
  -- the answer of the record
  pub record_number : (cut_record_in layout source b1 b2 b3 k t b).number ≡ cut_number_in layout source b1 b2 b3 k t b
  unfolding cut_record_in cut_number_in record_on number_on on_grid grid_answer when_done refused_record done_record
  record_number = go (grid_of b1 b2 b3)
    where
      of : (n : ℕ) (r : CutRecord) → r.number ≡ 0 → (when_done n r (refused_record n)).number ≡ n
      of zero r e = e
      of (suc n) r e = refl

      go : (c : Option Grid)
          → (on_grid c (refused_record (grid_answer c).number)
          (λ g. when_done (cut_number_on (limit_of layout) g k (lengths_right layout source g k t b) (view_in layout t))
          (done_record (boxes_of g (view_in layout t) k))
          (refused_record (cut_number_on (limit_of layout) g k (lengths_right layout source g k t b) (view_in layout t))))).number
          ≡ on_grid c (grid_answer c).number (λ g. cut_number_on (limit_of layout) g k (lengths_right layout source g k t b) (view_in layout t))
      go (Some g) =
          of (cut_number_on (limit_of layout) g k (lengths_right layout source g k t b) (view_in layout t)) (done_record (boxes_of g (view_in layout t) k)) refl
      go None = refl

  -- "A refusal writes nothing. A refused cut hands back its answer, zero boxes, zero rounds and box places all zero."
  pub cut_refuses : {n : ℕ} → cut_number_in layout source b1 b2 b3 k t b ≡ suc n
      → (cut_record_in layout source b1 b2 b3 k t b ≡ refused_record (suc n)) × (cut_later_in layout source b1 b2 b3 k t b ≡ b)
  unfolding cut_record_in cut_later_in cut_number_in record_on number_on on_grid grid_answer when_done
  cut_refuses {n} = go (grid_of b1 b2 b3)
    where
      of : {A : Type 0} (m : ℕ) (x y : A) → m ≡ suc n → when_done m x y ≡ y
      of m x y e = rw e refl

      go : (c : Option Grid)
          → on_grid c (grid_answer c).number (λ g. cut_number_on (limit_of layout) g k (lengths_right layout source g k t b) (view_in layout t))
          ≡ suc n
          → (on_grid c (refused_record (grid_answer c).number)
          (λ g. when_done (cut_number_on (limit_of layout) g k (lengths_right layout source g k t b) (view_in layout t))
          (done_record (boxes_of g (view_in layout t) k))
          (refused_record (cut_number_on (limit_of layout) g k (lengths_right layout source g k t b) (view_in layout t)))) ≡ refused_record (suc n))
          × (on_grid c b
          (λ g. when_done (cut_number_on (limit_of layout) g k (lengths_right layout source g k t b) (view_in layout t))
          (later_on layout source g (view_in layout t) k b) b)
          ≡ b)
      go (Some g) e = (
        of (cut_number_on (limit_of layout) g k (lengths_right layout source g k t b) (view_in layout t)) _ _ e
            ∙ ap refused_record e,
        of (cut_number_on (limit_of layout) g k (lengths_right layout source g k t b) (view_in layout t)) _ _ e,
      )
      go None e = (ap refused_record e, refl)

  -- what a cut that is done tells
  pub record CutDone (g : Grid) : Type 0 where
    pub accepted : Accepted g
    pub can : CanCut (limit_of layout) g k (view_in layout t)
    pub fit : LengthsFit source g k (is_sized_in layout t (bins_of g)) (lengths_of layout g b)
    pub hands : cut_record_in layout source b1 b2 b3 k t b ≡ done_record (boxes_of g (view_in layout t) k)
    pub leaves : cut_later_in layout source b1 b2 b3 k t b ≡ later_on layout source g (view_in layout t) k b

  pub cut_says : {g : Grid} → grid_of b1 b2 b3 ≡ Some g → cut_number_in layout source b1 b2 b3 k t b ≡ 0 → CutDone g
  unfolding cut_number_in cut_record_in cut_later_in record_on number_on on_grid when_done
  cut_says {g} e n =
      let m : cut_number_on (limit_of layout) g k (lengths_right layout source g k t b) (view_in layout t) ≡ 0 = sym (rw e refl) ∙ n in
      record {
        accepted = (chose b1 b2 b3 g e).accepted;
        can = (can_cut m).0;
        fit = lengths_fit_lem (can_cut m).1;
        hands = rw (e, m) refl;
        leaves = rw (e, m) refl;
      }

  -- "where none applies, the answer is 0"
  pub cut_accepts : {g : Grid} → grid_of b1 b2 b3 ≡ Some g → CanCut (limit_of layout) g k (view_in layout t)
      → LengthsFit source g k (is_sized_in layout t (bins_of g)) (lengths_of layout g b)
      → cut_number_in layout source b1 b2 b3 k t b ≡ 0
  unfolding cut_number_in number_on on_grid
  cut_accepts e c f = rw e (nothing_refuses c (fit_lengths f))

-- a cut that adds up bins leaves its work table alone
pub bins_leave_work : (layout : Layout) (b1 b2 b3 k : ℕ) (t : TableIn layout) (b : BuffersIn layout) → (cut_later_in layout Bins b1 b2 b3 k t b).work ≡ b.work
unfolding cut_later_in on_grid when_done later_on
bins_leave_work layout b1 b2 b3 k t b = go (grid_of b1 b2 b3)
  where
    of : (g : Grid) (n : ℕ) → (when_done n (later_on layout Bins g (view_in layout t) k b) b).work ≡ b.work
    of g zero = refl
    of g (suc n) = refl

    go : (c : Option Grid)
        → (on_grid c b
        (λ g. when_done (cut_number_on (limit_of layout) g k (lengths_right layout Bins g k t b) (view_in layout t)) (later_on layout Bins g (view_in layout t) k b) b)
        ).work ≡ b.work
    go (Some g) = of g (cut_number_on (limit_of layout) g k (lengths_right layout Bins g k t b) (view_in layout t))
    go None = refl
