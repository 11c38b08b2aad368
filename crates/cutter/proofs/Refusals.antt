-- The answer to a cut, test by test, and what a cut that nothing refuses is given.
-- Assumes nothing.
use Rattle.std.specs.Prelude.{None, Some, Result, Ok, Err}
use Rattle.std.specs.Result.{IsErrAnd}
use mathlib.Core.Path.{◌≡◌, refl, ap, ◌∙◌}
use mathlib.Core.Bool.{Bool, true, false, ◌&&◌}
use Prim.Native.Nat.{ℕ, ◌*◌, ◌≤◌, ◌<◌}
use native.Mathlib.Omega.{arith}
use borrow.Author.Tests.{eq-eqb, ne_eqb, le-leb, lt-leb, leb-true, eqb-true, eqb-false, not-false}
use lib.Dec.{eqb}
use Rattle.grid.specs.declared.place.Grid.{Grid}
use Rattle.basics.specs.Answer.{refuse, when_done}
use Rattle.basics.specs.declared.refusal.Refusal.{Refusal}
use Rattle.basics.specs.Refusal.{number_of}
use Rattle.grid.specs.Grid.{grid_of, grid_answer, on_grid, bins_of}
use Rattle.basics.proofs.Range.{and_left, and_right}
use Rattle.basics.proofs.Ends.{refused_keeps, passed}
use Rattle.table.specs.Cell.{View}
use Rattle.table.specs.Layouts.{Layout}
use Rattle.table.specs.Layout.{TableIn, view_in}
use Rattle.table.specs.Sound.{limit_of, total, sound}
use Rattle.rounds.specs.declared.gather.Boxes.{Boxes}
use Rattle.rounds.specs.Loop.{boxes_of}
use Rattle.cutter.specs.Record.{CutRecord}
use Rattle.sums.specs.declared.source.Source.{Source}
use Rattle.sums.specs.declared.source.Source.TheVariants.{Moments}
use Rattle.cutter.specs.Cut.{BuffersIn, Lengths, work_fits, lengths_right, long_enough, cut_number_on, CanCut}
use Rattle.cutter.specs.Cut.{LengthsFit}
use Rattle.cutter.specs.Cut.{refused_record, done_record, record_of, record_on, cut_record_in, later_on, cut_later_in}

-- ---- the work table
pub moments_fit : {sized : Bool} → work_fits Moments sized ≡ true → sized ≡ true
unfolding work_fits
moments_fit e = e

pub fit_moments : {sized : Bool} → sized ≡ true → work_fits Moments sized ≡ true
unfolding work_fits
fit_moments e = e

-- ---- the chain
module _ (limit : ℕ) (g : Grid) (k : ℕ) (fit : Bool) (v : View) where
  pub k_low : k < 1 → cut_number_on limit g k fit v ≡ 2
  unfolding cut_number_on refuse
  k_low n = simp (lt-leb _ _ n)

  pub k_high : 256 < k → cut_number_on limit g k fit v ≡ 2
  unfolding cut_number_on refuse
  k_high n = simp (le-leb 1 k (omega arith), lt-leb _ _ n)

  module _ (a : 1 ≤ k) (b : k ≤ 256) where
    pub too_short : fit ≡ false → cut_number_on limit g k fit v ≡ 5
    unfolding cut_number_on refuse
    too_short n = simp (le-leb _ _ a, le-leb _ _ b, n)

    module _ (e : fit ≡ true) where
      pub not_sound : sound limit g v ≡ false → cut_number_on limit g k fit v ≡ 6
      unfolding cut_number_on refuse
      not_sound n = simp (le-leb _ _ a, le-leb _ _ b, e, n)

      module _ (s : sound limit g v ≡ true) where
        pub no_total : total g v ≡ 0 → cut_number_on limit g k fit v ≡ 8
        unfolding cut_number_on refuse
        no_total n = simp (le-leb _ _ a, le-leb _ _ b, e, s, eq-eqb _ _ n)

        pub accepts : (total g v ≡ 0 → ⊥) → cut_number_on limit g k fit v ≡ 0
        unfolding cut_number_on refuse
        accepts n = simp (le-leb _ _ a, le-leb _ _ b, e, s, ne_eqb _ _ n)

-- ---- a cut that nothing refuses
both_true : (a b : Bool) → (a && b) ≡ true → (a ≡ true) × (b ≡ true)
both_true a b e = (and_left a b e, and_right a b e)

pub lengths_fit_lem : {source : Source} {g : Grid} {k : ℕ} {table : Bool} {l : Lengths}
    → long_enough source g k table l ≡ true → LengthsFit source g k table l
unfolding long_enough
lengths_fit_lem e =
    let one = both_true _ _ e in
    let two = both_true _ _ one.1 in
    let three = both_true _ _ two.1 in
    let four = both_true _ _ three.1 in
    let five = both_true _ _ four.1 in
    record {
      sized = one.0;
      work = two.0;
      palette = leb-true _ _ three.0;
      counts = leb-true _ _ four.0;
      remainders = leb-true _ _ five.0;
      map = eqb-true _ _ five.1;
    }

module _ (source : Source) (g : Grid) (k : ℕ) (table : Bool) (l : Lengths) where
  pub only_map : table ≡ true → work_fits source l.work ≡ true → 3 * k ≤ l.palette → k ≤ l.counts → 3 * k ≤ l.remainders
      → long_enough source g k table l ≡ eqb l.map (bins_of g)
  unfolding long_enough
  only_map t w p c r = simp (t, w, le-leb _ _ p, le-leb _ _ c, le-leb _ _ r)

pub fit_lengths : {source : Source} {g : Grid} {k : ℕ} {table : Bool} {l : Lengths} → LengthsFit source g k table l
    → long_enough source g k table l ≡ true
fit_lengths f = only_map _ _ _ _ _ f.sized f.work f.palette f.counts f.remainders ∙ eq-eqb _ _ f.map

pub can_cut : {limit : ℕ} {g : Grid} {k : ℕ} {fit : Bool} {v : View} → cut_number_on limit g k fit v ≡ 0
    → CanCut limit g k v × (fit ≡ true)
unfolding cut_number_on
can_cut e =
    let size = passed _ 1 _ e in
    let long = passed _ 4 _ size.1 in
    let good = passed _ 5 _ long.1 in
    let some = passed _ 7 _ good.1 in
    let bounds = both_true _ _ (not-false _ size.0) in (
      record {
        least = leb-true _ _ bounds.0;
        most = leb-true _ _ bounds.1;
        is_sound = not-false _ good.0;
        some = positive _ (eqb-false _ _ some.0);
      },
      not-false _ long.0,
    )
  where
    positive : (n : ℕ) → (n ≡ 0 → ⊥) → 0 < n
    positive n h = omega arith

-- what `?` hands on tells the same
pub record_handed : (r : Result Boxes Refusal) (e : Refusal) → IsErrAnd r (λ x. x ≡ e)
    → record_of r ≡ refused_record (number_of e)
record_handed (Ok b) e h = absurd h
record_handed (Err x) e h = ap (λ (y : Refusal). refused_record (number_of y)) h

-- ---- the call: what it hands back, and what it leaves behind
module _ (layout : Layout) (source : Source) (b1 b2 b3 k : ℕ) (t : TableIn layout) (b : BuffersIn layout) where
  abbrev Ends : CutRecord → BuffersIn layout → Type 0
  Ends r e = (r ≡ cut_record_in layout source b1 b2 b3 k t b) × (e ≡ cut_later_in layout source b1 b2 b3 k t b)

  pub cut_no_grid : grid_of b1 b2 b3 ≡ None → {r : CutRecord} → r ≡ refused_record 1 → Ends r b
  unfolding cut_record_in cut_later_in on_grid grid_answer
  cut_no_grid e q = (q ∙ rw e refl, rw e refl)

  module _ {g : Grid} (e : grid_of b1 b2 b3 ≡ Some g) where
    pub cut_refused : {n : ℕ} → n ≡ cut_number_on (limit_of layout) g k (lengths_right layout source g k t b) (view_in layout t) → (n ≡ 0 → ⊥)
        → {r : CutRecord}
        → r ≡ refused_record n → Ends r b
    unfolding cut_record_in cut_later_in record_on on_grid
    cut_refused {n} p h {r} q =
        (q ∙ rw (e, ← p) (refused_keeps n h (refused_record n) _), rw (e, ← p) (refused_keeps n h b _))

    pub cut_done : cut_number_on (limit_of layout) g k (lengths_right layout source g k t b) (view_in layout t) ≡ 0 → {r : CutRecord}
        → r ≡ done_record (boxes_of g (view_in layout t) k) → {l : BuffersIn layout} → l ≡ later_on layout source g (view_in layout t) k b → Ends r l
    unfolding cut_record_in cut_later_in record_on on_grid when_done
    cut_done p q s = (q ∙ rw (e, p) refl, s ∙ rw (e, p) refl)
