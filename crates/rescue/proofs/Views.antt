-- Laws of what a rescue makes of a view: which bins are cleared and why, that the result is sound, and that a sound
-- view stays as it is.
-- Assumes nothing.
use mathlib.Core.Path.{◌≡◌, refl, sym, ap, ◌∙◌}
use mathlib.Core.Bool.{Bool, true, false, cond}
use Prim.Native.Nat.{ℕ, zero, suc, ◌+◌, ◌≤◌, ◌<◌}
use native.Mathlib.Nat.{zero-add, add-zero}
use native.Mathlib.Omega.{arith}
use borrow.Author.Tests.{eqb-true, eq-eqb, ne_eqb, leb-true, leb-false, le-leb}
use lib.Dec.{eqb, leb}
use Rattle.basics.specs.Range.{sum_from}
use Rattle.basics.proofs.Range.{sum_last, sum_grow, and_right}
use Rattle.grid.specs.declared.place.Grid.{Grid}
use Rattle.grid.specs.Grid.{bins_of}
use Rattle.table.specs.Cell.{View}
use Rattle.table.specs.Sound.{span_at, bin_sound, total}
use Rattle.table.proofs.Bins.{bin_keeps, bin_sound_lem}
use Rattle.table.proofs.Soundness.{Keeps, keeps_zero, Sound, sound_by, total_high, total_is, weight_high}
use Rattle.rescue.specs.Rescue.{keeps_bounds, reason_for, kept_before, reason_at, rescued}
use Rattle.rescue.specs.Inner.{with_weight}
use Rattle.rescue.proofs.Walks.{kept, kept_next, kept_under}

-- one number more
next : (p : ℕ) → suc p ≡ p + 1
next p = omega arith

sum_next : (p : ℕ) (f : ℕ → ℕ) → sum_from 0 (p + 1) f ≡ sum_from 0 p f + f p
sum_next p f = sum_last 0 p f ∙ ap (λ (q : ℕ). sum_from 0 p f + f q) (zero-add p)

-- ---- what a reason tells
module _ (most had weight : ℕ) where
  -- of a bin that keeps its bounds
  abbrev for_total : Bool → ℕ
  for_total fits = cond fits 0 2

  never : {a b : ℕ} → a < b → a ≡ b → ⊥
  never h e = omega (arith, h, e)

  pub reason_high : (keeps : Bool) → reason_for most keeps had weight ≤ 2
  unfolding reason_for
  reason_high false = omega arith
  reason_high true = go (leb (had + weight) most)
    where
      go : (b : Bool) → for_total b ≤ 2
      go true = omega arith
      go false = omega arith

  pub tells_bounds : (keeps : Bool) → reason_for most keeps had weight ≡ 1 → keeps ≡ false
  unfolding reason_for
  tells_bounds false e = refl
  tells_bounds true e = absurd (go (leb (had + weight) most) e)
    where
      go : (b : Bool) → for_total b ≡ 1 → ⊥
      go true e = omega arith
      go false e = omega arith

  pub tells_total : (keeps : Bool) → reason_for most keeps had weight ≡ 2 → (keeps ≡ true) × (most < had + weight)
  unfolding reason_for
  tells_total false e = absurd (never {a = 1} {b = 2} (omega arith) e)
  tells_total true e = (refl, go (leb (had + weight) most) refl e)
    where
      go : (b : Bool) → leb (had + weight) most ≡ b → for_total b ≡ 2 → most < had + weight
      go true p e = absurd (never {a = 0} {b = 2} (omega arith) e)
      go false p e = leb-false (had + weight) most p

  pub tells_kept : (keeps : Bool) → reason_for most keeps had weight ≡ 0 → (keeps ≡ true) × (had + weight ≤ most)
  unfolding reason_for
  tells_kept false e = absurd (never {a = 0} {b = 1} (omega arith) (sym e))
  tells_kept true e = (refl, go (leb (had + weight) most) refl e)
    where
      go : (b : Bool) → leb (had + weight) most ≡ b → for_total b ≡ 0 → had + weight ≤ most
      go true p e = leb-true (had + weight) most p
      go false p e = absurd (never {a = 0} {b = 2} (omega arith) (sym e))

module _ (most : ℕ) (g : Grid) (v : View) where
  -- ---- one bin
  module _ (p : ℕ) where
    pub kept_stays : reason_at most g v p ≡ 0 → (j : ℕ) → rescued most g v p j ≡ v p j
    unfolding rescued
    kept_stays e j = rw (eq-eqb (reason_at most g v p) 0 e) refl

    pub cleared_zeros : (reason_at most g v p ≡ 0 → ⊥) → (j : ℕ) → rescued most g v p j ≡ 0
    unfolding rescued
    cleared_zeros d j = rw (ne_eqb (reason_at most g v p) 0 d) refl

    bin_then : Keeps (span_at g p) (rescued most g v p)
    unfolding rescued reason_at keeps_bounds
    bin_then = go (eqb (reason_at most g v p) 0) refl
      where
        go : (b : Bool) → eqb (reason_at most g v p) 0 ≡ b → Keeps (span_at g p) (λ j. cond b (v p j) 0)
        go true e =
            bin_keeps g v p
            (and_right (leb (v p 0) most) (bin_sound g v p)
            (tells_kept most (kept_before most g v p) (v p 0) (keeps_bounds most g v p)
            (eqb-true (reason_at most g v p) 0 e)).0)
        go false e = keeps_zero (span_at g p)

  -- ---- the total
  kept_more : (p : ℕ) → kept_before most g v (p + 1) ≡ kept_before most g v p + rescued most g v p 0
  unfolding with_weight rescued
  kept_more p = kept_next most g v p ∙ added (eqb (reason_at most g v p) 0)
    where
      added : (b : Bool) → cond b (kept_before most g v p + v p 0) (kept_before most g v p)
          ≡ kept_before most g v p + cond b (v p 0) 0
      added true = refl
      added false = sym (add-zero (kept_before most g v p))

  -- "the running total of the bins kept so far" is that of the result's bins so far
  pub kept_sum : (p : ℕ) → kept_before most g v p ≡ sum_from 0 p (λ q. rescued most g v q 0)
  unfolding kept_before sum_from
  kept_sum zero = refl
  kept_sum (suc p) =
      ap (kept_before most g v) (next p) ∙ kept_more p ∙ ap (λ (n : ℕ). n + weights p) (kept_sum p)
      ∙ sym (ap (λ (n : ℕ). sum_from 0 n weights) (next p) ∙ sum_next p weights)
    where
      weights : ℕ → ℕ
      weights q = rescued most g v q 0

  pub rescued_total : total g (rescued most g v) ≡ kept_before most g v (bins_of g)
  rescued_total = total_is g (rescued most g v) ∙ sym (kept_sum (bins_of g))

  -- ---- "The result is sound"
  pub rescued_sound : Sound most g (rescued most g v)
  rescued_sound =
      sound_by most g (rescued most g v) (λ p h. bin_then p)
      (omega (arith, rescued_total, kept_under most g v (bins_of g)))

-- ---- "a sound table comes back as it was"
module _ {most : ℕ} {g : Grid} {v : View} (s : Sound most g v) where
  abbrev weights : ℕ → ℕ
  weights p = v p 0

  -- the weights up to a bin fit
  fits : (p : ℕ) → p < bins_of g → sum_from 0 p weights + v p 0 ≤ most
  fits p h =
      omega (
        arith,
        sum_next p weights,
        sum_grow 0 (p + 1) (bins_of g) weights (omega arith),
        total_is g v,
        total_high s,
      )

  keeps_all : (p : ℕ) → p < bins_of g → keeps_bounds most g v p ≡ true
  unfolding keeps_bounds
  keeps_all p h =
      rw (le-leb (v p 0) most (omega (arith, weight_high g v p h, total_high s)), bin_sound_lem g v p s h) refl

  stays_at : (p : ℕ) → p < bins_of g → kept_before most g v p ≡ sum_from 0 p weights → reason_at most g v p ≡ 0
  unfolding reason_at
  stays_at p h e = kept most (kept_before most g v p) (v p 0) (keeps_all p h) (omega (arith, e, fits p h))

  sums_so_far : (p : ℕ) → p ≤ bins_of g → kept_before most g v p ≡ sum_from 0 p weights
  unfolding kept_before sum_from
  sums_so_far zero h = refl
  sums_so_far (suc p) h =
      let e = sums_so_far p (omega arith) in
      ap (kept_before most g v) (next p) ∙ kept_more most g v p
      ∙ (λ i. e i + kept_stays most g v p (stays_at p h e) 0 i)
      ∙ sym (ap (λ (n : ℕ). sum_from 0 n weights) (next p) ∙ sum_next p weights)

  pub sound_kept : (p : ℕ) → p < bins_of g → reason_at most g v p ≡ 0
  sound_kept p h = stays_at p h (sums_so_far p (omega arith))
