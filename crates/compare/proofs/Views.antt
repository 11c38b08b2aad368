-- Laws of what two views compare to: in the other order, where they agree, and which bins differ.
-- Assumes nothing.
use mathlib.Core.Path.{◌≡◌, refl, sym, ap, ◌∙◌}
use mathlib.Core.Bool.{Bool, true, false, not, cond}
use Prim.Native.Nat.{ℕ, zero, suc, ◌+◌, ◌^◌, ◌≤◌, ◌<◌}
use native.Mathlib.Nat.{zero-add, add-suc, suc-add}
use native.Mathlib.Decide.{ℕ_discrete}
use native.Mathlib.Omega.{arith}
use borrow.Author.Tests.{eq-eqb, ne_eqb, eqb-true, not-false}
use lib.Dec.{eqb}
use lib.IntN.{ℤ, pos, negsuc, neg_ℤ, nat_abs, ◌+ℤ◌, ◌-ℤ◌, neg_ℤ-+ℤ, neg_ℤ-neg_ℤ, +ℤ_comm, +ℤ_invr, -ℤ-+ℤ_cancel}
use lib.IntN.{+ℤ_idr}
use Rattle.grid.specs.declared.place.Grid.{Grid}
use Rattle.basics.specs.Range.{all_from}
use Rattle.basics.proofs.Range.{sum_same, sum_zero, all_same, all_at, all_true, tests_same, never_true}
use Rattle.basics.proofs.Range.{term_le}
use Rattle.grid.specs.Grid.{Accepted, bins_of}
use Rattle.table.specs.Cell.{View}
use Rattle.table.specs.Sound.{limit}
use Rattle.table.proofs.Soundness.{Sound, number_below}
use Rattle.compare.specs.Compare.{difference, differs, differing, first_from, first_differing}
use Rattle.compare.proofs.Differences.{less_small}
use Rattle.compare.proofs.Places.{one, first_none}

-- ---- one difference
module _ (v u : View) (p j : ℕ) where
  pub difference_other : difference u v p j ≡ neg_ℤ (difference v u p j)
  unfolding difference
  difference_other =
      +ℤ_comm (pos (v p j)) (neg_ℤ (pos (u p j)))
      ∙ ap (λ (z : ℤ). neg_ℤ (pos (u p j)) +ℤ z) (sym (neg_ℤ-neg_ℤ (pos (v p j))))
      ∙ sym (neg_ℤ-+ℤ (pos (u p j)) (neg_ℤ (pos (v p j))))

  -- added to the first it gives the second
  pub difference_added : pos (v p j) +ℤ difference v u p j ≡ pos (u p j)
  unfolding difference
  difference_added =
      +ℤ_comm (pos (v p j)) (pos (u p j) -ℤ pos (v p j)) ∙ -ℤ-+ℤ_cancel (pos (u p j)) (pos (v p j))

  -- it is 0 exactly where the numbers are the same
  pub difference_none : v p j ≡ u p j → difference v u p j ≡ pos 0
  unfolding difference
  difference_none e = ap (λ (n : ℕ). pos (u p j) -ℤ pos n) e ∙ +ℤ_invr (pos (u p j))

  pub none_same : difference v u p j ≡ pos 0 → v p j ≡ u p j
  none_same e =
      ap nat_abs (sym (+ℤ_idr (pos (v p j))) ∙ ap (λ (z : ℤ). pos (v p j) +ℤ z) (sym e) ∙ difference_added)

-- ---- whether a bin differs
module _ (v u : View) (p : ℕ) where
  same_none : (j : ℕ) → eqb (v p j) (u p j) ≡ eqb (nat_abs (difference v u p j)) 0
  same_none j = go (ℕ_discrete (v p j) (u p j))
    where
      size_none : (z : ℤ) → nat_abs z ≡ 0 → z ≡ pos 0
      size_none (pos n) e = ap pos e
      size_none (negsuc n) e = absurd (omega arith)

      go : Dec (v p j ≡ u p j) → eqb (v p j) (u p j) ≡ eqb (nat_abs (difference v u p j)) 0
      go (yes e) = eq-eqb _ _ e ∙ sym (eq-eqb _ _ (ap nat_abs (difference_none v u p j e)))
      go (no d) = ne_eqb _ _ d ∙ sym (ne_eqb _ _ (λ e. d (none_same v u p j (size_none (difference v u p j) e))))

  -- by its five differences
  pub differs_by : differs v u p ≡ not (all_from 0 5 (λ j. eqb (nat_abs (difference v u p j)) 0))
  unfolding differs
  differs_by = ap not (all_same 0 5 _ _ (λ j a b. same_none j))

  pub differs_other : differs u v p ≡ differs v u p
  unfolding differs
  differs_other = ap not (all_same 0 5 _ _ (λ j a b. turned j))
    where
      turned : (j : ℕ) → eqb (u p j) (v p j) ≡ eqb (v p j) (u p j)
      turned j =
          tests_same _ _ (λ e. eq-eqb (v p j) (u p j) (sym (eqb-true (u p j) (v p j) e)))
          (λ e. eq-eqb (u p j) (v p j) (sym (eqb-true (v p j) (u p j) e)))

  pub differs_never : differs v v p ≡ false
  unfolding differs
  differs_never = ap not (all_true 0 5 (λ j. eqb (v p j) (v p j)) (λ j a b. eq-eqb (v p j) (v p j) refl))

  -- a bin that does not differ has the same numbers
  pub alike : differs v u p ≡ false → (j : ℕ) → j < 5 → v p j ≡ u p j
  unfolding differs
  alike e j h =
      eqb-true (v p j) (u p j)
      (all_at 0 5 (λ k. eqb (v p k) (u p k)) (not-false _ e) j (omega arith) (omega arith))

-- ---- which of them is the first
pub first_same : (i n : ℕ) (f g : ℕ → Bool) → ((p : ℕ) → i ≤ p → p < i + n → f p ≡ g p)
    → first_from i n f ≡ first_from i n g
unfolding first_from
first_same i zero f g h = refl
first_same i (suc n) f g h =
    λ k. cond (h i (omega arith) (omega (arith, add-suc i n)) k) i
    (first_same (suc i) n f g (λ p a b. h p (omega arith) (omega (arith, b, suc-add i n, add-suc i n))) k)

pub first_high : (i n : ℕ) (f : ℕ → Bool) → first_from i n f ≤ i + n
unfolding first_from
first_high i zero f = omega arith
first_high i (suc n) f = go (f i) (first_high (suc i) n f)
  where
    go : (b : Bool) → first_from (suc i) n f ≤ suc i + n → cond b i (first_from (suc i) n f) ≤ i + suc n
    go true h = omega arith
    go false h = omega (arith, h, suc-add i n, add-suc i n)

-- the test holds there, and nowhere before
pub first_holds : (i n : ℕ) (f : ℕ → Bool) → first_from i n f < i + n → f (first_from i n f) ≡ true
unfolding first_from
first_holds i zero f h = absurd (omega arith)
first_holds i (suc n) f h = go (f i) refl (first_holds (suc i) n f) h
  where
    go : (b : Bool) → f i ≡ b
        → (first_from (suc i) n f < suc i + n → f (first_from (suc i) n f) ≡ true)
        → cond b i (first_from (suc i) n f) < i + suc n → f (cond b i (first_from (suc i) n f)) ≡ true
    go true e later k = e
    go false e later k = later (omega (arith, k, suc-add i n, add-suc i n))

pub none_before : (i n : ℕ) (f : ℕ → Bool) (p : ℕ) → i ≤ p → p < first_from i n f → f p ≡ false
unfolding first_from
none_before i zero f p a b = absurd (omega arith)
none_before i (suc n) f p a b = go (f i) refl (ℕ_discrete p i) (none_before (suc i) n f p) b
  where
    go : (b : Bool) → f i ≡ b → Dec (p ≡ i) → (suc i ≤ p → p < first_from (suc i) n f → f p ≡ false)
        → p < cond b i (first_from (suc i) n f) → f p ≡ false
    go true e d later k = absurd (omega arith)
    go false e (yes d) later k = ap f d ∙ e
    go false e (no d) later k = later (omega arith) k

-- ---- all bins
module _ (n : ℕ) (v u : View) where
  pub differing_other : differing n u v ≡ differing n v u
  unfolding differing
  differing_other = sum_same 0 n _ _ (λ p a b. ap one (differs_other v u p))

  pub first_other : first_differing n u v ≡ first_differing n v u
  unfolding first_differing
  first_other = first_same 0 n (differs u v) (differs v u) (λ p a b. differs_other v u p)

pub differing_never : (n : ℕ) (v : View) → differing n v v ≡ 0
unfolding differing
differing_never n v =
    sum_same 0 n (λ p. one (differs v v p)) (λ p. 0) (λ p a b. ap one (differs_never v v p)) ∙ sum_zero 0 n

pub first_never : (n : ℕ) (v : View) → first_differing n v v ≡ n
unfolding first_differing differing
first_never n v = first_none 0 n (differs v v) (differing_never n v) ∙ zero-add n

-- where none is counted, none differs
pub none_differs : (n : ℕ) (v u : View) → differing n v u ≡ 0 → (p : ℕ) → p < n → differs v u p ≡ false
unfolding differing
none_differs n v u e p h = never_true (differs v u p) (λ d. too_many (ap one d))
  where
    too_many : one (differs v u p) ≡ 1 → ⊥
    too_many d = omega (arith, d, e, term_le 0 n (λ q. one (differs v u q)) p (omega arith) (omega arith))

-- ---- their size
pub difference_small : {g : Grid} {v u : View} → Accepted g → Sound limit g v → Sound limit g u → (p : ℕ) → p < bins_of g
    → (j : ℕ) → j < 5 → nat_abs (difference v u p j) < 2 ^ 50
unfolding difference
difference_small {g} {v} {u} a s r p h j k =
    less_small (2 ^ 50) (v p j) (u p j) (number_below a s p h (omega arith) j k)
    (number_below a r p h (omega arith) j k)
