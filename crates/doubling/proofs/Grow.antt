-- `grow`: its value, and that it keeps every comparison.
-- Assumes nothing.
use mathlib.Core.Path.{◌≡◌, refl, sym, ap, ap₂, ◌∙◌}
use mathlib.Core.Bool.{Bool, true, false, ◌&&◌, ◌||◌, beq}
use Prim.Native.Nat.{ℕ, zero, suc, ◌+◌, ◌*◌, ◌^◌, ◌<◌}
use native.Mathlib.Nat.{mul_assoc, mul_comm, mul_left_comm, mul_right_comm, one-mul, zero-mul, add-mul, mul-pos}
use native.Mathlib.Nat.{mul-lt-mul_of_pos_right, lt_of_mul-lt-mul_right, eq_of_mul-eq-mul_right}
use borrow.Author.Tests.{ltb-true, eqb-true, lt-ltb, eq-eqb}
use lib.Dec.{ltb, eqb}
use lib.Pow.{pow-add, pow_pos}
use lib.IntN.{ℤ, pos, negsuc}
use lib.Ieee.{Float, nan, inf, fin, up, down, minus, neg, lt, eq, le, below, level}
use lib.Ieee.Fits.{down_pos}
use lib.Ieee.Digits.{minus_val}
use lib.Ieee.Exact.{HasValue}
use Rattle.basics.proofs.Range.{tests_same}
use Rattle.doubling.specs.Grow.{plus_exponent, new_exponent, grow}

ruleset ac = (mul_assoc, mul_comm, mul_left_comm)

-- ---- the value: fractions are equal where their cross products are
exponent_cross : (t : ℕ) (e : ℤ) → up (plus_exponent t e) * down e ≡ up e * 2 ^ t * down (plus_exponent t e)
unfolding plus_exponent
exponent_cross t (pos k) = ap (λ (x : ℕ). x * 1) (pow-add 2 k t)
exponent_cross t (negsuc k) =
    ap (λ (x : ℕ). x * 2 ^ suc k) (sym (one-mul (up (minus t (suc k))))) ∙ minus_val 1 t (suc k)

digits_cross : (t m : ℕ) (e : ℤ) → m * up (new_exponent t m e) * down e ≡ m * up e * 2 ^ t * down (new_exponent t m e)
unfolding new_exponent
digits_cross t zero e = simp zero-mul
digits_cross t (suc m) e =
    mul_assoc (suc m) (up (plus_exponent t e)) (down e) ∙ ap (λ (x : ℕ). suc m * x) (exponent_cross t e) ∙ simp ac

pub value_grow : (t : ℕ) (x : Float) (s : Bool) (a c : ℕ) → HasValue x s a c → HasValue (grow t x) s (a * 2 ^ t) c
unfolding grow
value_grow t nan s a c h = h
value_grow t (inf r) s a c h = h
value_grow t (fin r m e) s a c h =
    let e' = new_exponent t m e in (
      h.0,
      eq_of_mul-eq-mul_right (down e) (down_pos e) _ _
          (cross (m * up e') (down e) (m * up e) (2 ^ t) (down e') (digits_cross t m e) h.1),
    )
  where
    cross : (n' d n k d' : ℕ) → n' * d ≡ n * k * d' → n * c ≡ a * d → n' * c * d ≡ a * k * d' * d
    cross n' d n k d' g h =
        mul_right_comm n' c d ∙ ap (λ (z : ℕ). z * c) g ∙ simp ac (simp ac at (ap (λ (z : ℕ). z * (k * d')) h))

-- ---- comparisons: two numbers with a common factor k compare as two with a common factor l, if the products are equal
pub less_over : (k l n m n' m' : ℕ) → 0 < k → n * k ≡ n' * l → m * k ≡ m' * l → n < m → n' < m'
less_over k l n m n' m' some p q h = lt_of_mul-lt-mul_right l (rw (sym p, sym q) (mul-lt-mul_of_pos_right h some))

equal_over : (k l n m n' m' : ℕ) → 0 < l → n * k ≡ n' * l → m * k ≡ m' * l → n ≡ m → n' ≡ m'
equal_over k l n m n' m' some p q h = eq_of_mul-eq-mul_right l some n' m' (sym p ∙ ap (λ (z : ℕ). z * k) h ∙ q)

-- a test that sees no common factor
abbrev Scaled : (ℕ → ℕ → Bool) → Type 0
Scaled f = (k l : ℕ) → 0 < k → 0 < l → (n m n' m' : ℕ) → n * k ≡ n' * l → m * k ≡ m' * l → f n m ≡ f n' m'

less_scaled : Scaled ltb
less_scaled k l some some' n m n' m' p q =
    tests_same (ltb n m) (ltb n' m') (λ e. lt-ltb n' m' (less_over k l n m n' m' some p q (ltb-true n m e)))
    (λ e. lt-ltb n m (less_over l k n' m' n m some' (sym p) (sym q) (ltb-true n' m' e)))

equal_scaled : Scaled eqb
equal_scaled k l some some' n m n' m' p q =
    tests_same (eqb n m) (eqb n' m') (λ e. eq-eqb n' m' (equal_over k l n m n' m' some' p q (eqb-true n m e)))
    (λ e. eq-eqb n m (equal_over l k n' m' n m some (sym p) (sym q) (eqb-true n' m' e)))

none : (k l : ℕ) → 0 * k ≡ 0 * l
none k l = zero-mul k ∙ sym (zero-mul l)

below_scaled : (s r : Bool) → Scaled (λ x y. below s x r y)
below_scaled false false k l some some' n m n' m' p q = less_scaled k l some some' n m n' m' p q
below_scaled false true k l some some' n m n' m' p q = refl
below_scaled true false k l some some' n m n' m' p q =
    less_scaled k l some some' 0 (n + m) 0 (n' + m') (none k l)
    (add-mul n m k ∙ ap₂ (λ (i j : ℕ). i + j) p q ∙ sym (add-mul n' m' l))
below_scaled true true k l some some' n m n' m' p q = less_scaled k l some some' m n m' n' q p

level_scaled : (s r : Bool) → Scaled (λ x y. level s x r y)
level_scaled s r k l some some' n m n' m' p q =
    ap₂ (λ (i j : Bool). i && (beq s r || j)) (equal_scaled k l some some' n m n' m' p q)
    (equal_scaled k l some some' n 0 n' 0 p (none k l))

-- such a test on the products that a comparison takes
test_grow : (f : ℕ → ℕ → Bool) → Scaled f → (t m : ℕ) (e : ℤ) (n : ℕ) (d : ℤ)
    → f (m * up (new_exponent t m e) * down (new_exponent t n d)) (n * up (new_exponent t n d) * down (new_exponent t m e))
    ≡ f (m * up e * down d) (n * up d * down e)
test_grow f scaled t m e n d =
    let e' = new_exponent t m e in
    let d' = new_exponent t n d in
    scaled (down e * down d) (2 ^ t * down e' * down d') (mul-pos (down_pos e) (down_pos d))
    (mul-pos (mul-pos (pow_pos t) (down_pos e')) (down_pos d')) _ _ _ _
    (one_side (m * up e') (down e) (m * up e) (2 ^ t) (down e') (down d) (down d') (digits_cross t m e))
    (other_side (n * up d') (down d) (n * up d) (2 ^ t) (down d') (down e) (down e') (digits_cross t n d))
  where
    -- n' / p' is k times n / p, and each stands over the other number's denominator too, q' and q
    one_side : (n' p n k p' q q' : ℕ) → n' * p ≡ n * k * p' → n' * q' * (p * q) ≡ n * q * (k * p' * q')
    one_side n' p n k p' q q' h = simp ac (simp ac at (ap (λ (z : ℕ). z * (q * q')) h))

    other_side : (n' p n k p' q q' : ℕ) → n' * p ≡ n * k * p' → n' * q' * (q * p) ≡ n * q * (k * q' * p')
    other_side n' p n k p' q q' h = simp ac (simp ac at (one_side n' p n k p' q q' h))

module _ (t : ℕ) where
  pub lt_grow : (x y : Float) → lt (grow t x) (grow t y) ≡ lt x y
  unfolding grow lt
  lt_grow nan y = refl
  lt_grow (inf s) nan = refl
  lt_grow (inf s) (inf r) = refl
  lt_grow (inf s) (fin r n d) = refl
  lt_grow (fin s m e) nan = refl
  lt_grow (fin s m e) (inf r) = refl
  lt_grow (fin s m e) (fin r n d) = test_grow (λ x y. below s x r y) (below_scaled s r) t m e n d

  eq_grow : (x y : Float) → eq (grow t x) (grow t y) ≡ eq x y
  unfolding grow eq
  eq_grow nan y = refl
  eq_grow (inf s) nan = refl
  eq_grow (inf s) (inf r) = refl
  eq_grow (inf s) (fin r n d) = refl
  eq_grow (fin s m e) nan = refl
  eq_grow (fin s m e) (inf r) = refl
  eq_grow (fin s m e) (fin r n d) = test_grow (λ x y. level s x r y) (level_scaled s r) t m e n d

  pub le_grow : (x y : Float) → le (grow t x) (grow t y) ≡ le x y
  unfolding le
  le_grow x y = ap₂ (λ (i j : Bool). i || j) (lt_grow x y) (eq_grow x y)

  pub neg_grow : (x : Float) → neg (grow t x) ≡ grow t (neg x)
  unfolding neg grow
  neg_grow nan = refl
  neg_grow (inf s) = refl
  neg_grow (fin s m e) = refl

  pub zero_grow : grow t (fin false 0 (pos 0)) ≡ fin false 0 (pos 0)
  unfolding grow new_exponent
  zero_grow = refl
