-- What f64 holds is determined by its value. So `grow` is the multiplication by 2 ^ t in f64, wherever f64 holds a
-- value and what it grows to.
-- Assumes nothing.
use mathlib.Core.Path.{◌≡◌, refl, sym, ap, ◌∙◌, subst}
use mathlib.Core.Bool.{Bool, true, false, ◌&&◌, cond}
use Prim.Native.Nat.{ℕ, zero, suc, ◌+◌, ◌-◌, ◌*◌, ◌%◌, ◌^◌, ◌≤◌, ◌<◌}
use native.Mathlib.Nat.{le_refl, le_trans, lt_irrefl, lt_of_not-le, not-le_of_lt, zero-lt-suc, mul_assoc, mul_comm}
use native.Mathlib.Nat.{mul_left_comm, mul_right_comm, mul-one, one-mul, zero-mul, mul-pos, pow-suc}
use native.Mathlib.Nat.{eq_of_mul-eq-mul_right}
use native.Mathlib.Omega.{arith}
use native.Mathlib.Decide.{dec_le}
use borrow.Author.Tests.{lt-ltb, lt-leb, le-leb, eq-eqb}
use lib.Dec.{T, ltb, leb, eqb, leb→le, ltb→lt, eqb→eq, lit<}
use lib.Pow.{pow-add, pow_pos, pow_mono, pow-lt}
use lib.IntN.{ℤ, pos, negsuc}
use lib.Ieee.{Float, nan, inf, fin, up, down, minus, unlike, round, mul, fits}
use lib.Ieee.Fits.{up_pos, down_pos, and_l, and_r, mul-fits}
use lib.Ieee.Digits.{minus_val}
use lib.Ieee.Exact.{HasValue, round_exact}
use lib.Ieee.Scale.{round_same}
use lib.Ieee.Positive.{first_pos}
use Rattle.sums.specs.Box.{whole}
use Rattle.spread.proofs.Rounding.{Is, of_whole}
use Rattle.spread.proofs.Error.{F, U}
use Rattle.doubling.specs.Grow.{plus_exponent, new_exponent, grow}
use Rattle.doubling.proofs.Grow.{value_grow, less_over}

ruleset ac = (mul_assoc, mul_comm, mul_left_comm)

-- ---- what f64 holds: its digits m are odd and below 2 ^ 53, the exponent is not too low, and the value below 2 ^ 1024
record Held (m : ℕ) (e : ℤ) : Type 0 where
  is_odd : m % 2 ≡ 1
  few : m < 2 ^ 53
  deep : down e ≤ U
  small : m * up e < 2 ^ 1024 * down e

held : (s : Bool) (m : ℕ) (e : ℤ) → T (fits F (fin s (suc m) e)) → Held (suc m) e
unfolding fits
held s m e h =
    let odd = eqb (suc m % 2) 1 in
    let short = ltb (suc m) (2 ^ 53) in
    let low = leb (down e) U in
    let under = ltb (suc m * up e) (2 ^ 1024 * down e) in
    let three = and_l (odd && short && low) under h in
    let two = and_l (odd && short) low three in
    record {
      is_odd = eqb→eq (suc m % 2) 1 (and_l odd short two);
      few = ltb→lt (suc m) (2 ^ 53) (and_r odd short two);
      deep = leb→le (down e) U (and_r (odd && short) low three);
      small = ltb→lt (suc m * up e) (2 ^ 1024 * down e) (and_r (odd && short && low) under h);
    }

-- a zero has the exponent 0
zero_exponent : (s : Bool) (e : ℤ) → T (fits F (fin s zero e)) → e ≡ pos 0
unfolding fits
zero_exponent s e h = flat e (eqb→eq (up e * down e) 1 h)
  where
    two_up : (k : ℕ) → 2 ^ suc k ≡ 1 → ⊥
    two_up k h = lt_irrefl 1 (subst (λ (x : ℕ). 1 < x) h (pow-lt (zero-lt-suc k)))

    flat : (e : ℤ) → up e * down e ≡ 1 → e ≡ pos 0
    flat (pos zero) h = refl
    flat (pos (suc k)) h = absurd (two_up k (sym (mul-one (2 ^ suc k)) ∙ h))
    flat (negsuc k) h = absurd (two_up k (sym (one-mul (2 ^ suc k)) ∙ h))

-- ---- the value as a number of f64's smallest values, of which U make one
-- the exponent, counted from the lowest
place : (e : ℤ) → down e ≤ U → (p : ℕ) × (e ≡ minus p 1074)
place (pos k) h = (k + 1074, ap pos (omega arith) ∙ sym (at_or_above (k + 1074) 1074 (omega arith)))
  where
    at_or_above : (a b : ℕ) → b ≤ a → minus a b ≡ pos (a - b)
    at_or_above a b h = rw (le-leb b a h)
place (negsuc k) h =
    let l = few (suc k) h in
    (1074 - suc k, ap negsuc (omega arith) ∙ sym (under (1074 - suc k) 1074 (omega arith)))
  where
    few : (k : ℕ) → 2 ^ k ≤ U → k ≤ 1074
    few k h = elim (dec_le k 1074) [ yes l ↦ l | no n ↦ absurd (not-le_of_lt (pow-lt {i = 1074} (lt_of_not-le n)) h) ]

    under : (a b : ℕ) → a < b → minus a b ≡ negsuc (b - suc a)
    under a b h = rw (lt-leb b a h)

in_units : (s : Bool) (m : ℕ) (e : ℤ) (deep : down e ≤ U) → HasValue (fin s m e) s (m * 2 ^ (place e deep).0) U
in_units s m e deep =
    let p = place e deep in
    subst (λ (z : ℤ). HasValue (fin s m z) s (m * 2 ^ p.0) U) (sym p.1) (refl, minus_val m p.0 1074)

-- below 2 ^ 1024 is less than 2 ^ 2098 of them
module _ (m : ℕ) (e : ℤ) (a : ℕ) (value : m * up e * U ≡ a * down e) where
  few_units : m * up e < 2 ^ 1024 * down e → a < 2 ^ 2098
  few_units =
      less_over U (down e) (m * up e) (2 ^ 1024 * down e) a (2 ^ 2098) (pow_pos 1074) value
      (mul_right_comm (2 ^ 1024) (down e) U)

  units_few : a < 2 ^ 2098 → m * up e < 2 ^ 1024 * down e
  units_few =
      less_over (down e) U a (2 ^ 2098) (m * up e) (2 ^ 1024 * down e) (down_pos e) (sym value)
      (mul_right_comm (2 ^ 1024) U (down e))

-- ---- a value is written in one way
odd_not_even : (m n k : ℕ) → m % 2 ≡ 1 → m ≡ n * 2 ^ suc k → ⊥
odd_not_even m n k o h = let even : m ≡ 2 * (n * 2 ^ k) = h ∙ simp (pow-suc, mul_left_comm, mul_comm) in omega arith

-- an odd number times a power of two: both are determined
odd_power : (m n a b : ℕ) → m % 2 ≡ 1 → n % 2 ≡ 1 → m * 2 ^ a ≡ n * 2 ^ b → (m ≡ n) × (a ≡ b)
odd_power m n zero zero o p h = (sym (mul-one m) ∙ h ∙ mul-one n, refl)
odd_power m n zero (suc b) o p h = absurd (odd_not_even m n b o (sym (mul-one m) ∙ h))
odd_power m n (suc a) zero o p h = absurd (odd_not_even n m a p (sym (mul-one n) ∙ sym h))
odd_power m n (suc a) (suc b) o p h =
    let r = odd_power m n a b o p (eq_of_mul-eq-mul_right 2 (zero-lt-suc 1) (m * 2 ^ a) (n * 2 ^ b)
    (mul_assoc m (2 ^ a) 2 ∙ ap (λ (x : ℕ). m * x) (sym (pow-suc 2 a)) ∙ h ∙ ap (λ (x : ℕ). n * x) (pow-suc 2 b)
    ∙ sym (mul_assoc n (2 ^ b) 2))) in
    (r.0, ap suc r.1)

-- zero and another number have no value in common
none_other : (n : ℕ) (e d : ℤ) (a c : ℕ) → 0 < c → 0 * up e * c ≡ a * down e → suc n * up d * c ≡ a * down d → ⊥
none_other n e d a c some v w =
    let above : 0 < suc n * up d * c = mul-pos (mul-pos (zero-lt-suc n) (up_pos d)) some in
    let nothing : a * down e ≡ 0 = sym v ∙ simp zero-mul in
    lt_irrefl 0 (subst (λ (x : ℕ). 0 < x) nothing
    (mul-pos (first_pos a (down d) (subst (λ (x : ℕ). 0 < x) w above)) (down_pos e)))

-- a / c and b / k are both n / d
same_value : (n d a c b k : ℕ) → 0 < d → n * c ≡ a * d → n * k ≡ b * d → a * k ≡ b * c
same_value n d a c b k some v w =
    eq_of_mul-eq-mul_right d some (a * k) (b * c)
    (mul_right_comm a k d ∙ ap (λ (z : ℕ). z * k) (sym v) ∙ mul_right_comm n c k ∙ ap (λ (z : ℕ). z * c) w
    ∙ mul_right_comm b d c)

pub unique : (x y : Float) (s : Bool) (a c : ℕ) → 0 < c → T (fits F x) → T (fits F y) → HasValue x s a c
    → HasValue y s a c → x ≡ y
unique nan y s a c some p q v w = absurd v
unique (inf r) y s a c some p q v w = absurd v
unique (fin r m e) nan s a c some p q v w = absurd w
unique (fin r m e) (inf u) s a c some p q v w = absurd w
unique (fin r zero e) (fin u zero d) s a c some p q v w =
    λ i. fin ((v.0 ∙ sym w.0) i) zero ((zero_exponent r e p ∙ sym (zero_exponent u d q)) i)
unique (fin r zero e) (fin u (suc n) d) s a c some p q v w = absurd (none_other n e d a c some v.1 w.1)
unique (fin r (suc m) e) (fin u zero d) s a c some p q v w = absurd (none_other m d e a c some w.1 v.1)
unique (fin r (suc m) e) (fin u (suc n) d) s a c some p q v w =
    let h = held r m e p in
    let k = held u n d q in
    let here = place e h.deep in
    let there = place d k.deep in
    let units : suc m * 2 ^ here.0 * c ≡ suc n * 2 ^ there.0 * c =
    same_value (suc m * up e) (down e) _ U a c (down_pos e) (in_units r (suc m) e h.deep).1 v.1
    ∙ sym (same_value (suc n * up d) (down d) _ U a c (down_pos d) (in_units u (suc n) d k.deep).1 w.1) in
    let both =
    odd_power (suc m) (suc n) here.0 there.0 h.is_odd k.is_odd
    (eq_of_mul-eq-mul_right c some _ _ units) in
    λ i. fin ((v.0 ∙ sym w.0) i) (both.0 i)
    ((here.1 ∙ ap (λ (x : ℕ). minus x 1074) both.1 ∙ sym there.1) i)

-- ---- what grows to less than 2 ^ 1024 is held, since digits stay and no exponent gets lower
less_deep : (t : ℕ) (e : ℤ) → down (plus_exponent t e) ≤ down e
unfolding plus_exponent
less_deep t (pos k) = le_refl 1
less_deep t (negsuc k) = elim (dec_le (suc k) t) [
  | yes l ↦ rw (le-leb (suc k) t l) (pow_pos (suc k))
  | no n ↦ rw (lt-leb (suc k) t (lt_of_not-le n)) (pow_mono (omega (arith, lt_of_not-le n)))
]

pub grow_fits : (t : ℕ) (x : Float) (s : Bool) (a : ℕ) → T (fits F x) → HasValue (grow t x) s a U → a < 2 ^ 2098
    → T (fits F (grow t x))
unfolding grow new_exponent fits
grow_fits t nan s a p v few = absurd v
grow_fits t (inf r) s a p v few = absurd v
grow_fits t (fin r zero e) s a p v few = p
grow_fits t (fin r (suc m) e) s a p v few =
    let h = held r m e p in
    let e' = plus_exponent t e in
    rw (
      eq-eqb (suc m % 2) 1 h.is_odd,
      lt-ltb (suc m) (2 ^ 53) h.few,
      le-leb (down e') U (le_trans (less_deep t e) h.deep),
      lt-ltb (suc m * up e') (2 ^ 1024 * down e') (units_few (suc m) e' a v.1 few),
    ) tt

-- ---- the product
pub round_zero : (s : Bool) (c : ℕ) → 0 < c → round F s 0 c ≡ fin s 0 (pos 0)
unfolding round
round_zero s c some = round_same F s 0 c 0 1 some (lit< tt) (zero-mul 1 ∙ sym (zero-mul c))

like : (s : Bool) → unlike false s ≡ s
like true = refl
like false = refl

module _ (t : ℕ) (few : t ≤ 53) where
  power : Is (whole (2 ^ t)) (2 ^ t) 1
  power = of_whole F (2 ^ t) (pow_mono few)

  product : (s : Bool) (m : ℕ) (e : ℤ) → mul F (whole (2 ^ t)) (fin s m e) ≡ round F s (m * up e * 2 ^ t) (down e)
  unfolding mul
  product s m e =
      let n = power.mantissa * up power.exponent in
      let d = down power.exponent in
      ap (λ (z : Float). mul F z (fin s m e)) power.same
      ∙ ap (λ (b : Bool). round F b (n * (m * up e)) (d * down e)) (like s)
      ∙ round_same F s (n * (m * up e)) (d * down e) (m * up e * 2 ^ t) (down e)
      (mul-pos (down_pos power.exponent) (down_pos e)) (down_pos e)
      (cross n d (m * up e) (down e) (sym (mul-one n) ∙ power.cross))
    where
      cross : (n d m k : ℕ) → n ≡ 2 ^ t * d → n * m * k ≡ m * 2 ^ t * (d * k)
      cross n d m k h = ap (λ (z : ℕ). z * m * k) h ∙ simp ac

  -- no digit is lost
  exact : (s : Bool) (m : ℕ) (e : ℤ) → Held (suc m) e → Held (suc m) (new_exponent t (suc m) e)
      → HasValue (mul F (whole (2 ^ t)) (fin s (suc m) e)) s (suc m * up e * 2 ^ t) (down e)
  unfolding grow
  exact s m e h g =
      let n = suc m in
      let p = (place e h.deep).0 in
      let own : HasValue (fin s n e) s (n * 2 ^ p) U = in_units s n e h.deep in
      let more : n * 2 ^ p * 2 ^ t ≡ n * 2 ^ (p + t) =
      mul_assoc n (2 ^ p) (2 ^ t) ∙ ap (λ (z : ℕ). n * z) (sym (pow-add 2 p t)) in
      let fits : n * 2 ^ p * 2 ^ t < 2 ^ 2098 =
      few_units n (new_exponent t n e) _ (value_grow t (fin s n e) s (n * 2 ^ p) U own).1 g.small in
      subst (λ (z : Float). HasValue z s (n * up e * 2 ^ t) (down e)) (sym (product s n e))
      (round_exact F s (n * up e * 2 ^ t) (down e) n (p + t) (down_pos e) h.few
      (subst (λ (z : ℕ). z < 2 ^ 2098) more fits)
      (mul_right_comm (n * up e) (2 ^ t) U ∙ ap (λ (z : ℕ). z * 2 ^ t) own.1
      ∙ mul_right_comm (n * 2 ^ p) (down e) (2 ^ t) ∙ ap (λ (z : ℕ). z * down e) more))

  pub mul_is_grow : (x : Float) → T (fits F x) → T (fits F (grow t x)) → mul F (whole (2 ^ t)) x ≡ grow t x
  unfolding mul grow new_exponent
  mul_is_grow nan p q = ap (λ (z : Float). mul F z nan) power.same
  mul_is_grow (inf s) p q =
      ap (λ (z : Float). mul F z (inf s)) power.same ∙ go (eqb power.mantissa 0) (eqb→eq power.mantissa 0)
    where
      some : (m u d : ℕ) → 0 < d → m * u * 1 ≡ 2 ^ t * d → m ≡ 0 → ⊥
      some m u d above h z =
          lt_irrefl 0 (subst (λ (x : ℕ). 0 < x) (sym h ∙ ap (λ (k : ℕ). k * u * 1) z ∙ simp zero-mul)
          (mul-pos (pow_pos t) above))

      go : (b : Bool) → (T b → power.mantissa ≡ 0) → cond b nan (inf (unlike false s)) ≡ inf s
      go true h =
          absurd (some power.mantissa (up power.exponent) (down power.exponent) (down_pos power.exponent)
          power.cross (h tt))
      go false h = ap inf (like s)
  mul_is_grow (fin s zero e) p q =
      product s zero e ∙ ap (λ (z : ℕ). round F s z (down e)) {y = 0} (simp zero-mul)
      ∙ round_zero s (down e) (down_pos e) ∙ ap (fin s zero) (sym (zero_exponent s e p))
  mul_is_grow (fin s (suc m) e) p q =
      let x = fin s (suc m) e in
      unique (mul F (whole (2 ^ t)) x) (grow t x) s (suc m * up e * 2 ^ t) (down e) (down_pos e)
      (mul-fits F (whole (2 ^ t)) x) q (exact s m e (held s m e p) (held s m (new_exponent t (suc m) e) q))
      (value_grow t x s (suc m * up e) (down e) (refl, refl))
