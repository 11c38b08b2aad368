-- Relative errors as whole numbers, and which powers of two divide a rounded number.
-- Assumes nothing.
use mathlib.Core.Path.{◌≡◌, sym, ap, ◌∙◌, subst}
use mathlib.Core.Logic.{◌⊎◌, inl, inr}
use Prim.Native.Nat.{ℕ, zero, suc, ◌+◌, ◌-◌, ◌*◌, ◌/◌, ◌%◌, ◌^◌, ◌≤◌, ◌<◌, compare, Ordering}
use Prim.Native.Nat.compare
use native.Mathlib.Nat.{le_trans, le_of_eq, lt_of_lt_of_le, lt_irrefl, lt_of_not-le, not-le_of_lt, mul_comm}
use native.Mathlib.Nat.{mul_assoc, mul-add, add-mul, mul-le-mul_right, zero-mul, mul-pos, mul-div_cancel}
use native.Mathlib.Nat.{mul-mod_left, le-div_iff_mul-le, le_of_mul-le-mul_right, le_of_lt}
use native.Mathlib.Omega.{arith}
use native.Mathlib.Decide.{dec_le}
use lib.Pow.{pow-add, pow_pos, pow_mono}
use lib.Ieee.{size, nearest}
use lib.Ieee.Digits.{size-lt, size_reaches, back}
use lib.Ieee.Nearest.{closest}
use lib.Ieee.Order.{drop, kept}
use Rattle.spread.proofs.Error.{Half, spot, spot_near}

-- ---- errors in parts of 2 ^ 57
abbrev pub E : ℕ
E = 144115188075855872

-- x is v to within j parts of it. One rounding is 16 parts
pub record Near (j x v : ℕ) : Type 0 where
  pub high : E * x ≤ E * v + j * v
  pub low : E * v ≤ E * x + j * v

near_zero : Near 16 0 0
near_zero = record { high = omega arith; low = omega arith }

pub near_add : {j x v y u : ℕ} → Near j x v → Near j y u → Near j (x + y) (v + u)
near_add {j} {x} {v} {y} {u} p q =
    let e : j * (v + u) ≡ j * v + j * u = mul-add j v u in
    record { high = omega arith; low = omega arith }

pub near_more : {x v : ℕ} → Near 16 x v → Near 33 x v
near_more h = record { high = omega arith; low = omega arith }

pub near_double : {j x v : ℕ} → j ≤ 50 → Near j x v → x ≤ 2 * v
near_double {j} {x} {v} l h = let e : j * v ≤ 50 * v = mul-le-mul_right v l in omega arith

-- one rounding more. The products are variables here, since omega multiplies its coefficients up past its bound
chain : (A B C d x v : ℕ) → A ≤ B + d → B ≤ C + 16 * x → 16 * x ≤ 17 * v → A ≤ C + (d + 17 * v)
chain A B C d x v p q r = omega arith

chain_up : (A B C d x v : ℕ) → C ≤ B + 16 * x → B ≤ A + d → 16 * x ≤ 17 * v → C ≤ A + (d + 17 * v)
chain_up A B C d x v p q r = omega arith

pub again : {j x v y : ℕ} → j ≤ 50 → Near j x v → Near 16 y x → Near (j + 17) y v
again {j} {x} {v} {y} l p q =
    let e : j * v ≤ 50 * v = mul-le-mul_right v l in
    let a : 16 * x ≤ 17 * v = little x v (j * v) p.high e in
    record {
      high = rw (add-mul j 17 v) (chain_up (E * v) (E * x) (E * y) (j * v) x v q.high p.high a);
      low = rw (add-mul j 17 v) (chain (E * v) (E * x) (E * y) (j * v) x v p.low q.low a);
    }
  where
    little : (x v d : ℕ) → E * x ≤ E * v + d → d ≤ 50 * v → 16 * x ≤ 17 * v
    little x v d h k = omega arith

-- a common factor
times : (j x v k : ℕ) → (E * x + j * v) * k ≡ E * (x * k) + j * (v * k)
times j x v k = simp (add-mul, mul_assoc)

pub near_scale : {j x v : ℕ} (k : ℕ) → Near j x v → Near j (x * k) (v * k)
near_scale {j} {x} {v} k h =
    record {
      high =
          le_trans (le_of_eq (sym (mul_assoc E x k)))
          (le_trans (mul-le-mul_right k h.high) (le_of_eq (times j v v k)));
      low =
          le_trans (le_of_eq (sym (mul_assoc E v k)))
          (le_trans (mul-le-mul_right k h.low) (le_of_eq (times j x v k)));
    }

pub near_cancel : (j x v k : ℕ) → 0 < k → Near j (x * k) (v * k) → Near j x v
near_cancel j x v k K h =
    record {
      high =
          le_of_mul-le-mul_right {m = E * x} {n = E * v + j * v} {k = k}
          (le_trans (le_of_eq (mul_assoc E x k)) (le_trans h.high (le_of_eq (sym (times j v v k))))) K;
      low =
          le_of_mul-le-mul_right {m = E * v} {n = E * x + j * v} {k = k}
          (le_trans (le_of_eq (mul_assoc E v k)) (le_trans h.low (le_of_eq (sym (times j x v k))))) K;
    }

-- ---- one rounding to 53 digits
size_gt : (n j : ℕ) → 2 ^ j ≤ n → j < size n
size_gt n j h = lt_of_not-le (λ (g : size n ≤ j). not-le_of_lt (lt_of_lt_of_le (size-lt n) (pow_mono g)) h)

room : (z : ℕ) → 52 < z → 52 + (z - 53) < z
room z h = omega arith

-- the digits that are dropped count for little
dropped : (n c : ℕ) → 0 < c → 2 ^ 52 * c ≤ n → 2 ^ 52 * (c * 2 ^ drop 53 n c) ≤ n
dropped n c C h =
    let w = n / c in
    let k = drop 53 n c in
    let a : 2 ^ (52 + k) ≤ w = size_reaches w (52 + k) (room (size w) (size_gt w 52 ((le-div_iff_mul-le C).1 h))) in
    let b : 2 ^ (52 + k) * c ≤ n = (le-div_iff_mul-le C).0 a in
    le_trans (le_of_eq (ap (λ (x : ℕ). 2 ^ 52 * x) (mul_comm c (2 ^ k)) ∙ sym (mul_assoc (2 ^ 52) (2 ^ k) c)
    ∙ ap (λ (x : ℕ). x * c) (sym (pow-add 2 52 k)))) b

half_near : (x n h : ℕ) → Half x n h → 4503599627370496 * h ≤ n → Near 16 x n
half_near x n h w l = record { high = omega arith; low = omega arith }

rounded : (n c : ℕ) → 0 < c → 2 ^ 52 * c ≤ n → Near 16 (spot 53 n c * c) n
rounded n c C h = half_near (spot 53 n c * c) n (c * 2 ^ drop 53 n c) (spot_near 53 n c C) (dropped n c C h)

-- ---- exact where the fraction is whole
compare_zero : (u : ℕ) → 0 < u → compare 0 u ≡ Ordering.lt
compare_zero zero h = absurd (lt_irrefl 0 h)
compare_zero (suc u) h = compare.zero-suc u

closest_exact : (q u : ℕ) → 0 < u → closest (q * u) u ≡ q
closest_exact q u h =
    ap (λ (x : ℕ). nearest x (compare (q * u % u * 2) u)) (mul-div_cancel q h)
    ∙ ap (λ (x : ℕ). nearest q (compare (x * 2) u)) (mul-mod_left q u)
    ∙ ap (λ (o : Ordering). nearest q o) (compare_zero u h)

-- ---- multiples of 2 ^ j
abbrev pub Multiple : ℕ → ℕ → Type 0
Multiple j x = (k : ℕ) × (x ≡ k * 2 ^ j)

mul_up : (m j i : ℕ) → j ≤ i → Multiple j (m * 2 ^ i)
mul_up m j i h = (
  m * 2 ^ (i - j),
  ap (λ (x : ℕ). m * 2 ^ x) (sym (back i j h)) ∙ ap (λ (x : ℕ). m * x) (pow-add 2 (i - j) j)
      ∙ sym (mul_assoc m (2 ^ (i - j)) (2 ^ j)),
)

-- a multiple of a power of two, written as a fraction over c, is rounded to one: either its digits are all kept, or
-- what is dropped is more than the power
pub spot_mul : (p j q c : ℕ) → 0 < c → Multiple j (spot p (q * 2 ^ j * c) c)
spot_mul p j q c C =
    elim (dec_le j (drop p (q * 2 ^ j * c) c)) [
      | yes h ↦ mul_up (kept p (q * 2 ^ j * c) c) j (drop p (q * 2 ^ j * c) c) h
      | no
          h ↦ (q, exact (le_of_lt (lt_of_not-le h)))
    ]
  where
    exact : drop p (q * 2 ^ j * c) c ≤ j → spot p (q * 2 ^ j * c) c ≡ q * 2 ^ j
    exact l =
        let i = drop p (q * 2 ^ j * c) c in
        let r = q * 2 ^ (j - i) in
        let e : r * 2 ^ i ≡ q * 2 ^ j =
        mul_assoc q (2 ^ (j - i)) (2 ^ i)
        ∙ ap (λ (x : ℕ). q * x) (sym (pow-add 2 (j - i) i) ∙ ap (λ (x : ℕ). 2 ^ x) (back j i l)) in
        let f : q * 2 ^ j * c ≡ r * (c * 2 ^ i) =
        ap (λ (x : ℕ). x * c) (sym e) ∙ mul_assoc r (2 ^ i) c ∙ ap (λ (x : ℕ). r * x) (mul_comm (2 ^ i) c) in
        ap (λ (x : ℕ). closest x (c * 2 ^ i) * 2 ^ i) f
        ∙ ap (λ (x : ℕ). x * 2 ^ i) (closest_exact r (c * 2 ^ i) (mul-pos C (pow_pos i))) ∙ e

enough : (p j t z : ℕ) → p + j ≤ suc t → t < z → j ≤ z - p
enough p j t z h k = omega arith

-- a fraction from 2 ^ t on, t + 1 being p + j or more, is rounded to a multiple of 2 ^ j
spot_coarse : (p j t n c : ℕ) → 0 < c → 2 ^ t * c ≤ n → p + j ≤ suc t → Multiple j (spot p n c)
spot_coarse p j t n c C h P =
    mul_up (kept p n c) j (drop p n c) (enough p j t (size (n / c)) P
    (size_gt (n / c) t ((le-div_iff_mul-le C).1 h)))

spot_none : (p c : ℕ) → 0 < c → spot p 0 c ≡ 0
spot_none p c C =
    let i = drop p 0 c in
    ap (λ (x : ℕ). closest x (c * 2 ^ i) * 2 ^ i) (sym (zero-mul (c * 2 ^ i)))
    ∙ ap (λ (x : ℕ). x * 2 ^ i) (closest_exact 0 (c * 2 ^ i) (mul-pos C (pow_pos i))) ∙ zero-mul (2 ^ i)

pub rounded_or_zero : (n c : ℕ) → 0 < c → (n ≡ 0) ⊎ (2 ^ 52 * c ≤ n) → Near 16 (spot 53 n c * c) n
rounded_or_zero n c C (inl e) =
    subst (λ (z : ℕ). Near 16 (spot 53 z c * c) z) (sym e)
    (subst (λ (z : ℕ). Near 16 z 0) (sym (ap (λ (z : ℕ). z * c) (spot_none 53 c C) ∙ zero-mul c)) near_zero)
rounded_or_zero n c C (inr h) = rounded n c C h

pub coarse_or_zero : (j t n c : ℕ) → 0 < c → 53 + j ≤ suc t → (n ≡ 0) ⊎ (2 ^ t * c ≤ n) → Multiple j (spot 53 n c)
coarse_or_zero j t n c C P (inl e) = (0, ap (λ (x : ℕ). spot 53 x c) e ∙ spot_none 53 c C ∙ sym (zero-mul (2 ^ j)))
coarse_or_zero j t n c C P (inr h) = spot_coarse 53 j t n c C h P
