-- A power of two goes through every operation of f64 whose exact result is zero or in the normal range, and does not
-- overflow.
-- Assumes nothing.
use mathlib.Core.Path.{◌≡◌, sym, ap, ◌∙◌, subst}
use mathlib.Core.Logic.{◌⊎◌, inl, inr}
use mathlib.Core.Bool.{Bool, true, false}
use Prim.Native.Nat.{ℕ, ◌+◌, ◌-◌, ◌*◌, ◌^◌, ◌≤◌, ◌<◌}
use native.Mathlib.Nat.{le_trans, le_of_eq, le_of_lt, lt_of_lt_of_le, lt_of_le_of_lt, lt_of_not-le, mul_assoc, mul_comm}
use native.Mathlib.Nat.{mul_left_comm, mul_right_comm, mul-mul-mul_comm, mul-one, zero-mul, add-mul, mul-pos}
use native.Mathlib.Nat.{mul-le-mul_right, mul-lt-mul_of_pos_right}
use native.Mathlib.Omega.{arith}
use native.Mathlib.Decide.{dec_le}
use lib.Dec.{lit<}
use lib.Pow.{pow-add, pow_pos, pow-lt}
use lib.Ieee.{Float, round, mul, add, sub, div}
use lib.Ieee.Fits.{round-fits}
use lib.Ieee.Exact.{HasValue}
use lib.Ieee.Scale.{grid, overflow, round_same, grid_scale, normal_of_fraction}
use Rattle.spread.proofs.Rounding.{Is, is_of, value_of, mul_of, add_of, div_of, less_of, less_under, sub_mul}
use Rattle.spread.proofs.Error.{F, U, spot_le, round_value}
use Rattle.doubling.specs.Grow.{grow, new_exponent}
use Rattle.doubling.proofs.Grow.{value_grow}
use Rattle.doubling.proofs.Product.{unique, grow_fits, round_zero}

-- ---- `round`
-- a / c is zero or in the normal range, and 2 ^ t times it is far from an overflow
pub record Fine (a c t : ℕ) : Type 0 where
  pub below : 0 < c
  pub sized : (a ≡ 0) ⊎ (2 ^ 52 * c ≤ a * U)
  pub small : a < 2 ^ 200 * c
  pub times : t ≤ 200

pub round_grow : (s : Bool) (a c t : ℕ) → Fine a c t → round F s (a * 2 ^ t) c ≡ grow t (round F s a c)
unfolding grow new_exponent
round_grow s a c t f = go f.sized
  where
    few : grid F a c ≤ 2 ^ 1274
    few =
        spot_le 53 1221 (a * U) c f.below
        (lt_of_lt_of_le (mul-lt-mul_of_pos_right f.small (pow_pos 1074)) (le_of_eq (mul_right_comm (2 ^ 200) c U)))

    fits : grid F a c * 2 ^ t < overflow F
    fits =
        lt_of_le_of_lt (le_trans (mul-le-mul_right (2 ^ t) few) (le_of_eq (sym (pow-add 2 1274 t))))
        (pow-lt {i = 1274 + t} {j = 2098} (omega (arith, f.times)))

    grown : HasValue (grow t (round F s a c)) s (grid F a c * 2 ^ t) U
    grown = value_grow t (round F s a c) s (grid F a c) U (round_value F s a c (lt_of_le_of_lt few (lit< tt)))

    go : (a ≡ 0) ⊎ (2 ^ 52 * c ≤ a * U) → round F s (a * 2 ^ t) c ≡ grow t (round F s a c)
    go (inl e) =
        ap (λ (z : ℕ). round F s z c) (ap (λ (z : ℕ). z * 2 ^ t) e ∙ zero-mul (2 ^ t)) ∙ round_zero s c f.below
        ∙ ap (grow t) (sym (round_zero s c f.below) ∙ ap (λ (z : ℕ). round F s z c) (sym e))
    go (inr h) =
        let same = grid_scale F a c t f.below (normal_of_fraction F a c f.below h) in
        unique (round F s (a * 2 ^ t) c) (grow t (round F s a c)) s (grid F a c * 2 ^ t) U (pow_pos 1074)
        (round-fits F s (a * 2 ^ t) c)
        (grow_fits t (round F s a c) s (grid F a c * 2 ^ t) (round-fits F s a c) grown fits)
        (subst (λ (z : ℕ). HasValue (round F s (a * 2 ^ t) c) s z U) same
        (round_value F s (a * 2 ^ t) c (subst (λ (z : ℕ). z < overflow F) (sym same) fits)))
        grown

-- an operation, by what it rounds
through : {x y : Float} (s : Bool) (a c t : ℕ) → Fine a c t → x ≡ round F s (a * 2 ^ t) c → y ≡ round F s a c
    → x ≡ grow t y
through s a c t f p q = p ∙ round_grow s a c t f ∙ ap (grow t) (sym q)

-- ---- the operations
is_grow : (t : ℕ) {x : Float} {a c : ℕ} → Is x a c → Is (grow t x) (a * 2 ^ t) c
is_grow t {x} {a} {c} p = is_of (grow t x) (a * 2 ^ t) c p.below (value_grow t x false a c (value_of p))

pub mul_grow : {x y : Float} {a b : ℕ} → Is x a 1 → Is y b 1 → (t u : ℕ) → Fine (a * b) 1 (t + u)
    → mul F (grow t x) (grow u y) ≡ grow (t + u) (mul F x y)
mul_grow {a = a} {b} p q t u f =
    through false (a * b) 1 (t + u) f
    (mul_of F (is_grow t p) (is_grow u q)
    ∙ ap (λ (z : ℕ). round F false z 1)
    (mul-mul-mul_comm a (2 ^ t) b (2 ^ u) ∙ ap (λ (z : ℕ). a * b * z) (sym (pow-add 2 t u))))
    (mul_of F p q)

-- two fractions with one denominator
pub add_over : {x y : Float} {a b c : ℕ} → Is x a c → Is y b c → add F x y ≡ round F false (a + b) c
add_over {a = a} {b} {c} p q =
    add_of F p q
    ∙ round_same F false (a * c + b * c) (c * c) (a + b) c (mul-pos p.below p.below) p.below
    (ap (λ (z : ℕ). z * c) (sym (add-mul a b c)) ∙ mul_assoc (a + b) c c)

pub add_grow : {x y : Float} {a b c : ℕ} → Is x a c → Is y b c → (t : ℕ) → Fine (a + b) c t
    → add F (grow t x) (grow t y) ≡ grow t (add F x y)
add_grow {a = a} {b} {c} p q t f =
    through false (a + b) c t f
    (add_over (is_grow t p) (is_grow t q) ∙ ap (λ (z : ℕ). round F false z c) (sym (add-mul a b (2 ^ t))))
    (add_over p q)

-- a fraction by a whole number
pub div_over : {x y : Float} {a b c : ℕ} → Is x a c → Is y b 1 → 0 < b → div F x y ≡ round F false a (b * c)
div_over {a = a} {b} {c} p q some = div_of F p q some ∙ ap (λ (z : ℕ). round F false z (b * c)) (mul-one a)

pub div_grow : {x y : Float} {a b c : ℕ} → Is x a c → Is y b 1 → 0 < b → (t u : ℕ) → Fine a (b * c) t
    → div F (grow (t + u) x) (grow u y) ≡ grow t (div F x y)
div_grow {a = a} {b} {c} p q some t u f =
    let some' : 0 < b * 2 ^ u = mul-pos some (pow_pos u) in
    through false a (b * c) t f
    (div_over (is_grow (t + u) p) (is_grow u q) some'
    ∙ round_same F false (a * 2 ^ (t + u)) (b * 2 ^ u * c) (a * 2 ^ t) (b * c) (mul-pos some' p.below) f.below
    (simp (mul_assoc, mul_comm, mul_left_comm, pow-add)))
    (div_over p q some)

-- a whole number less a fraction, whichever is more: one of the two differences is 0
module _ {x y : Float} {a b c : ℕ} (p : Is x a 1) (q : Is y b c) (t : ℕ) where
  left : (m n : ℕ) → n ≤ m → m - n + (n - m) ≡ m - n
  left m n h = omega arith

  right : (m n : ℕ) → n ≤ m → n - m + (m - n) ≡ m - n
  right m n h = omega arith

  swap : a * 2 ^ t * c ≡ a * c * 2 ^ t
  swap = mul_right_comm a (2 ^ t) c

  pub sub_grow : Fine (a * c - b + (b - a * c)) c t → sub F (grow t x) (grow t y) ≡ grow t (sub F x y)
  sub_grow f = elim (dec_le b (a * c)) [
    | yes h ↦ through false (a * c - b) c t (subst (λ (z : ℕ). Fine z c t) (left (a * c) b h) f)
        (less_of F (is_grow t p) (is_grow t q) (le_trans (mul-le-mul_right (2 ^ t) h) (le_of_eq (sym swap)))
        ∙ ap (λ (z : ℕ). round F false z c)
        (ap (λ (z : ℕ). z - b * 2 ^ t) swap ∙ sym (sub_mul (a * c) b (2 ^ t))))
        (less_of F p q h)
    | no n ↦ let h = lt_of_not-le n in
        through true (b - a * c) c t (subst (λ (z : ℕ). Fine z c t) (right b (a * c) (le_of_lt h)) f)
        (less_under F (is_grow t p) (is_grow t q)
        (lt_of_le_of_lt (le_of_eq swap) (mul-lt-mul_of_pos_right h (pow_pos t)))
        ∙ ap (λ (z : ℕ). round F true z c)
        (ap (λ (z : ℕ). b * 2 ^ t - z) swap ∙ sym (sub_mul b (a * c) (2 ^ t))))
        (less_under F p q h)
  ]
