-- How far `round` moves a fraction, in units of the format's smallest value (`grid`).
-- Assumes nothing.
use mathlib.Core.Path.{◌≡◌, sym, subst}
use Prim.Native.Nat.{ℕ, zero, suc, ◌+◌, ◌-◌, ◌*◌, ◌/◌, ◌%◌, ◌^◌, ◌≤◌, ◌<◌, compare, Ordering}
use native.Mathlib.Nat.{le_trans, le_of_eq, mul_comm, mul_assoc, mul_left_comm, add-mul, mul-le-mul_left}
use native.Mathlib.Nat.{mul-le-mul_right, not-le_of_lt, zero-lt-suc, mul-pos, div-add-mod', mod-lt, le-div_iff_mul-le}
use native.Mathlib.Nat.{div-lt_iff_lt-mul, div-div-eq-div-mul, one-mul, suc-mul}
use native.Mathlib.Omega.{arith}
use mathlib.Core.Bool.{Bool, false, not}
use lib.Dec.{T, is_le, compare_is_eq, eqb, leb→le, nleb→lt, eqb→eq, eqb_refl}
use lib.Arith.{lt_of_le-ne}
use lib.Pow.{pow-add, pow_pos, pow_mono}
use lib.Ieee.{Float, Format, binary64, prec, low, size, nearest, round}
use lib.Ieee.Digits.{size-lt, size-le, size_reaches}
use lib.Ieee.Fits.{nearest-le, kept-lt, round_is}
use lib.Ieee.Exact.{HasValue, units_val}
use lib.Ieee.Nearest.{closest, nearest-ge}
use lib.Ieee.Order.{drop, kept}
use lib.Ieee.Scale.{grid, overflow}
use Rattle.spread.proofs.Rounding.{Is, is_of}

-- ---- what `compare` says
abbrev Cmp : Ordering → ℕ → ℕ → Type 0
Cmp Ordering.lt a b = a < b
Cmp Ordering.eq a b = a ≡ b
Cmp Ordering.gt a b = b < a

cmp : (a b : ℕ) → Cmp (compare a b) a b
cmp a b =
    go (compare a b) (leb→le a b) (nleb→lt a b) (eqb→eq a b)
    (λ (e : a ≡ b). subst (λ (x : ℕ). T (eqb a x)) e (eqb_refl a))
  where
    go : (o : Ordering) → (T (is_le o) → a ≤ b) → (T (not (is_le o)) → b < a) → (T (compare_is_eq o) → a ≡ b)
        → (a ≡ b → T (compare_is_eq o)) → Cmp o a b
    go Ordering.lt h k e n = lt_of_le-ne (h tt) n
    go Ordering.eq h k e n = e tt
    go Ordering.gt h k e n = k tt

-- ---- x is a to within half of b
abbrev pub Half : ℕ → ℕ → ℕ → Type 0
Half x a b = (x * 2 ≤ a * 2 + b) × (a * 2 ≤ x * 2 + b)

parity : (w : ℕ) → w % 2 ≤ 1
parity w = omega arith

near_by : (w r b a : ℕ) (o : Ordering) → r < b → Cmp o (r * 2) b → w * b + r ≡ a → Half (nearest w o * b) a b
near_by w r b a Ordering.lt l c e = omega arith
near_by w r b a Ordering.eq l c e =
    let x : (w + w % 2) * b ≡ w * b + w % 2 * b = add-mul w (w % 2) b in
    let y : w % 2 * b ≤ 1 * b = mul-le-mul_right b (parity w) in
    omega arith
near_by w r b a Ordering.gt l c e = omega (arith, suc-mul w b)

closest_near : (a b : ℕ) → 0 < b → Half (closest a b * b) a b
closest_near a b B =
    near_by (a / b) (a % b) b a (compare (a % b * 2) b) (mod-lt a B) (cmp (a % b * 2) b) (div-add-mod' a b)

-- ---- n / c with p digits kept. `spot` is the rounded number
abbrev pub spot : ℕ → ℕ → ℕ → ℕ
spot p n c = kept p n c * 2 ^ drop p n c

-- its error is at most half of 2 ^ drop
pub spot_near : (p n c : ℕ) → 0 < c → Half (spot p n c * c) n (c * 2 ^ drop p n c)
spot_near p n c C =
    let k = drop p n c in
    subst (λ (x : ℕ). Half x n (c * 2 ^ k)) (simp (mul_assoc, mul_comm, mul_left_comm))
    (closest_near n (c * 2 ^ k) (mul-pos C (pow_pos k)))

less : (z p j : ℕ) → z ≤ p + j → z - p ≤ j
less z p j h = omega arith

-- a fraction below 2 ^ (p + j) drops at most j digits
pub drop_le : (p j n c : ℕ) → 0 < c → n < 2 ^ (p + j) * c → drop p n c ≤ j
drop_le p j n c C h = less (size (n / c)) p j (size-le (n / c) (p + j) ((div-lt_iff_lt-mul C).1 h))

kept_le : (p n c : ℕ) → kept p n c ≤ 2 ^ p
kept_le p n c =
    let k = drop p n c in
    let u = c * 2 ^ k in
    le_trans (nearest-le (n / u) (compare (n % u * 2) u))
    (subst (λ (x : ℕ). x < 2 ^ p) (div-div-eq-div-mul n c (2 ^ k)) (kept-lt p (n / c)))

-- and is rounded to 2 ^ (p + j) at most
pub spot_le : (p j n c : ℕ) → 0 < c → n < 2 ^ (p + j) * c → spot p n c ≤ 2 ^ (p + j)
spot_le p j n c C h =
    le_trans (mul-le-mul_right (2 ^ drop p n c) (kept_le p n c))
    (le_trans (mul-le-mul_left (2 ^ p) (pow_mono (drop_le p j n c C h))) (le_of_eq (sym (pow-add 2 p j))))

some_left : (z p : ℕ) → 0 < p → 0 < z → z - p ≤ z - 1
some_left z p P Z = omega arith

pred_lt : (z : ℕ) → 0 < z → z - 1 < z
pred_lt z h = omega arith

size_pos : (n : ℕ) → 0 < n → 0 < size n
size_pos n h = go (size n) (size-lt n)
  where
    go : (z : ℕ) → n < 2 ^ z → 0 < z
    go zero k = absurd (not-le_of_lt k h)
    go (suc z) k = zero-lt-suc z

-- what is one unit at least does not vanish
pub spot_pos : (p n c : ℕ) → 0 < p → 0 < c → c ≤ n → 0 < spot p n c
spot_pos p n c P C h =
    let w = n / c in
    let k = drop p n c in
    let u = c * 2 ^ k in
    let W : 0 < w = (le-div_iff_mul-le C).1 (le_trans (le_of_eq (one-mul c)) h) in
    let Z : 0 < size w = size_pos w W in
    let a : 1 * 2 ^ k ≤ w =
    le_trans (le_of_eq (one-mul (2 ^ k))) (le_trans (pow_mono (some_left (size w) p P Z))
    (size_reaches w (size w - 1) (pred_lt (size w) Z))) in
    let b : 1 ≤ n / u =
    subst (λ (x : ℕ). 1 ≤ x) (div-div-eq-div-mul n c (2 ^ k)) ((le-div_iff_mul-le (pow_pos k)).1 a) in
    mul-pos (le_trans b (nearest-ge (n / u) (compare (n % u * 2) u))) (pow_pos k)

-- ---- `round`, of either sign
pub round_value : (f : Format) (s : Bool) (a c : ℕ) → grid f a c < overflow f
    → HasValue (round f s a c) s (grid f a c) (2 ^ low f)
round_value f s a c h =
    subst (λ (z : Float). HasValue z s (grid f a c) (2 ^ low f)) (sym (round_is f s a c))
    (units_val f s (kept (prec f) (a * 2 ^ low f) c) (drop (prec f) (a * 2 ^ low f) c) h)

-- ---- f64, and how many of its smallest value make one
abbrev pub F : Format
F = binary64

abbrev pub U : ℕ
U = 2 ^ low F

pub round_is_at : {x : Float} (a c : ℕ) → grid F a c < overflow F → x ≡ round F false a c → Is x (grid F a c) U
round_is_at a c h e =
    subst (λ (z : Float). Is z (grid F a c) U) (sym e)
    (is_of (round F false a c) (grid F a c) U (pow_pos 1074) (round_value F false a c h))
