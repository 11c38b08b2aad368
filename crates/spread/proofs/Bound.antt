-- The spread of any box of weight 1 to 4,294,967,295: 2 ^ 84 times it is whole, and it is within less than one half
-- of the exact spread.
-- Assumes nothing.
use mathlib.Core.Path.{◌≡◌, refl, sym, ap, ap₂, ◌∙◌, subst}
use mathlib.Core.Logic.{◌⊎◌, inl, inr}
use Prim.Native.Nat.{ℕ, ◌+◌, ◌-◌, ◌*◌, ◌^◌, ◌≤◌, ◌<◌}
use native.Mathlib.Nat.{le_trans, le_of_eq, le_of_lt, lt_of_lt_of_le, lt_of_le_of_lt, lt_of_not-le, mul_comm}
use native.Mathlib.Nat.{mul_assoc, mul_left_comm, mul_right_comm, mul-one, one-mul, zero-mul, add-mul, add-le-add}
use native.Mathlib.Nat.{mul-le-mul, mul-le-mul_right, mul-le-mul_left, mul-lt-mul_of_pos_right, mul-pos}
use native.Mathlib.Nat.{le_of_mul-le-mul_right, le_of_mul-le-mul_left, eq_of_mul-eq-mul_right, lt_of_mul-lt-mul_right}
use native.Mathlib.Nat.{eq-zero-or-pos, sub-le, sub-add_cancel}
use native.Mathlib.Omega.{arith}
use native.Mathlib.Decide.{dec_le}
use mathlib.Core.Bool.{Bool, true, false}
use lib.Dec.{lit<, lit≤}
use lib.Pow.{pow_pos, pow_mono}
use lib.Ieee.{Float, nan, inf, fin, up, down, round, add}
use lib.Ieee.Exact.{HasValue}
use lib.Ieee.Scale.{grid, overflow}
use lib.Ieee.Order.{drop}
use Rattle.grid.specs.declared.place.Grid.{Grid}
use Rattle.table.specs.Cell.{View}
use Rattle.table.specs.Sound.{limit}
use Rattle.table.proofs.Soundness.{Sound}
use Rattle.boxes.specs.declared.sides.Bounds.{Bounds}
use Rattle.boxes.specs.Box.{Within, one_bin}
use Rattle.bins.specs.Sum.{box_sum}
use Rattle.sums.specs.Box.{whole, stats_of}
use Rattle.spread.specs.Spread.{square_of, q_of, exact_q, spread_of}
use Rattle.spread.proofs.Numbers.{Numbers, quot_at, spread_at, weight_value, squares_value, numbers, spread_is}
use Rattle.spread.proofs.Rounding.{Is, is_of, of_whole, mul_of, add_whole, div_whole, less_of, less_under}
use Rattle.spread.proofs.Rounding.{sub_mul}
use Rattle.spread.proofs.Error.{F, U, Half, spot, spot_near, drop_le, spot_le, round_value, round_is_at}
use Rattle.spread.proofs.Near.{E, Near, Multiple, near_add, near_more, near_double, near_cancel, near_scale}
use Rattle.spread.proofs.Near.{again, spot_mul, rounded_or_zero, coarse_or_zero}

-- ---- the same value with a factor less
down_scale : (x : Float) (s : Bool) (k l u : ℕ) → 0 < u → HasValue x s (k * u) (l * u) → HasValue x s k l
down_scale nan s k l u p h = h
down_scale (inf t) s k l u p h = h
down_scale (fin t m e) s k l u p h = (
  h.0,
  eq_of_mul-eq-mul_right u p (m * up e * l) (k * down e)
      (mul_assoc (m * up e) l u ∙ h.1 ∙ mul_right_comm k u (down e)),
)

-- ---- a whole number rounded is a whole number
pub record Whole (x : Float) (j m : ℕ) : Type 0 where
  pub number : ℕ
  pub value : Is x number 1
  pub near : Near j number m

zero_or_big : (m : ℕ) → (m * U ≡ 0) ⊎ (2 ^ 52 * 1 ≤ m * U)
zero_or_big m =
    elim (eq-zero-or-pos m) [
      | inl e ↦ inl (ap (λ (x : ℕ). x * U) e ∙ zero-mul U)
      | inr p ↦ inr
          (le_trans (lit≤ tt) (le_trans (le_of_eq (sym (one-mul U))) (mul-le-mul_right U p)))
    ]

int_round : {x : Float} (m : ℕ) → m < 2 ^ 100 → x ≡ round F false m 1 → Whole x 16 m
int_round m h is =
    let s = spot_mul 53 1074 m 1 (lit< tt) in
    let k = s.0 in
    let e : grid F m 1 ≡ k * U = ap (λ (x : ℕ). spot 53 x 1) (sym (mul-one (m * U))) ∙ s.1 in
    let small : m * U < 2 ^ (53 + 1121) * 1 = mul-lt-mul_of_pos_right h (pow_pos 1074) in
    let fits : grid F m 1 < overflow F = lt_of_le_of_lt (spot_le 53 1121 (m * U) 1 (lit< tt) small) (lit< tt) in
    let v : HasValue (round F false m 1) false (k * U) U =
    subst (λ (x : ℕ). HasValue (round F false m 1) false x U) e (round_value F false m 1 fits) in
    let n : Near 16 (grid F m 1 * 1) (m * U) = rounded_or_zero (m * U) 1 (lit< tt) (zero_or_big m) in
    record {
      number = k;
      value =
          subst (λ (z : Float). Is z k 1) (sym is)
          (is_of (round F false m 1) k 1 (lit< tt) (down_scale (round F false m 1) false k 1 U (pow_pos 1074) v));
      near = near_cancel 16 k m U (pow_pos 1074) (subst (λ (x : ℕ). Near 16 x (m * U)) (mul-one (grid F m 1) ∙ e) n);
    }

-- ---- Q is a whole number, three roundings away from the exact one. A component's sum is at most 255 * 4,294,967,295
square_le : (a : ℕ) → a ≤ 1095216660225 → a * a ≤ 1199532532836091060650625
square_le a h = le_trans (mul-le-mul h h) (lit≤ tt)

square_whole : (a : ℕ) → a ≤ 1095216660225 → Whole (square_of a) 16 (a * a)
square_whole a h =
    let v : Is (whole a) a 1 = of_whole F a (le_trans h (lit≤ tt)) in
    int_round (a * a) (lt_of_le_of_lt (square_le a h) (lit< tt)) (mul_of F v v)

-- one sum more
sum_small : (k l u v : ℕ) → k ≤ 2 * u → l ≤ 2 * v → u ≤ 2399065065672182121301250 → v ≤ 1199532532836091060650625
    → k + l < 1267650600228229401496703205376
sum_small k l u v p q r s = omega arith

sum_whole : {x y : Float} {j u v : ℕ} → j ≤ 33 → Whole x j u → Whole y j v → u ≤ 2399065065672182121301250
    → v ≤ 1199532532836091060650625 → Whole (add F x y) (j + 17) (u + v)
sum_whole {j = j} {u} {v} few p q h k =
    let l : j ≤ 50 = omega arith in
    let r =
    int_round (p.number + q.number) (sum_small p.number q.number u v (near_double l p.near)
    (near_double l q.near) h k) (add_whole F p.value q.value) in
    record { number = r.number; value = r.value; near = again l (near_add p.near q.near) r.near }

q_whole : (a b c : ℕ) → a ≤ 1095216660225 → b ≤ 1095216660225 → c ≤ 1095216660225 → Whole (q_of a b c) 50 (exact_q a b c)
q_whole a b c ha hb hc =
    let A = square_le a ha in
    let B = square_le b hb in
    let z = square_whole c hc in
    let s : Whole (add F (square_of a) (square_of b)) 33 (a * a + b * b) =
    sum_whole (lit≤ tt) (square_whole a ha) (square_whole b hb) (le_trans A (lit≤ tt)) B in
    let t : Whole (square_of c) 33 (c * c) =
    record { number = z.number; value = z.value; near = near_more z.near } in
    sum_whole (lit≤ tt) s t (add-le-add A B) (square_le c hc)

-- ---- a quotient by n: zero, or large enough to keep 53 digits
abbrev R : ℕ
R = 2 ^ 990

zero_or_wide : (z n : ℕ) → n ≤ limit → (z * U ≡ 0) ⊎ (2 ^ 1042 * n ≤ z * U)
zero_or_wide z n h =
    elim (eq-zero-or-pos z) [
      | inl e ↦ inl (ap (λ (x : ℕ). x * U) e ∙ zero-mul U)
      | inr p ↦ inr
          (le_trans (mul-le-mul_left (2 ^ 1042) h)
          (le_trans (lit≤ tt) (le_trans (le_of_eq (sym (one-mul U))) (mul-le-mul_right U p))))
    ]

narrow : (z n : ℕ) → (z * U ≡ 0) ⊎ (2 ^ 1042 * n ≤ z * U) → (z * U ≡ 0) ⊎ (2 ^ 52 * n ≤ z * U)
narrow z n (inl e) = inl e
narrow z n (inr h) = inr (le_trans (mul-le-mul_right n (lit≤ tt)) h)

-- ---- the last rounding, of a difference of d = q * R of the smallest values, below 2 ^ 50
half_cancel : (x a u h most : ℕ) → 0 < u → Half (x * u) (a * u) (u * h) → h ≤ most → Half x a most
half_cancel x a u h most K w l =
    let p : (x * 2) * u ≤ (a * 2 + h) * u =
    le_trans (le_of_eq (mul_right_comm x 2 u))
    (le_trans w.0 (le_of_eq (simp (add-mul, mul_assoc, mul_comm, mul_left_comm)))) in
    let q : (a * 2) * u ≤ (x * 2 + h) * u =
    le_trans (le_of_eq (mul_right_comm a 2 u))
    (le_trans w.1 (le_of_eq (simp (add-mul, mul_assoc, mul_comm, mul_left_comm)))) in
    let p' : x * 2 ≤ a * 2 + h = le_of_mul-le-mul_right p K in
    let q' : a * 2 ≤ x * 2 + h = le_of_mul-le-mul_right q K in
    omega arith

record Last (x : Float) (s : Bool) (d : ℕ) : Type 0 where
  parts : ℕ
  value : HasValue x s parts (2 ^ 84)
  near : Half (parts * R) d (2 ^ 1071)

last : {x : Float} (s : Bool) (d q : ℕ) → d ≡ q * R → d < 2 ^ 1124 → x ≡ round F s d U → Last x s d
last s d q e h is =
    let m = spot_mul 53 990 q U (pow_pos 1074) in
    let k = m.0 in
    let same : grid F d U ≡ k * R = ap (λ (x : ℕ). spot 53 (x * U) U) e ∙ m.1 in
    let small : d * U < 2 ^ (53 + 1071) * U = mul-lt-mul_of_pos_right h (pow_pos 1074) in
    let fits : grid F d U < overflow F = lt_of_le_of_lt (spot_le 53 1071 (d * U) U (pow_pos 1074) small) (lit< tt) in
    let v : HasValue (round F s d U) s (k * R) U =
    subst (λ (x : ℕ). HasValue (round F s d U) s x U) same (round_value F s d U fits) in
    let w : Half (grid F d U * U) (d * U) (U * 2 ^ drop 53 (d * U) U) = spot_near 53 (d * U) U (pow_pos 1074) in
    let c : Half (grid F d U) d (2 ^ 1071) =
    half_cancel (grid F d U) d U (2 ^ drop 53 (d * U) U) (2 ^ 1071) (pow_pos 1074) w
    (pow_mono (drop_le 53 1071 (d * U) U (pow_pos 1074) small)) in
    record {
      parts = k;
      value =
          subst (λ (z : Float). HasValue z s k (2 ^ 84)) (sym is)
          (down_scale (round F s d U) s k (2 ^ 84) R (pow_pos 990) v);
      near = subst (λ (x : ℕ). Half x d (2 ^ 1071)) same c;
    }

-- ---- the sum of the errors. The exact Q is at most M * n: 3 * 255 * (255 * 4,294,967,295)
abbrev M : ℕ
M = 837840745072125

sum_few : (n v u : ℕ) → v ≤ M * n → v * u ≤ M * (u * n)
sum_few n v u h = le_trans (mul-le-mul_right u h) (le_of_eq (mul_assoc M n u ∙ ap (λ (x : ℕ). M * x) (mul_comm n u)))

-- so 67 parts of 2 ^ 57 of X are at most two fifths of N. The factor 2 ^ 57 is taken off last, since omega's numbers
-- end at 38 digits
part : (X N : ℕ) → X ≤ M * N → 335 * X ≤ 2 * E * N
part X N h = omega arith

cut : (A B C : ℕ) → E * A ≤ E * (B + C) → A ≤ B + C
cut A B C h = le_of_mul-le-mul_left h (lit< tt)

gap_low : (X W N : ℕ) → Near 67 W X → X ≤ M * N → 5 * X ≤ 5 * W + 2 * N
gap_low X W N h k = let l = part X N k in cut (5 * X) (5 * W) (2 * N) (omega (arith, h.low))

gap_high : (X W N : ℕ) → Near 67 W X → X ≤ M * N → 5 * W ≤ 5 * X + 2 * N
gap_high X W N h k = let l = part X N k in cut (5 * W) (5 * X) (2 * N) (omega (arith, h.high))

-- t is d to within N / 16, and d + W = S or d + S = W
left_small : (t d W S X N p : ℕ) → t * 2 ≤ d * 2 + p → d * 2 ≤ t * 2 + p → 8 * p ≡ N → 0 < N → d + W ≡ S
    → 5 * X ≤ 5 * W + 2 * N → 5 * W ≤ 5 * X + 2 * N → (2 * t + 2 * X < 2 * S + N) × (2 * S < 2 * t + 2 * X + N)
left_small t d W S X N p a b c z e f g = omega arith

right_small : (t d W S X N p : ℕ) → t * 2 ≤ d * 2 + p → d * 2 ≤ t * 2 + p → 8 * p ≡ N → 0 < N → d + S ≡ W
    → 5 * X ≤ 5 * W + 2 * N → 5 * W ≤ 5 * X + 2 * N → (2 * X < 2 * S + 2 * t + N) × (2 * S + 2 * t < 2 * X + N)
right_small t d W S X N p a b c z e f g = omega arith

-- ---- what is stated: k / L with the sign s lies within less than one half of (n * sq - v) / n. Both are multiplied
-- by 2 * n * L, and nothing is subtracted
abbrev pub Closely : ℕ → Bool → ℕ → ℕ → ℕ → ℕ → Type 0
Closely L false k n v sq =
    (2 * (n * k) + 2 * (v * L) < 2 * (n * sq * L) + n * L) × (2 * (n * sq * L) < 2 * (n * k) + 2 * (v * L) + n * L)
Closely L true k n v sq =
    (2 * (v * L) < 2 * (n * sq * L) + 2 * (n * k) + n * L) × (2 * (n * sq * L) + 2 * (n * k) < 2 * (v * L) + n * L)

pub record Close (x : Float) (n v sq : ℕ) : Type 0 where
  pub sign : Bool
  pub parts : ℕ
  pub value : HasValue x sign parts (2 ^ 84)
  pub near : Closely (2 ^ 84) sign parts n v sq

-- from the smallest values to parts of L: L * r is u, and h an eighth of it
module _ (n k v sq w d L r u h : ℕ) (split : L * r ≡ u) (eighth : 8 * h ≡ u) (np : 0 < n) (up : 0 < u)
    (last : Half (k * r) d h) (quotient : Near 67 (w * n) (v * u)) (few : v ≤ M * n) where
  t_le : k * r * n * 2 ≤ d * n * 2 + h * n
  t_le =
      le_trans (le_of_eq (mul_right_comm (k * r) n 2))
      (le_trans (mul-le-mul_right n last.0)
      (le_of_eq (add-mul (d * 2) h n ∙ ap (λ (x : ℕ). x + h * n) (mul_right_comm d 2 n))))

  t_ge : d * n * 2 ≤ k * r * n * 2 + h * n
  t_ge =
      le_trans (le_of_eq (mul_right_comm d n 2))
      (le_trans (mul-le-mul_right n last.1)
      (le_of_eq (add-mul (k * r * 2) h n ∙ ap (λ (x : ℕ). x + h * n) (mul_right_comm (k * r) 2 n))))

  eight : 8 * (h * n) ≡ u * n
  eight = sym (mul_assoc 8 h n) ∙ ap (λ (x : ℕ). x * n) eighth

  low : 5 * (v * u) ≤ 5 * (w * n) + 2 * (u * n)
  low = gap_low (v * u) (w * n) (u * n) quotient (sum_few n v u few)

  high : 5 * (w * n) ≤ 5 * (v * u) + 2 * (u * n)
  high = gap_high (v * u) (w * n) (u * n) quotient (sum_few n v u few)

  -- the products as multiples of r
  e_t : k * r * n ≡ n * k * r
  e_t = mul_right_comm k r n ∙ ap (λ (x : ℕ). x * r) (mul_comm k n)

  e_x : v * u ≡ v * L * r
  e_x = ap (λ (x : ℕ). v * x) (sym split) ∙ sym (mul_assoc v L r)

  e_s : sq * u * n ≡ n * sq * L * r
  e_s =
      mul_right_comm sq u n ∙ ap (λ (x : ℕ). x * u) (mul_comm sq n) ∙ ap (λ (x : ℕ). n * sq * x) (sym split)
      ∙ sym (mul_assoc (n * sq) L r)

  e_n : u * n ≡ n * L * r
  e_n = mul_comm u n ∙ ap (λ (x : ℕ). n * x) (sym split) ∙ sym (mul_assoc n L r)

  left : d + w ≡ sq * u → Closely L false k n v sq
  left e =
      let e' : d * n + w * n ≡ sq * u * n = sym (add-mul d w n) ∙ ap (λ (x : ℕ). x * n) e in
      let z =
      left_small (k * r * n) (d * n) (w * n) (sq * u * n) (v * u) (u * n) (h * n) t_le t_ge eight (mul-pos up np)
      e' low high in
      let x : (2 * (n * k) + 2 * (v * L)) * r ≡ 2 * (n * k * r) + 2 * (v * L * r) = simp (add-mul, mul_assoc) in
      let y : (2 * (n * sq * L) + n * L) * r ≡ 2 * (n * sq * L * r) + n * L * r = simp (add-mul, mul_assoc) in
      let x' : (2 * (n * sq * L)) * r ≡ 2 * (n * sq * L * r) = mul_assoc 2 (n * sq * L) r in
      let y' : (2 * (n * k) + 2 * (v * L) + n * L) * r ≡ 2 * (n * k * r) + 2 * (v * L * r) + n * L * r =
      simp (add-mul, mul_assoc) in (
        lt_of_mul-lt-mul_right r (omega (arith, e_t, e_x, e_s, e_n)),
        lt_of_mul-lt-mul_right r
            (omega (arith, e_t, e_x, e_s, e_n)),
      )

  right : d + sq * u ≡ w → Closely L true k n v sq
  right e =
      let e' : d * n + sq * u * n ≡ w * n = sym (add-mul d (sq * u) n) ∙ ap (λ (x : ℕ). x * n) e in
      let z =
      right_small (k * r * n) (d * n) (w * n) (sq * u * n) (v * u) (u * n) (h * n) t_le t_ge eight (mul-pos up np)
      e' low high in
      let x : (2 * (v * L)) * r ≡ 2 * (v * L * r) = mul_assoc 2 (v * L) r in
      let y : (2 * (n * sq * L) + 2 * (n * k) + n * L) * r ≡ 2 * (n * sq * L * r) + 2 * (n * k * r) + n * L * r =
      simp (add-mul, mul_assoc) in
      let x' : (2 * (n * sq * L) + 2 * (n * k)) * r ≡ 2 * (n * sq * L * r) + 2 * (n * k * r) =
      simp (add-mul, mul_assoc) in
      let y' : (2 * (v * L) + n * L) * r ≡ 2 * (v * L * r) + n * L * r = simp (add-mul, mul_assoc) in (
        lt_of_mul-lt-mul_right r (omega (arith, e_t, e_x, e_s, e_n)),
        lt_of_mul-lt-mul_right r
            (omega (arith, e_t, e_x, e_s, e_n)),
      )

-- ---- the theorem
quotient_few : (w v n u : ℕ) → 0 < u → 0 < n → 5 * (w * n) ≤ 5 * (v * u) + 2 * (u * n) → v * u ≤ M * (u * n)
    → w < 2 ^ 50 * u
quotient_few w v n u p q h k =
    let some : 0 < u * n = mul-pos p q in
    let e : 2 ^ 50 * u * n ≡ 2 ^ 50 * (u * n) = mul_assoc (2 ^ 50) u n in
    lt_of_mul-lt-mul_right n (omega arith)

module _ {n a b c sq : ℕ} (box : Numbers n a b c sq) where
  abbrev v : ℕ
  v = exact_q a b c

  v_few : v ≤ M * n
  v_few =
      let A : a * a ≤ 255 * n * 1095216660225 = mul-le-mul box.one (omega arith) in
      let B : b * b ≤ 255 * n * 1095216660225 = mul-le-mul box.two (omega arith) in
      let C : c * c ≤ 255 * n * 1095216660225 = mul-le-mul box.three (omega arith) in
      omega arith

  q : Whole (q_of a b c) 50 v
  q = q_whole a b c (omega (arith, box.one)) (omega (arith, box.two)) (omega (arith, box.three))

  z : ℕ
  z = q.number

  z_few : z < 2 ^ 52 * n
  unfolding z
  z_few = omega (arith, near_double (lit≤ tt) q.near, v_few, box.some)

  wide : (z * U ≡ 0) ⊎ (2 ^ 1042 * n ≤ z * U)
  wide = zero_or_wide z n box.most

  -- Q / n in the smallest values
  pub w : ℕ
  w = grid F z n

  pub w_value : Is (quot_at n a b c) w U
  unfolding w z
  w_value =
      let l : z * U < 2 ^ (53 + 1073) * n =
      lt_of_lt_of_le (mul-lt-mul_of_pos_right z_few (pow_pos 1074)) (le_of_eq (mul_right_comm (2 ^ 52) n U)) in
      round_is_at z n (lt_of_le_of_lt (spot_le 53 1073 (z * U) n box.some l) (lit< tt))
      (div_whole F q.value (weight_value box) box.some)

  w_near : Near 67 (w * n) (v * U)
  unfolding w z
  w_near = again (lit≤ tt) (near_scale U q.near) (rounded_or_zero (z * U) n box.some (narrow z n wide))

  w_parts : Multiple 990 w
  unfolding w
  w_parts = coarse_or_zero 990 1042 (z * U) n box.some (lit≤ tt) wide

  pub w_lt : w < 2 ^ 1124
  w_lt =
      let few : v * U ≤ M * (U * n) = sum_few n v U v_few in
      quotient_few w v n U (pow_pos 1074) box.some (gap_high (v * U) (w * n) (U * n) w_near few) few

  sq_lt : sq * U < 2 ^ 1124
  sq_lt = mul-lt-mul_of_pos_right {n = 2 ^ 50} (omega (arith, box.squares)) (pow_pos 1074)

  sq_parts : sq * U ≡ sq * 2 ^ 84 * R
  sq_parts = sym (mul_assoc sq (2 ^ 84) R)

  above : w ≤ sq * U → Close (spread_at n a b c sq) n v sq
  above h =
      let d = sq * U - w in
      let e : d ≡ (sq * 2 ^ 84 - w_parts.0) * R =
      ap₂ (λ (x y : ℕ). x - y) sq_parts w_parts.1 ∙ sym (sub_mul (sq * 2 ^ 84) w_parts.0 R) in
      let t =
      last false d (sq * 2 ^ 84 - w_parts.0) e (lt_of_le_of_lt (sub-le (sq * U) w) sq_lt)
      (less_of F (squares_value box) w_value h) in
      record {
        sign = false;
        parts = t.parts;
        value = t.value;
        near =
            left n t.parts v sq w d (2 ^ 84) R U (2 ^ 1071) refl refl box.some (pow_pos 1074) t.near
            w_near v_few (sub-add_cancel h);
      }

  under : sq * U < w → Close (spread_at n a b c sq) n v sq
  under h =
      let d = w - sq * U in
      let e : d ≡ (w_parts.0 - sq * 2 ^ 84) * R =
      ap₂ (λ (x y : ℕ). x - y) w_parts.1 sq_parts ∙ sym (sub_mul w_parts.0 (sq * 2 ^ 84) R) in
      let t =
      last true d (w_parts.0 - sq * 2 ^ 84) e (lt_of_le_of_lt (sub-le w (sq * U)) w_lt)
      (less_under F (squares_value box) w_value h) in
      record {
        sign = true;
        parts = t.parts;
        value = t.value;
        near =
            right n t.parts v sq w d (2 ^ 84) R U (2 ^ 1071) refl refl box.some (pow_pos 1074) t.near
            w_near v_few (sub-add_cancel (le_of_lt h));
      }

  numbers_close : Close (spread_at n a b c sq) n v sq
  numbers_close = elim (dec_le w (sq * U)) [ yes h ↦ above h | no h ↦ under (lt_of_not-le h) ]

-- ---- a box of a sound table
pub box_close : {g : Grid} {v : View} → Sound limit g v → {x : Bounds} → Within g x → 1 ≤ box_sum g v x 0
    → one_bin x ≡ false
    → Close (spread_of x (stats_of g v x)) (box_sum g v x 0) (exact_q (box_sum g v x 1) (box_sum g v x 2) (box_sum g v x 3))
    (box_sum g v x 4)
box_close {g} {v} s {x} w some e = rw (spread_is g v x e) (numbers_close (numbers s w some))
