-- The sign of the spread of a box of weight up to 200,000: Q is exact there, and the computed spread has the exact
-- spread's sign.
-- Assumes nothing.
use mathlib.Core.Path.{◌≡◌, refl, sym, ap, ◌∙◌, subst}
use mathlib.Core.Logic.{◌⊎◌, inl, inr}
use Prim.Native.Nat.{ℕ, suc, ◌+◌, ◌-◌, ◌*◌, ◌^◌, ◌≤◌, ◌<◌}
use native.Mathlib.Nat.{le_trans, le_of_eq, le_of_lt, lt_of_lt_of_le, lt_of_le_of_lt, lt_of_not-le, not-le_of_lt}
use native.Mathlib.Nat.{eq-or-lt_of_le, mul_comm, mul_assoc, mul_left_comm, mul_right_comm, mul-one, one-mul}
use native.Mathlib.Nat.{zero-mul, suc-mul, mul-le-mul, mul-le-mul_right, mul-lt-mul_of_pos_right, mul-pos}
use native.Mathlib.Nat.{lt_of_mul-lt-mul_right, sub_self, sub-le, sub-pos_iff_lt}
use native.Mathlib.Omega.{arith}
use native.Mathlib.Decide.{dec_le}
use mathlib.Core.Bool.{true, false, true≢false}
use lib.Dec.{T, eqb, lt→ltb, ltb→lt, eqb→eq, lit<}
use lib.Pow.{pow_pos, pow_mono}
use lib.IntN.{ℤ, pos}
use lib.Ieee.{Float, nan, inf, fin, up, down, round, add, sub, lt, eq}
use lib.Ieee.Fits.{add-fits, of_int-fits, down_pos, and_l}
use lib.Ieee.Exact.{HasValue}
use lib.Ieee.Back.{whole_unique}
use lib.Ieee.Scale.{grid, overflow, round_same}
use lib.Ieee.Order.{drop}
use lib.Ieee.Positive.{first_pos}
use Rattle.grid.specs.declared.place.Grid.{Grid}
use Rattle.table.specs.Cell.{View}
use Rattle.table.specs.Sound.{limit}
use Rattle.table.proofs.Soundness.{Sound}
use Rattle.boxes.specs.declared.sides.Bounds.{Bounds}
use Rattle.bins.specs.Sum.{box_sum}
use Rattle.sums.specs.Box.{stats_of}
use Rattle.boxes.specs.Box.{Within}
use Rattle.sums.specs.Box.{whole}
use Rattle.spread.specs.Spread.{square_of, q_of, exact_q, zero_of, spread_of, Signed}
use Rattle.boxes.specs.Box.{one_bin}
use Rattle.spread.proofs.Numbers.{Numbers, quot_at, spread_at, weight_value, squares_value, numbers, spread_is}
use Rattle.spread.proofs.Rounding.{Is, value_of, exact, whole_is, of_whole, mul_of, add_whole, div_whole}
use Rattle.spread.proofs.Rounding.{less_of, less_under}
use Rattle.spread.proofs.Error.{Half, F, U, spot_near, drop_le, spot_le, spot_pos, round_value, round_is_at}

-- ---- a float's order with 0.0
size_pos : (m : ℕ) (e : ℤ) (a c : ℕ) → 0 < a → m * up e * c ≡ a * down e → 0 < m * up e
size_pos m e a c A h = first_pos (m * up e) c (subst (λ (z : ℕ). 0 < z) (sym h) (mul-pos A (down_pos e)))

pub above_zero : (x : Float) (a c : ℕ) → 0 < a → HasValue x false a c → T (lt zero_of x)
unfolding lt
above_zero nan a c A h = absurd h
above_zero (inf s) a c A h = absurd h
above_zero (fin true m e) a c A h = absurd (true≢false h.0)
above_zero (fin false m e) a c A h = lt→ltb (0 * down e) (m * up e * 1) (omega (arith, size_pos m e a c A h.1))

under_zero : (x : Float) (a c : ℕ) → 0 < a → HasValue x true a c → T (lt x zero_of)
unfolding lt
under_zero nan a c A h = absurd h
under_zero (inf s) a c A h = absurd h
under_zero (fin false m e) a c A h = absurd (true≢false (sym h.0))
under_zero (fin true m e) a c A h = lt→ltb 0 (m * up e * 1 + 0 * down e) (omega (arith, size_pos m e a c A h.1))

is_zero : {x : Float} → x ≡ zero_of → T (eq x zero_of)
unfolding eq
is_zero e = subst (λ (z : Float). T (eq z zero_of)) (sym e) tt

-- at most one of above, equal and below holds
above_not_under : (x : Float) → T (lt zero_of x) → T (lt x zero_of) → ⊥
unfolding lt
above_not_under nan p q = p
above_not_under (inf true) p q = p
above_not_under (inf false) p q = q
above_not_under (fin true m e) p q = p
above_not_under (fin false m e) p q =
    not-le_of_lt (ltb→lt (m * up e * 1) (0 * down e) q) (le_of_lt (ltb→lt (0 * down e) (m * up e * 1) p))

apart : {p q : ℕ} → p ≡ q → p < q → ⊥
apart h k = omega arith

zero_not_above : (x : Float) → T (eq x zero_of) → T (lt zero_of x) → ⊥
unfolding eq lt
zero_not_above nan e t = t
zero_not_above (inf s) e t = e
zero_not_above (fin true m g) e t = t
zero_not_above (fin false m g) e t =
    apart (sym (eqb→eq (m * up g * 1) (0 * down g) (and_l (eqb (m * up g * 1) (0 * down g)) true e)))
    (ltb→lt (0 * down g) (m * up g * 1) t)

zero_not_under : (x : Float) → T (eq x zero_of) → T (lt x zero_of) → ⊥
unfolding eq lt
zero_not_under nan e t = t
zero_not_under (inf s) e t = e
zero_not_under (fin false m g) e t =
    apart (eqb→eq (m * up g * 1) (0 * down g) (and_l (eqb (m * up g * 1) (0 * down g)) true e))
    (ltb→lt (m * up g * 1) (0 * down g) t)
zero_not_under (fin true m g) e t =
    clash (m * up g * 1) (0 * down g) (zero-mul (down g))
    (eqb→eq (m * up g * 1) (0 * down g) (and_l (eqb (m * up g * 1) (0 * down g)) (eqb (m * up g * 1) 0) e))
    (ltb→lt 0 (m * up g * 1 + 0 * down g) t)
  where
    clash : (p q : ℕ) → q ≡ 0 → p ≡ q → 0 < p + q → ⊥
    clash p q z h k = omega arith

order : (u v : ℕ) → (u < v) ⊎ ((u ≡ v) ⊎ (v < u))
order u v =
    elim (dec_le u v) [
      | yes h ↦ elim (eq-or-lt_of_le h) [ inl e ↦ inr (inl e) | inr l ↦ inl l ]
      | no h ↦ inr
          (inr (lt_of_not-le h))
    ]

-- one way is enough, since the three exclude each other
signed : (r : Float) (u v : ℕ) → (u < v → T (lt zero_of r)) → (u ≡ v → T (eq r zero_of)) → (v < u → T (lt r zero_of))
    → Signed r u v
signed r u v above level under =
    record {
      above = (
        (λ t. elim (order u v) [
          | inl l ↦ l
          | inr o ↦ elim o
              [ inl e ↦ absurd (zero_not_above r (level e) t) | inr g ↦ absurd (above_not_under r t (under g)) ]
        ]),
        above,
      );
      level = (
        (λ t. elim (order u v) [
          | inl l ↦ absurd (zero_not_above r t (above l))
          | inr o ↦ elim o
              [ inl e ↦ e | inr g ↦ absurd (zero_not_under r t (under g)) ]
        ]),
        level,
      );
      under = (
        (λ t. elim (order u v) [
          | inl l ↦ absurd (above_not_under r (above l) t)
          | inr o ↦ elim o
              [ inl e ↦ absurd (zero_not_under r (level e) t) | inr g ↦ g ]
        ]),
        under,
      );
    }

-- ---- the exact order, from the order of what was rounded. g / u is v / n to within e / (2 * u * n), which is less
-- than 1 / n
above_core : (v n sq g u e : ℕ) → g * n * 2 ≤ v * u * 2 + e → e < u * 2 → v < n * sq → g < sq * u
above_core v n sq g u e h k l =
    let m : suc v * u ≤ n * sq * u = mul-le-mul_right u l in
    let s : suc v * u ≡ v * u + u = suc-mul v u in
    let c : n * sq * u ≡ sq * u * n = simp (mul_assoc, mul_comm, mul_left_comm) in
    lt_of_mul-lt-mul_right n (omega arith)

under_core : (v n sq g u e : ℕ) → v * u * 2 ≤ g * n * 2 + e → e < u * 2 → n * sq < v → sq * u < g
under_core v n sq g u e h k l =
    let m : suc (n * sq) * u ≤ v * u = mul-le-mul_right u l in
    let s : suc (n * sq) * u ≡ n * sq * u + u = suc-mul (n * sq) u in
    let c : n * sq * u ≡ sq * u * n = simp (mul_assoc, mul_comm, mul_left_comm) in
    lt_of_mul-lt-mul_right n (omega arith)

-- d of the smallest values, rounded: finite, and above zero if d is
few_units : (d : ℕ) → d ≤ 2 ^ 1110 → grid F d U < overflow F
few_units d h =
    lt_of_le_of_lt (spot_le 53 1058 (d * U) U (pow_pos 1074)
    (mul-lt-mul_of_pos_right {n = 2 ^ 1111} (lt_of_le_of_lt h (lit< tt)) (pow_pos 1074))) (lit< tt)

some_units : (d : ℕ) → 0 < d → 0 < grid F d U
some_units d h =
    spot_pos 53 (d * U) U (lit< tt) (pow_pos 1074) (le_trans (le_of_eq (sym (one-mul U))) (mul-le-mul_right U h))

round_zero : round F false 0 1 ≡ zero_of
unfolding round
round_zero = refl

-- ---- exactness: all numbers stay below 2 ^ 53
square_exact : (a : ℕ) → a ≤ 51000000 → Is (square_of a) (a * a) 1
square_exact a h =
    let v : Is (whole a) a 1 = of_whole F a (omega arith) in
    let k : a * a ≤ 51000000 * 51000000 = mul-le-mul h h in
    exact F (a * a) (omega arith) (mul_of F v v)

module _ {n a b c sq : ℕ} (box : Numbers n a b c sq) (few : n ≤ 200000) where
  abbrev v : ℕ
  v = exact_q a b c

  v_le : v ≤ 39015000000 * n
  v_le =
      let A : a * a ≤ 255 * n * 51000000 = mul-le-mul box.one (omega (arith, box.one)) in
      let B : b * b ≤ 255 * n * 51000000 = mul-le-mul box.two (omega (arith, box.two)) in
      let C : c * c ≤ 255 * n * 51000000 = mul-le-mul box.three (omega (arith, box.three)) in
      omega arith

  q_small : v ≤ 2 ^ 53
  q_small = omega (arith, v_le)

  q_value : Is (q_of a b c) v 1
  q_value =
      let A : Is (square_of a) (a * a) 1 = square_exact a (omega (arith, box.one)) in
      let B : Is (square_of b) (b * b) 1 = square_exact b (omega (arith, box.two)) in
      let C : Is (square_of c) (c * c) 1 = square_exact c (omega (arith, box.three)) in
      exact F v q_small (add_whole F (exact F (a * a + b * b) (omega (arith, q_small)) (add_whole F A B)) C)

  pub q_exact : q_of a b c ≡ whole v
  q_exact =
      whole_unique F (q_of a b c) (whole v) false v (add-fits F (add F (square_of a) (square_of b)) (square_of c))
      (of_int-fits F (pos v)) (value_of q_value) (value_of (of_whole F v q_small))

  -- ---- the quotient: g of the smallest values, less than 1 / n off
  scaled : v * U < 2 ^ (53 + 1057) * n
  scaled =
      let l : v < 2 ^ 36 * n = omega (arith, v_le, box.some) in
      lt_of_lt_of_le (mul-lt-mul_of_pos_right l (pow_pos 1074)) (le_of_eq (mul_right_comm (2 ^ 36) n U))

  g : ℕ
  g = grid F v n

  g_le : g ≤ 2 ^ 1110
  unfolding g
  g_le = spot_le 53 1057 (v * U) n box.some scaled

  quot_is : quot_at n a b c ≡ round F false v n
  quot_is = div_whole F q_value (weight_value box) box.some

  quot_value : Is (quot_at n a b c) g U
  unfolding g
  quot_value = round_is_at v n (lt_of_le_of_lt g_le (lit< tt)) quot_is

  error : ℕ
  error = n * 2 ^ drop 53 (v * U) n

  near : Half (g * n) (v * U) error
  unfolding g error
  near = spot_near 53 (v * U) n box.some

  error_small : error < U * 2
  unfolding error
  error_small = lt_of_le_of_lt (mul-le-mul few (pow_mono (drop_le 53 1057 (v * U) n box.some scaled))) (lit< tt)

  sq_le : sq * U ≤ 2 ^ 1110
  sq_le = mul-le-mul_right {n = 2 ^ 36} U (omega (arith, box.squares))

  above : v < n * sq → T (lt zero_of (spread_at n a b c sq))
  above h =
      let l : g < sq * U = above_core v n sq g U error near.0 error_small h in
      let d = sq * U - g in
      subst (λ (z : Float). T (lt zero_of z)) (sym (less_of F (squares_value box) quot_value (le_of_lt l)))
      (above_zero (round F false d U) (grid F d U) U (some_units d (sub-pos_iff_lt.1 l))
      (round_value F false d U (few_units d (le_trans (sub-le (sq * U) g) sq_le))))

  level : v ≡ n * sq → T (eq (spread_at n a b c sq) zero_of)
  level h =
      let e : quot_at n a b c ≡ whole sq =
      quot_is ∙ round_same F false v n sq 1 box.some (lit< tt) (mul-one v ∙ h ∙ mul_comm n sq)
      ∙ sym (whole_is F sq) in
      is_zero
      (ap (λ (z : Float). sub F (whole sq) z) e
      ∙ less_of F (squares_value box) (squares_value box) (le_of_eq (sym (mul-one sq)))
      ∙ ap (λ (z : ℕ). round F false z 1) (ap (λ (z : ℕ). z - sq) (mul-one sq) ∙ sub_self sq)
      ∙ round_zero)

  under : n * sq < v → T (lt (spread_at n a b c sq) zero_of)
  under h =
      let l : sq * U < g = under_core v n sq g U error near.1 error_small h in
      let d = g - sq * U in
      subst (λ (z : Float). T (lt z zero_of)) (sym (less_under F (squares_value box) quot_value l))
      (under_zero (round F true d U) (grid F d U) U (some_units d (sub-pos_iff_lt.1 l))
      (round_value F true d U (few_units d (le_trans (sub-le g (sq * U)) g_le))))

  pub numbers_sign : Signed (spread_at n a b c sq) v (n * sq)
  numbers_sign = signed (spread_at n a b c sq) v (n * sq) above level under

-- ---- a box of a sound table
module _ {g : Grid} {v : View} (s : Sound limit g v) {x : Bounds} (w : Within g x) (some : 1 ≤ box_sum g v x 0)
    (few : box_sum g v x 0 ≤ 200000) where
  pub box_q_exact : q_of (box_sum g v x 1) (box_sum g v x 2) (box_sum g v x 3)
      ≡ whole (exact_q (box_sum g v x 1) (box_sum g v x 2) (box_sum g v x 3))
  box_q_exact = q_exact (numbers s w some) few

  pub box_sign : one_bin x ≡ false
      → Signed (spread_of x (stats_of g v x)) (exact_q (box_sum g v x 1) (box_sum g v x 2) (box_sum g v x 3))
      (box_sum g v x 0 * box_sum g v x 4)
  box_sign e = rw (spread_is g v x e) (numbers_sign (numbers s w some) few)
