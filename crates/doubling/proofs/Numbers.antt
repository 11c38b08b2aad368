-- The quotient, the spread and the score of a box's five numbers grow when all five are multiplied by a power of two.
-- Assumes nothing.
use mathlib.Core.Path.{◌≡◌, sym, ap, ap₂, ◌∙◌, subst}
use mathlib.Core.Logic.{◌⊎◌, inl, inr}
use mathlib.Core.Bool.{false}
use Prim.Native.Nat.{ℕ, ◌+◌, ◌-◌, ◌*◌, ◌^◌, ◌≤◌, ◌<◌}
use native.Mathlib.Nat.{le_trans, le_of_eq, lt_of_lt_of_le, lt_of_le_of_lt, mul_assoc, mul_comm, mul-one, one-mul}
use native.Mathlib.Nat.{zero-mul, add-mul, add-le-add, mul-le-mul, mul-pos, mul-le-mul_right, mul-le-mul_left}
use native.Mathlib.Nat.{mul-lt-mul_of_pos_right, eq-zero-or-pos, sub-le}
use native.Mathlib.Omega.{arith}
use lib.Dec.{lit<, lit≤}
use lib.Pow.{pow_pos, pow_mono}
use lib.Ieee.{Float, round, mul, add, sub, div, neg}
use lib.Ieee.Scale.{grid}
use Rattle.sums.specs.Box.{whole}
use Rattle.spread.specs.Spread.{square_of, q_of}
use Rattle.spread.proofs.Numbers.{Numbers, quot_at, spread_at, weight_value, squares_value}
use Rattle.spread.proofs.Rounding.{Is, of_whole, whole_is, mul_of, sub_mul}
use Rattle.spread.proofs.Error.{F, U, spot, spot_le, round_is_at}
use Rattle.spread.proofs.Near.{Multiple, spot_mul, coarse_or_zero}
use Rattle.doubling.specs.Grow.{grow}
use Rattle.doubling.proofs.Grow.{neg_grow}
use Rattle.doubling.proofs.Rounding.{Fine, round_grow, mul_grow, add_over, add_grow, div_over, div_grow}
use Rattle.doubling.proofs.Rounding.{sub_grow}

-- ---- multiples
zero_or_once : (k u : ℕ) → (k ≡ 0) ⊎ (u ≤ k * u)
zero_or_once k u = elim (eq-zero-or-pos k) [
  | inl e ↦ inl e
  | inr p ↦ inr (le_trans (le_of_eq (sym (one-mul u))) (mul-le-mul_right u p))
]

module _ (i x : ℕ) (m : Multiple i x) where
  zero_or_many : (x ≡ 0) ⊎ (2 ^ i ≤ x)
  zero_or_many = elim (zero_or_once m.0 (2 ^ i)) [
    | inl e ↦ inl (m.1 ∙ ap (λ (z : ℕ). z * 2 ^ i) e ∙ zero-mul (2 ^ i))
    | inr h ↦ inr (le_trans h (le_of_eq (sym m.1)))
  ]

  module _ (y : ℕ) (n : Multiple i y) where
    sum_multiple : Multiple i (x + y)
    sum_multiple = (m.0 + n.0, ap₂ (λ (j k : ℕ). j + k) m.1 n.1 ∙ sym (add-mul m.0 n.0 (2 ^ i)))

    less_multiple : Multiple i (x - y)
    less_multiple = (m.0 - n.0, ap₂ (λ (j k : ℕ). j - k) m.1 n.1 ∙ sym (sub_mul m.0 n.0 (2 ^ i)))

-- ---- what is zero or in the normal range: a whole number
fine_whole : (m t : ℕ) → m < 2 ^ 200 → t ≤ 200 → Fine m 1 t
fine_whole m t few most =
    record {
      below = lit< tt;
      sized = elim (zero_or_once m U) [ inl e ↦ inl e | inr h ↦ inr (le_trans (lit≤ tt) h) ];
      small = lt_of_lt_of_le few (le_of_eq (sym (mul-one (2 ^ 200))));
      times = most;
    }

-- and a number of f64's smallest values that is a multiple of 2 ^ 52 or a higher power
fine_multiple : (i x t : ℕ) → 52 ≤ i → Multiple i x → x < 2 ^ 1274 → t ≤ 200 → Fine x U t
fine_multiple i x t least m few most =
    record {
      below = pow_pos 1074;
      sized = elim (zero_or_many i x m) [
        | inl e ↦ inl e
        | inr h ↦ inr (mul-le-mul_right {m = 2 ^ 52} U (le_trans (pow_mono least) h))
      ];
      small = lt_of_lt_of_le few (lit≤ tt);
      times = most;
    }

-- ---- x is so many of the smallest values: a multiple of 2 ^ i, and 2 ^ (53 + j) at most
record Units (i j : ℕ) (x : Float) : Type 0 where
  units : ℕ
  value : Is x units U
  multiple : Multiple i units
  most : units ≤ 2 ^ (53 + j)

rounded : {x : Float} (i j a c : ℕ) → 0 < c → a * U < 2 ^ (53 + j) * c → j ≤ 1200 → Multiple i (grid F a c)
    → x ≡ round F false a c → Units i j x
rounded i j a c some small few m is =
    let most : grid F a c ≤ 2 ^ (53 + j) = spot_le 53 j (a * U) c some small in
    record {
      units = grid F a c;
      value = round_is_at a c (lt_of_le_of_lt (le_trans most (pow_mono {j = 2000} (omega arith))) (lit< tt)) is;
      multiple = m;
      most = most;
    }

-- a sum of two
module _ (i l : ℕ) {j k : ℕ} {x y : Float} (p : Units i j x) (q : Units i k y) (least : 52 ≤ i) (few : l ≤ 1200)
    (room : 2 ^ (53 + j) + 2 ^ (53 + k) < 2 ^ (53 + l)) where
  abbrev both : ℕ
  both = p.units + q.units

  both_few : both < 2 ^ (53 + l)
  both_few = lt_of_le_of_lt (add-le-add p.most q.most) room

  both_multiple : Multiple i both
  both_multiple = sum_multiple i p.units p.multiple q.units q.multiple

  sum_units : Units i l (add F x y)
  sum_units =
      rounded i l both U (pow_pos 1074) (mul-lt-mul_of_pos_right both_few (pow_pos 1074)) few
      (subst (λ (z : ℕ). Multiple i (spot 53 (z * U) U)) (sym both_multiple.1)
      (spot_mul 53 i both_multiple.0 U (pow_pos 1074)))
      (add_over p.value q.value)

  sum_grow : (t : ℕ) → t ≤ 200 → add F (grow t x) (grow t y) ≡ grow t (add F x y)
  sum_grow t most =
      add_grow p.value q.value t
      (fine_multiple i both t least both_multiple (lt_of_lt_of_le both_few (pow_mono {j = 1274} (omega arith))) most)

-- ---- a component's sum, its square, and Q
whole_grow : (t n : ℕ) → t ≤ 200 → n < 2 ^ 200 → whole (n * 2 ^ t) ≡ grow t (whole n)
whole_grow t n most few =
    whole_is F (n * 2 ^ t) ∙ round_grow false n 1 t (fine_whole n t few most) ∙ ap (grow t) (sym (whole_is F n))

module _ (a : ℕ) (few : a ≤ 2 ^ 40) where
  a_value : Is (whole a) a 1
  a_value = of_whole F a (le_trans few (lit≤ tt))

  square_few : a * a < 2 ^ 81
  square_few = lt_of_le_of_lt (mul-le-mul few few) (lit< tt)

  square_units : Units 1074 1102 (square_of a)
  square_units =
      rounded 1074 1102 (a * a) 1 (lit< tt) (mul-lt-mul_of_pos_right square_few (pow_pos 1074)) (lit≤ tt)
      (subst (λ (z : ℕ). Multiple 1074 (spot 53 z 1)) (mul-one (a * a * U)) (spot_mul 53 1074 (a * a) 1 (lit< tt)))
      (mul_of F a_value a_value)

  square_grow : (t : ℕ) → t + t ≤ 200 → square_of (a * 2 ^ t) ≡ grow (t + t) (square_of a)
  square_grow t most =
      let one = whole_grow t a (omega arith) (lt_of_le_of_lt few (lit< tt)) in
      ap₂ (mul F) one one
      ∙ mul_grow a_value a_value t t (fine_whole (a * a) (t + t) (lt_of_lt_of_le square_few (lit≤ tt)) most)

module _ (a b c : ℕ) (ha : a ≤ 2 ^ 40) (hb : b ≤ 2 ^ 40) (hc : c ≤ 2 ^ 40) where
  two_units : Units 1074 1104 (add F (square_of a) (square_of b))
  two_units = sum_units 1074 1104 (square_units a ha) (square_units b hb) (lit≤ tt) (lit≤ tt) (lit< tt)

  q_units : Units 1074 1105 (q_of a b c)
  q_units = sum_units 1074 1105 two_units (square_units c hc) (lit≤ tt) (lit≤ tt) (lit< tt)

  q_grow : (t : ℕ) → t + t ≤ 200 → q_of (a * 2 ^ t) (b * 2 ^ t) (c * 2 ^ t) ≡ grow (t + t) (q_of a b c)
  q_grow t most =
      ap₂ (add F)
      (ap₂ (add F) (square_grow a ha t most) (square_grow b hb t most)
      ∙ sum_grow 1074 1104 (square_units a ha) (square_units b hb) (lit≤ tt) (lit≤ tt) (lit< tt) (t + t) most)
      (square_grow c hc t most)
      ∙ sum_grow 1074 1105 two_units (square_units c hc) (lit≤ tt) (lit≤ tt) (lit< tt) (t + t) most

-- ---- Q / n, and the spread
module _ {n a b c sq : ℕ} (box : Numbers n a b c sq) where
  sum_few : (a : ℕ) → a ≤ 255 * n → a ≤ 2 ^ 40
  sum_few a h = omega (arith, box.most)

  q : Units 1074 1105 (q_of a b c)
  q = q_units a b c (sum_few a box.one) (sum_few b box.two) (sum_few c box.three)

  q_few : q.units < 2 ^ 1159 * n
  q_few =
      lt_of_le_of_lt q.most
      (lt_of_lt_of_le (lit< {n = 2 ^ 1159 * 1} tt) (mul-le-mul_left (2 ^ 1159) box.some))

  -- Q is whole, and n not large
  wide : (q.units ≡ 0) ⊎ (2 ^ 1042 * (n * U) ≤ q.units * U)
  wide = elim (zero_or_many 1074 q.units q.multiple) [
    | inl e ↦ inl e
    | inr h ↦ inr (le_trans (le_of_eq (sym (mul_assoc (2 ^ 1042) n U)))
        (mul-le-mul_right U (le_trans (mul-le-mul_left (2 ^ 1042) box.most) (le_trans (lit≤ tt) h))))
  ]

  below : 0 < n * U
  below = mul-pos box.some (pow_pos 1074)

  quot : Units 990 1106 (quot_at n a b c)
  quot =
      rounded 990 1106 q.units (n * U) below
      (lt_of_lt_of_le (mul-lt-mul_of_pos_right q_few (pow_pos 1074)) (le_of_eq (mul_assoc (2 ^ 1159) n U))) (lit≤ tt)
      (coarse_or_zero 990 1042 (q.units * U) (n * U) below (lit≤ tt)
      (elim wide [ inl e ↦ inl (ap (λ (z : ℕ). z * U) e ∙ zero-mul U) | inr h ↦ inr h ]))
      (div_over q.value (weight_value box) box.some)

  module _ (t : ℕ) (few : t ≤ 100) where
    quot_fine : Fine q.units (n * U) t
    quot_fine =
        record {
          below = below;
          sized = elim wide [ inl e ↦ inl e | inr h ↦ inr (le_trans (mul-le-mul_right (n * U) (lit≤ tt)) h) ];
          small = lt_of_lt_of_le q_few
              (le_trans (mul-le-mul_right {n = 2 ^ 200 * U} n (lit≤ tt))
              (le_of_eq (mul_assoc (2 ^ 200) U n ∙ ap (λ (z : ℕ). 2 ^ 200 * z) (mul_comm U n))));
          times = omega arith;
        }

    quot_grow : quot_at (n * 2 ^ t) (a * 2 ^ t) (b * 2 ^ t) (c * 2 ^ t) ≡ grow t (quot_at n a b c)
    quot_grow =
        ap₂ (div F)
        (q_grow a b c (sum_few a box.one) (sum_few b box.two) (sum_few c box.three) t (omega arith))
        (whole_grow t n (omega arith) (lt_of_le_of_lt box.most (lit< tt)))
        ∙ div_grow q.value (weight_value box) box.some t t quot_fine

    squares_few : sq ≤ 2 ^ 60
    squares_few = omega (arith, box.squares, box.most)

    -- the squares less Q / n, whichever is more
    gap_fine : Fine (sq * U - quot.units + (quot.units - sq * U)) U t
    gap_fine =
        let w = quot.units in
        let m : Multiple 990 (sq * U) = (sq * 2 ^ 84, sym (mul_assoc sq (2 ^ 84) (2 ^ 990))) in
        fine_multiple 990 (sq * U - w + (w - sq * U)) t (lit≤ tt)
        (sum_multiple 990 (sq * U - w) (less_multiple 990 (sq * U) m w quot.multiple) (w - sq * U)
        (less_multiple 990 w quot.multiple (sq * U) m))
        (lt_of_le_of_lt (add-le-add (le_trans (sub-le (sq * U) w) (mul-le-mul_right U squares_few))
        (le_trans (sub-le w (sq * U)) quot.most)) (lit< tt))
        (omega arith)

    pub spread_grow : spread_at (n * 2 ^ t) (a * 2 ^ t) (b * 2 ^ t) (c * 2 ^ t) (sq * 2 ^ t)
        ≡ grow t (spread_at n a b c sq)
    spread_grow =
        ap₂ (sub F) (whole_grow t sq (omega arith) (lt_of_le_of_lt squares_few (lit< tt))) quot_grow
        ∙ sub_grow (squares_value box) quot.value t gap_fine

pub score_grow : {n a b c sq n' a' b' c' sq' : ℕ} → Numbers n a b c sq → Numbers n' a' b' c' sq' → (t : ℕ) → t ≤ 100
    → neg (add F (quot_at (n * 2 ^ t) (a * 2 ^ t) (b * 2 ^ t) (c * 2 ^ t))
    (quot_at (n' * 2 ^ t) (a' * 2 ^ t) (b' * 2 ^ t) (c' * 2 ^ t)))
    ≡ grow t (neg (add F (quot_at n a b c) (quot_at n' a' b' c')))
score_grow p q t few =
    ap neg
    (ap₂ (add F) (quot_grow p t few) (quot_grow q t few)
    ∙ sum_grow 990 1108 (quot p) (quot q) (lit≤ tt) (lit≤ tt) (lit< tt) t (omega arith))
    ∙ neg_grow t _
