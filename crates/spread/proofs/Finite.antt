-- At a sound table every spread of a box that is not empty, and every score of two such boxes and so of a position
-- with weight on both sides, is finite: no NaN and no infinity.
-- Assumes nothing.
use mathlib.Core.Path.{◌≡◌, refl, sym, ap, ◌∙◌}
use Prim.Native.Nat.{ℕ, ◌+◌, ◌*◌, ◌^◌, ◌≤◌, ◌<◌}
use native.Mathlib.Nat.{le_of_eq, lt_of_le_of_lt, mul_assoc, add-mul, mul-lt-mul_of_pos_right, mul-pos, pos_of_ne-zero}
use native.Mathlib.Omega.{arith}
use mathlib.Core.Bool.{Bool, true, false}
use lib.Dec.{T, lit<}
use lib.Pow.{pow_pos}
use lib.Ieee.{Float, nan, inf, fin, add, neg}
use lib.Ieee.Exact.{HasValue}
use lib.Ieee.Scale.{grid, finite}
use Rattle.grid.specs.declared.place.Grid.{Grid}
use Rattle.table.specs.Cell.{View}
use Rattle.table.specs.Sound.{limit}
use Rattle.table.proofs.Soundness.{Sound}
use Rattle.boxes.specs.declared.sides.Bounds.{Bounds}
use Rattle.bins.specs.Sum.{box_sum}
use Rattle.sums.specs.Box.{stats_of}
use Rattle.boxes.specs.Box.{Within}
use Rattle.boxes.proofs.Within.{low_within, high_within}
use Rattle.boxes.specs.Box.{one_bin}
use Rattle.spread.specs.Spread.{spread_of, score_of}
use Rattle.spread.specs.Best.{Good}
use Rattle.spread.proofs.Numbers.{numbers, quot_is, spread_one}
use Rattle.spread.proofs.Rounding.{Is, add_of}
use Rattle.spread.proofs.Error.{F, U, spot_le, round_is_at}
use Rattle.spread.proofs.Bound.{Close, w_value, w_lt, box_close}

-- what has a value is finite, and so is its opposite
value_finite : (x : Float) (s : Bool) (a c : ℕ) → HasValue x s a c → T (finite x)
value_finite nan s a c h = h
value_finite (inf t) s a c h = h
value_finite (fin t m e) s a c h = tt

close_finite : {x : Float} {n v sq : ℕ} → Close x n v sq → T (finite x)
close_finite {x} r = value_finite x r.sign r.parts (2 ^ 84) r.value

neg_finite : {x : Float} {a c : ℕ} → Is x a c → T (finite (neg x))
unfolding neg
neg_finite p = rw p.same tt

-- ---- the sum of two values below 2 ^ 50
both : (p q z : ℕ) → p < z → q < z → p + q < 2 * z
both p q z h k = omega arith

sum_value : {x y : Float} {p q : ℕ} → Is x p U → Is y q U → p < 2 ^ 1124 → q < 2 ^ 1124
    → Is (add F x y) (grid F (p * U + q * U) (U * U)) U
sum_value {p = p} {q} h k l m =
    let a = p * U + q * U in
    let positive : 0 < U * U = mul-pos (pow_pos 1074) (pow_pos 1074) in
    let e : a * U ≡ (p + q) * (U * U) = ap (λ (z : ℕ). z * U) (sym (add-mul p q U)) ∙ mul_assoc (p + q) U U in
    let small : a * U < 2 ^ (53 + 1072) * (U * U) =
    lt_of_le_of_lt (le_of_eq e) (mul-lt-mul_of_pos_right {n = 2 ^ 1125} (both p q (2 ^ 1124) l m) positive) in
    round_is_at a (U * U) (lt_of_le_of_lt (spot_le 53 1072 (a * U) (U * U) positive small) (lit< tt)) (add_of F h k)

-- ---- boxes of a sound table
module _ {g : Grid} {v : View} (s : Sound limit g v) {x : Bounds} (w : Within g x) (some : 1 ≤ box_sum g v x 0) where
  pub spread_finite : T (finite (spread_of x (stats_of g v x)))
  spread_finite = go (one_bin x) refl
    where
      go : (t : Bool) → one_bin x ≡ t → T (finite (spread_of x (stats_of g v x)))
      go true e = rw (spread_one g v x e) tt
      go false e = close_finite (box_close s w some e)

  pub score_finite : {y : Bounds} → Within g y → 1 ≤ box_sum g v y 0
      → T (finite (score_of (stats_of g v x) (stats_of g v y)))
  unfolding score_of
  score_finite {y} w' some' =
      let low = numbers s w some in
      let high = numbers s w' some' in
      rw (quot_is g v x, quot_is g v y) (neg_finite (sum_value (w_value low) (w_value high) (w_lt low) (w_lt high)))

-- every score of a position with weight on both sides
pub position_finite : {g : Grid} {v : View} → Sound limit g v → {x : Bounds} → Within g x
    → {d bin : ℕ} {score : Float} → Good g v x d bin score → T (finite score)
position_finite s w {d} {bin} p =
    rw p.scored
    (score_finite s
    (low_within w d bin p.inside.0 p.inside.1) (pos_of_ne-zero p.split.low)
    (high_within w d bin p.inside.1) (pos_of_ne-zero p.split.high))
