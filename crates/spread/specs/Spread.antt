-- Spread and score in f64 (Rules, Spread; Rules, Cutting). Definitions only.
use Rattle.std.specs.Prelude.{◌≡◌, true, false, cond, ◌↔◌, ℕ, ◌+◌, ◌*◌, ◌≤◌, ◌<◌, T, pos, Float}
use Rattle.std.specs.Float.{fin, binary64}
use Rattle.std.specs.Float.Ieee.{add, sub, mul, div, neg, lt, eq}
use Rattle.grid.specs.declared.place.Grid.{Grid}
use Rattle.grid.specs.Grid.{place_of}
use Rattle.table.specs.Cell.{View}
use Rattle.table.specs.Sound.{limit}
use Rattle.boxes.specs.declared.sides.Bounds.{Bounds}
use Rattle.sums.specs.declared.box_sums.Stats.{Stats}
use Rattle.sums.specs.Box.{whole, stats_of}
use Rattle.boxes.specs.Box.{Within, one_bin}
use Rattle.boxes.specs.Holds.{holds}

-- "Q is c1², then plus c2², then plus c3², each operation rounded once", each whole number first turned into f64
abbrev pub square_of : ℕ → Float
square_of n = mul binary64 (whole n) (whole n)

abbrev pub q_of : ℕ → ℕ → ℕ → Float
q_of a b c = add binary64 (add binary64 (square_of a) (square_of b)) (square_of c)

-- Q without rounding
abbrev pub exact_q : ℕ → ℕ → ℕ → ℕ
exact_q a b c = a * a + b * b + c * c

-- Q/n
unfoldable pub quotient_of : Stats → Float
quotient_of s = div binary64 (q_of s.sum1 s.sum2 s.sum3) (whole s.weight)

abbrev pub zero_of : Float
zero_of = fin false 0 (pos 0)

-- "A box of one bin has spread exactly 0.0. Any other box has squares − Q/n"
unfoldable pub spread_of : Bounds → Stats → Float
spread_of x s = cond (one_bin x) zero_of (sub binary64 s.squares (quotient_of s))

-- "The score of a position is −(Qlow/nlow + Qhigh/nhigh)"
unfoldable pub score_of : Stats → Stats → Float
score_of low high = neg (add binary64 (quotient_of low) (quotient_of high))

-- a float has the sign of v − u
pub record Signed (r : Float) (u v : ℕ) : Type 0 where
  pub above : T (lt zero_of r) ↔ (u < v)
  pub level : T (eq r zero_of) ↔ (u ≡ v)
  pub under : T (lt r zero_of) ↔ (v < u)

-- statistics within the limit: no component above 255, so f64 holds each whole number
pub record Plain (s : Stats) : Type 0 where
  pub weight : s.weight ≤ limit
  pub one : s.sum1 ≤ 255 * s.weight
  pub two : s.sum2 ≤ 255 * s.weight
  pub three : s.sum3 ≤ 255 * s.weight

-- the property behind the number of boxes: a box with two occupied bins, and so of more than one, has a computed
-- spread above 0
pub record SpreadsAbove (g : Grid) (v : View) : Type 0 where
  pub above : (x : Bounds) → Within g x → (r gr b r' gr' b' : ℕ) → holds x r gr b ≡ true → holds x r' gr' b' ≡ true
      → (v (place_of g r gr b) 0 ≡ 0 → ⊥) → (v (place_of g r' gr' b') 0 ≡ 0 → ⊥)
      → (place_of g r gr b ≡ place_of g r' gr' b' → ⊥) → T (lt zero_of (spread_of x (stats_of g v x)))
