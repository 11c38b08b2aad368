-- The numbers of a box that is not empty, their bounds at a sound table, and the quotient and the spread from them.
-- Assumes nothing.
use mathlib.Core.Path.{◌≡◌, refl, ap}
use mathlib.Core.Bool.{Bool, true, false, cond}
use Prim.Native.Nat.{ℕ, ◌*◌, ◌≤◌}
use native.Mathlib.Omega.{arith}
use lib.Dec.{lit<}
use lib.Ieee.{Float, binary64, sub, div}
use Rattle.grid.specs.declared.place.Grid.{Grid}
use Rattle.table.specs.Cell.{View}
use Rattle.table.specs.Sound.{limit}
use Rattle.table.proofs.Soundness.{Sound}
use Rattle.boxes.specs.declared.sides.Bounds.{Bounds}
use Rattle.bins.specs.Sum.{box_sum}
use Rattle.sums.specs.Box.{stats_of}
use Rattle.boxes.specs.Box.{Within}
use Rattle.bins.proofs.Laws.{box_sums_high, box_squares_high, box_weight_high}
use Rattle.sums.specs.Box.{whole}
use Rattle.spread.specs.Spread.{q_of, quotient_of, zero_of, spread_of}
use Rattle.boxes.specs.Box.{one_bin}
use Rattle.spread.proofs.Rounding.{Is, of_whole}

-- a weight n, three sums and the squares, within the bounds of a box that is not empty
pub record Numbers (n a b c sq : ℕ) : Type 0 where
  pub some : 1 ≤ n
  pub most : n ≤ limit
  pub one : a ≤ 255 * n
  pub two : b ≤ 255 * n
  pub three : c ≤ 255 * n
  pub squares : sq ≤ 195075 * n

-- Q/n and the spread of a box of more than one bin
abbrev pub quot_at : ℕ → ℕ → ℕ → ℕ → Float
quot_at n a b c = div binary64 (q_of a b c) (whole n)

abbrev pub spread_at : ℕ → ℕ → ℕ → ℕ → ℕ → Float
spread_at n a b c sq = sub binary64 (whole sq) (quot_at n a b c)

-- f64 holds the weight and the squares
module _ {n a b c sq : ℕ} (box : Numbers n a b c sq) where
  pub weight_value : Is (whole n) n 1
  weight_value = of_whole binary64 n (omega (arith, box.most))

  pub squares_value : Is (whole sq) sq 1
  squares_value = of_whole binary64 sq (omega (arith, box.most, box.squares))

-- ---- a box of a sound table
pub numbers : {g : Grid} {v : View} → Sound limit g v → {x : Bounds} → Within g x → 1 ≤ box_sum g v x 0
    → Numbers (box_sum g v x 0) (box_sum g v x 1) (box_sum g v x 2) (box_sum g v x 3) (box_sum g v x 4)
numbers s w h =
    record {
      some = h;
      most = box_weight_high s w;
      one = box_sums_high s w 0 (lit< tt);
      two = box_sums_high s w 1 (lit< tt);
      three = box_sums_high s w 2 (lit< tt);
      squares = box_squares_high s w;
    }

module _ (g : Grid) (v : View) (x : Bounds) where
  pub quot_is : quotient_of (stats_of g v x) ≡ quot_at (box_sum g v x 0) (box_sum g v x 1) (box_sum g v x 2) (box_sum g v x 3)
  unfolding quotient_of stats_of
  quot_is = refl

  pub spread_is : one_bin x ≡ false → spread_of x (stats_of g v x)
      ≡ spread_at (box_sum g v x 0) (box_sum g v x 1) (box_sum g v x 2) (box_sum g v x 3) (box_sum g v x 4)
  unfolding spread_of quotient_of stats_of
  spread_is e =
      ap (λ (t : Bool). cond t zero_of (spread_at (box_sum g v x 0) (box_sum g v x 1) (box_sum g v x 2) (box_sum g v x 3)
      (box_sum g v x 4))) e

  pub spread_one : one_bin x ≡ true → spread_of x (stats_of g v x) ≡ zero_of
  unfolding spread_of
  spread_one e = rw e
