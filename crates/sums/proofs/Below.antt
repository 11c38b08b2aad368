-- Laws of moments: how each comes from those before it, and that at a sound table none is large.
-- Assumes nothing.
use mathlib.Core.Path.{◌≡◌, refl, ap, ◌∙◌}
use Prim.Native.Nat.{ℕ, ◌+◌, ◌*◌, ◌^◌, ◌≤◌, ◌<◌}
use native.Mathlib.Nat.{add-zero, zero-add}
use native.Mathlib.Omega.{arith}
use Rattle.grid.specs.declared.place.Grid.{Grid}
use Rattle.basics.specs.Range.{sum_from}
use Rattle.grid.specs.Grid.{Accepted, place_of}
use Rattle.basics.specs.Dimension.{choose}
use Rattle.basics.proofs.Range.{sum_zero}
use Rattle.grid.proofs.Places.{bin_of_place}
use Rattle.table.specs.Cell.{View}
use Rattle.table.specs.Sound.{limit, total}
use Rattle.table.proofs.Soundness.{Sound, numbers_high}
use Rattle.bins.specs.Sum.{sum3, bin_sum}
use Rattle.sums.specs.Moments.{below_sum, moments_of}
use Rattle.sums.specs.Inner.{line_sum}
use Rattle.bins.proofs.Boxes.{sum3_first, sum3_second}
use Rattle.bins.proofs.Runs.{runs_grow, all_bins, all_small}

module _ (g : Grid) (v : View) where
  -- number j of a bin
  abbrev bin : ℕ → ℕ → ℕ → ℕ → ℕ
  bin j r gr b = v (place_of g r gr b) j

  -- the moments at a place, by its bins
  pub moments_at : (r gr b j : ℕ) → gr < g.size2 → b < g.size3 → moments_of g v (place_of g r gr b) j
      ≡ below_sum g v (r + 1) (gr + 1) (b + 1) j
  unfolding moments_of choose
  moments_at r gr b j h k =
      λ i. below_sum g v (bin_of_place g 0 r gr b h k i + 1) (bin_of_place g 1 r gr b h k i + 1)
      (bin_of_place g 2 r gr b h k i + 1) j

  pub below_none : (gr b j : ℕ) → below_sum g v 0 gr b j ≡ 0
  unfolding below_sum bin_sum sum3 sum_from
  below_none gr b j = refl

  pub below_no_row : (r b j : ℕ) → below_sum g v r 0 b j ≡ 0
  unfolding below_sum bin_sum sum3 sum_from
  below_no_row r b j = sum_zero 0 r

  -- a plane more, up to a row
  plane : ℕ → ℕ → ℕ → ℕ → ℕ
  plane r gr b j = sum3 r 1 0 gr 0 b (bin j)

  below_plane : (r gr b j : ℕ) → below_sum g v (r + 1) gr b j ≡ below_sum g v r gr b j + plane r gr b j
  unfolding below_sum bin_sum plane
  below_plane r gr b j =
      sum3_first (bin j) 0 r 1 0 gr 0 b ∙ (λ i. sum3 0 r 0 gr 0 b (bin j) + sum3 (zero-add r i) 1 0 gr 0 b (bin j))

  plane_row : (r gr b j : ℕ) → plane r (gr + 1) b j ≡ plane r gr b j + line_sum g v r gr b j
  unfolding plane line_sum sum3 sum_from
  plane_row r gr b j = sum3_second (bin j) r 1 0 gr 1 0 b ∙ ap (λ (x : ℕ). sum3 r 1 0 gr 0 b (bin j) + x) last
    where
      last : sum3 r 1 (0 + gr) 1 0 b (bin j) ≡ sum_from 0 b (λ z. v (place_of g r gr z) j)
      last = ap (λ (y : ℕ). sum3 r 1 y 1 0 b (bin j)) (zero-add gr) ∙ add-zero _ ∙ add-zero _

  -- each moment from the line and from the moments of the row above, the plane before, and the row above in it
  pub below_step : (r gr b j : ℕ) → below_sum g v (r + 1) (gr + 1) b j + below_sum g v r gr b j
      ≡ line_sum g v r gr b j + below_sum g v (r + 1) gr b j + below_sum g v r (gr + 1) b j
  below_step r gr b j =
      omega (arith, below_plane r (gr + 1) b j, below_plane r gr b j, plane_row r gr b j)

  -- a row above has no more than the row itself
  pub below_grows : (r gr b j : ℕ) → below_sum g v r gr b j ≤ below_sum g v r (gr + 1) b j
  unfolding below_sum bin_sum
  below_grows r gr b j = omega (arith, sum3_second (bin j) 0 r 0 gr 1 0 b)

-- at a sound table every moment is below 2^50
pub below_small : {g : Grid} {v : View} → Accepted g → Sound limit g v → (r gr b j : ℕ) → r ≤ g.size1
    → gr ≤ g.size2 → b ≤ g.size3 → j < 5 → below_sum g v r gr b j < 2 ^ 50
unfolding below_sum
below_small {g} {v} a s r gr b j h k l m =
    omega (arith, runs_grow g v r gr b j h k l, all_bins g v j, all_small a s j m)

-- and weight and sums are at most 255 times the total
pub below_high : {most : ℕ} {g : Grid} {v : View} → Accepted g → Sound most g v → (r gr b j : ℕ) → r ≤ g.size1
    → gr ≤ g.size2 → b ≤ g.size3 → j < 4 → below_sum g v r gr b j ≤ 255 * total g v
unfolding below_sum
below_high {g = g} {v} a s r gr b j h k l m =
    omega (arith, runs_grow g v r gr b j h k l, all_bins g v j, numbers_high a s j m)
