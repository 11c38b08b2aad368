-- Views that agree on the places of a grid have the same boxes.
-- Assumes nothing.
use mathlib.Core.Path.{◌≡◌}
use Prim.Native.Nat.{ℕ, ◌-◌, ◌<◌}
use native.Mathlib.Omega.{arith}
use Rattle.grid.specs.declared.place.Grid.{Grid}
use Rattle.grid.specs.Grid.{bins_of, place_of}
use Rattle.grid.proofs.Places.{place_lt}
use Rattle.table.specs.Cell.{View}
use Rattle.boxes.specs.declared.sides.Bounds.{Bounds}
use Rattle.boxes.specs.Box.{Within}
use Rattle.boxes.proofs.Within.{sides}
use Rattle.bins.specs.Sum.{bin_sum, box_sum}
use Rattle.bins.proofs.Boxes.{sum3_same}

module _ {g : Grid} {v u : View} (same : (p j : ℕ) → p < bins_of g → j < 5 → v p j ≡ u p j) {x : Bounds}
    (w : Within g x) where
  pub box_same : (j : ℕ) → j < 5 → box_sum g v x j ≡ box_sum g u x j
  unfolding box_sum bin_sum
  box_same j h =
      let e = sides w in
      sum3_same x.r0 (x.r1 - x.r0) x.g0 (x.g1 - x.g0) x.b0 (x.b1 - x.b0) _ _
      (λ r gr b k l m.
      same (place_of g r gr b) j
      (place_lt (record {
        accepted = w.accepted;
        one = omega (arith, e.one, e.one_fits);
        two =
            omega (arith, e.two, e.two_fits);
        three = omega (arith, e.three, e.three_fits);
      }))
      h)
