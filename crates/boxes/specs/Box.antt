-- A box and its two sides (Rules, Moments; Rules, Cutting). Definitions only.
use Rattle.std.specs.Prelude.{Bool, ◌&&◌, ℕ, ◌-◌, ◌≤◌, ◌<◌, eqb}
use Rattle.grid.specs.declared.place.Grid.{Grid}
use Rattle.basics.specs.Dimension.{choose}
use Rattle.grid.specs.Grid.{Accepted, size_at}
use Rattle.boxes.specs.declared.sides.Bounds.{Bounds}

-- "A box is min inclusive, max exclusive"
unfoldable pub min_at : Bounds → ℕ → ℕ
min_at x d = choose d x.r0 x.g0 x.b0

unfoldable pub max_at : Bounds → ℕ → ℕ
max_at x d = choose d x.r1 x.g1 x.b1

-- no box: where it begins it ends
abbrev pub no_box : Bounds
no_box = record { r0 = 0; r1 = 0; g0 = 0; g1 = 0; b0 = 0; b1 = 0 }

-- the whole grid as a box
unfoldable pub whole_of : Grid → Bounds
whole_of g = record { r0 = 0; r1 = g.size1; g0 = 0; g1 = g.size2; b0 = 0; b1 = g.size3 }

-- one bin in each dimension
unfoldable pub one_bin : Bounds → Bool
one_bin x = eqb (x.r1 - x.r0) 1 && (eqb (x.g1 - x.g0) 1 && eqb (x.b1 - x.b0) 1)

-- a box with its ends in order
pub record Ordered (x : Bounds) : Type 0 where
  pub one : x.r0 ≤ x.r1
  pub two : x.g0 ≤ x.g1
  pub three : x.b0 ≤ x.b1

-- a box of an accepted grid: some bins in each dimension
pub record Within (g : Grid) (x : Bounds) : Type 0 where
  pub accepted : Accepted g
  pub some : (d : ℕ) → min_at x d < max_at x d
  pub fits : (d : ℕ) → max_at x d ≤ size_at g d

-- "the low side is [min, bin), the high side the rest"
unfoldable pub low_side : Bounds → ℕ → ℕ → Bounds
low_side x d c =
    choose d
    (record { r0 = x.r0; r1 = c; g0 = x.g0; g1 = x.g1; b0 = x.b0; b1 = x.b1 })
    (record { r0 = x.r0; r1 = x.r1; g0 = x.g0; g1 = c; b0 = x.b0; b1 = x.b1 })
    (record { r0 = x.r0; r1 = x.r1; g0 = x.g0; g1 = x.g1; b0 = x.b0; b1 = c })

unfoldable pub high_side : Bounds → ℕ → ℕ → Bounds
high_side x d c =
    choose d
    (record { r0 = c; r1 = x.r1; g0 = x.g0; g1 = x.g1; b0 = x.b0; b1 = x.b1 })
    (record { r0 = x.r0; r1 = x.r1; g0 = c; g1 = x.g1; b0 = x.b0; b1 = x.b1 })
    (record { r0 = x.r0; r1 = x.r1; g0 = x.g0; g1 = x.g1; b0 = c; b1 = x.b1 })

-- what lies before a bin in a dimension, from the edge of the grid on: before the box, and its low side
abbrev pub slab_to : Bounds → ℕ → ℕ → Bounds
slab_to x d c = low_side (high_side x d 0) d c
