-- What the crate's own functions are told: rows and planes of a box on the way to its sum. Definitions only.
use Rattle.std.specs.Prelude.{ℕ, ◌-◌, ◌≤◌, ◌<◌}
use Rattle.basics.specs.Range.{sum_from}
use Rattle.grid.specs.declared.place.Grid.{Grid}
use Rattle.grid.specs.Grid.{place_of}
use Rattle.table.specs.Cell.{View}
use Rattle.table.specs.Layouts.{Layout}
use Rattle.table.specs.Layout.{TableIn}
use Rattle.boxes.specs.declared.sides.Bounds.{Bounds}
use Rattle.bins.specs.Sum.{CanAdd}

-- a plane of it
pub record InPlane (l : Layout) (most : ℕ) (g : Grid) (t : TableIn l) (x : Bounds) (r : ℕ) : Type 0 where
  pub can_add : CanAdd l most g t x
  pub from : x.r0 ≤ r
  pub before : r < x.r1

-- a row of a plane of it
pub record InRow (l : Layout) (most : ℕ) (g : Grid) (t : TableIn l) (x : Bounds) (r gr : ℕ) : Type 0 where
  pub in_plane : InPlane l most g t x r
  pub from : x.g0 ≤ gr
  pub before : gr < x.g1

-- number j of n bins of a row, from bin b on
unfoldable pub row_sum : Grid → View → ℕ → ℕ → ℕ → ℕ → ℕ → ℕ
row_sum g v r gr b n j = sum_from b n (λ z. v (place_of g r gr z) j)

-- number j of n rows of a plane, from row gr on, over the box's bins of the third dimension
unfoldable pub plane_sum : Grid → View → Bounds → ℕ → ℕ → ℕ → ℕ → ℕ
plane_sum g v x r gr n j = sum_from gr n (λ y. row_sum g v r y x.b0 (x.b1 - x.b0) j)

-- number j of n planes of the box, from plane r on
unfoldable pub planes_sum : Grid → View → Bounds → ℕ → ℕ → ℕ → ℕ
planes_sum g v x r n j = sum_from r n (λ y. plane_sum g v x y x.g0 (x.g1 - x.g0) j)
