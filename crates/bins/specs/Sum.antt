-- What a box sums to: the plain sum over its bins (Rules, Moments). Definitions only.
use Rattle.std.specs.Prelude.{◌≡◌, true, cond, ℕ, ◌-◌, eqb}
use Rattle.grid.specs.declared.place.Grid.{Grid}
use Rattle.basics.specs.Range.{sum_from}
use Rattle.grid.specs.Grid.{place_of}
use Rattle.table.specs.declared.cell.Cell.{Cell}
use Rattle.table.specs.Cell.{View, cell_of}
use Rattle.table.specs.Layouts.{Layout}
use Rattle.table.specs.Layout.{TableIn, view_in, TableOfIn}
use Rattle.table.specs.Sound.{sound}
use Rattle.boxes.specs.declared.sides.Bounds.{Bounds}
use Rattle.boxes.specs.Box.{Within}

-- the sum of f over a run of numbers in each of the three dimensions
unfoldable pub sum3 : ℕ → ℕ → ℕ → ℕ → ℕ → ℕ → (ℕ → ℕ → ℕ → ℕ) → ℕ
sum3 a n b m c k f = sum_from a n (λ r. sum_from b m (λ gr. sum_from c k (λ z. f r gr z)))

-- number j of the bins of three runs: the plain sum
unfoldable pub bin_sum : Grid → View → ℕ → ℕ → ℕ → ℕ → ℕ → ℕ → ℕ → ℕ
bin_sum g v a n b m c k j = sum3 a n b m c k (λ r gr z. v (place_of g r gr z) j)

-- number j of a box
unfoldable pub box_sum : Grid → View → Bounds → ℕ → ℕ
box_sum g v x j = bin_sum g v x.r0 (x.r1 - x.r0) x.g0 (x.g1 - x.g0) x.b0 (x.b1 - x.b0) j

-- its five numbers together
unfoldable pub box_cell : Grid → View → Bounds → Cell
box_cell g v x = cell_of (box_sum g v x)

-- what adding it up asks for: a table that is sound for a limit, and a box of its grid
pub record CanAdd (l : Layout) (most : ℕ) (g : Grid) (t : TableIn l) (x : Bounds) : Type 0 where
  pub table : TableOfIn l g t
  pub is_sound : sound most g (view_in l t) ≡ true
  pub within : Within g x

-- a view with 1 at each occupied bin, weight above 0
unfoldable pub marks : View → View
marks v p j = cond (eqb (v p 0) 0) 0 1

-- how many bins of a box are occupied
unfoldable pub occupied_in : Grid → View → Bounds → ℕ
occupied_in g v x = box_sum g (marks v) x 0
