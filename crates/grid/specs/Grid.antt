-- Grids, bins and their places (Rules, Grid). Definitions only.
use Rattle.std.specs.Prelude.{None, Option, Some}
use Rattle.std.specs.Prelude.{◌≡◌, List, [], ◌∷◌, ℕ, ◌+◌, ◌*◌, ◌/◌, ◌%◌, ◌<◌}
use Rattle.grid.specs.declared.place.Grid.{Grid}
use Rattle.pixels.specs.declared.colour.Rgb.{Rgb}
use Rattle.basics.specs.Range.{list_from}
use Rattle.basics.specs.Answer.{Answer}
use Rattle.basics.specs.Dimension.{choose}
use Rattle.grid.specs.Size.{shift_of, bin_of}

unfoldable pub size_at : Grid → ℕ → ℕ
size_at g d = choose d g.size1 g.size2 g.size3

unfoldable pub shift_at : Grid → ℕ → ℕ
shift_at g d = choose d g.shift1 g.shift2 g.shift3

-- three sizes with their shifts, or the refusal
unfoldable pub grid_with : ℕ → ℕ → ℕ → Option ℕ → Option ℕ → Option ℕ → Option Grid
grid_with b1 b2 b3 (Some s1) (Some s2) (Some s3) =
    Some (record { shift1 = s1; shift2 = s2; shift3 = s3; size1 = b1; size2 = b2; size3 = b3 })
grid_with b1 b2 b3 (Some s1) (Some s2) None = None
grid_with b1 b2 b3 (Some s1) None t = None
grid_with b1 b2 b3 None t u = None

-- "A grid is three sizes B1, B2, B3"
unfoldable pub grid_of : ℕ → ℕ → ℕ → Option Grid
grid_of b1 b2 b3 = grid_with b1 b2 b3 (shift_of b1) (shift_of b2) (shift_of b3)

-- "`rgb()` is 16, 32, 16": the grid that grid_of answers for these (`rgb_accepted`)
unfoldable pub rgb_grid : Grid
rgb_grid = record { shift1 = 4; shift2 = 3; shift3 = 4; size1 = 16; size2 = 32; size3 = 16 }

-- the answer and the values of each case
unfoldable pub grid_answer : Option Grid → Answer
grid_answer (Some g) =
    record { number = 0; values = g.shift1 ∷ g.shift2 ∷ g.shift3 ∷ g.size1 ∷ g.size2 ∷ g.size3 ∷ [] }
grid_answer None = record { number = 1; values = [] }

-- what a call gives on an accepted grid, and what it gives where the grid is refused
unfoldable pub on_grid : {A : Type 0} → Option Grid → A → (Grid → A) → A
on_grid (Some g) refused f = f g
on_grid None refused f = refused

-- the answer of a call: the grid's refusal first
unfoldable pub number_on : Option Grid → (Grid → ℕ) → ℕ
number_on c f = on_grid c (grid_answer c).number f

-- the grid is one that grid_of answers: each size among the seven, with its shift
pub record Accepted (g : Grid) : Type 0 where
  pub size : (d : ℕ) → shift_of (size_at g d) ≡ Some (shift_at g d)

unfoldable pub bins_of : Grid → ℕ
bins_of g = g.size1 * g.size2 * g.size3

-- "Bin (r, g, b) stands at place (r·B2 + g)·B3 + b"
unfoldable pub place_of : Grid → ℕ → ℕ → ℕ → ℕ
place_of g r gr b = (r * g.size2 + gr) * g.size3 + b

-- the bin at a place, in dimension d
unfoldable pub bin_at : Grid → ℕ → ℕ → ℕ
bin_at g d p = choose d (p / g.size3 / g.size2) (p / g.size3 % g.size2) (p % g.size3)

-- an accepted grid, and a bin of it
pub record Inside (g : Grid) (r gr b : ℕ) : Type 0 where
  pub accepted : Accepted g
  pub one : r < g.size1
  pub two : gr < g.size2
  pub three : b < g.size3

-- the place of a colour's bin
unfoldable pub colour_place : Grid → Rgb → ℕ
colour_place g x = place_of g (bin_of g.shift1 x.c1) (bin_of g.shift2 x.c2) (bin_of g.shift3 x.c3)

-- what one bin more in dimension d adds to the place
unfoldable pub stride_at : Grid → ℕ → ℕ
stride_at g d = choose d (g.size2 * g.size3) g.size3 1

-- for each value of a component, what its bin in dimension d adds to the place
unfoldable pub steps_of : Grid → ℕ → List ℕ
steps_of g d = list_from 0 256 (λ c. bin_of (shift_at g d) c * stride_at g d)

-- three tables are the steps of an accepted grid
pub record StepsOf (g : Grid) (t1 t2 t3 : List ℕ) : Type 0 where
  pub accepted : Accepted g
  pub one : t1 ≡ steps_of g 0
  pub two : t2 ≡ steps_of g 1
  pub three : t3 ≡ steps_of g 2
