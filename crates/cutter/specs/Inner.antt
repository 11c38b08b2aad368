-- What the crate's own functions are told. Definitions only.
use Rattle.std.specs.Prelude.{◌≡◌, Bool, cond, List, [], ◌∷◌, ℕ, suc, ◌*◌, ◌≤◌, ◌<◌, length, get_or}
use Rattle.grid.specs.declared.place.Grid.{Grid}
use Rattle.pixels.specs.declared.colour.Rgb.{Rgb}
use Rattle.basics.specs.Range.{list_from}
use Rattle.grid.specs.Grid.{bins_of}
use Rattle.table.specs.Cell.{View}
use Rattle.boxes.specs.declared.sides.Bounds.{Bounds}
use Rattle.boxes.specs.Box.{no_box, Within}
use Rattle.boxes.specs.Holds.{holds_at}
use Rattle.sums.specs.declared.box_sums.Stats.{Stats}
use Rattle.bins.specs.Sum.{box_sum}
use Rattle.rounds.specs.declared.gather.Boxes.{Boxes}
use Rattle.cutter.specs.Fronts.{put_from}
use Rattle.cutter.specs.Palette.{mean_of, bytes_of}
use Rattle.table.specs.Sound.{limit}
use Rattle.cutter.specs.Cut.{list_of}

-- ---- the palette
-- the colour of a box with these statistics
unfoldable pub stats_colour : Stats → Rgb
stats_colour s =
    record {
      c1 = (mean_of s.sum1 s.weight).quotient;
      c2 = (mean_of s.sum2 s.weight).quotient;
      c3 = (mean_of s.sum3 s.weight).quotient;
    }

-- and its remainders
unfoldable pub stats_remainders : Stats → List ℕ
stats_remainders s =
    (mean_of s.sum1 s.weight).remainder ∷ (mean_of s.sum2 s.weight).remainder
    ∷ (mean_of s.sum3 s.weight).remainder ∷ []

-- statistics with some weight that fits, whose means are bytes
pub record Coloured (s : Stats) : Type 0 where
  pub some : 0 < s.weight
  pub fits : s.weight ≤ limit
  pub one : s.sum1 ≤ 255 * s.weight
  pub two : s.sum2 ≤ 255 * s.weight
  pub three : s.sum3 ≤ 255 * s.weight

-- a box of the grid with some weight
pub record Occupied (g : Grid) (v : View) (x : Bounds) : Type 0 where
  pub within : Within g x
  pub some : 0 < box_sum g v x 0

-- a palette with a colour at place i
unfoldable pub with_colour_at : List ℕ → ℕ → Rgb → List ℕ
with_colour_at palette i c = put_from palette (3 * i) (bytes_of c)

-- the remainders with three numbers at place i
unfoldable pub with_three_at : List ℕ → ℕ → List ℕ → List ℕ
with_three_at remainders i three = put_from remainders (3 * i) three

-- ---- the map
-- a list with an index at the places that pass a test, and nothing else changed
unfoldable pub fill_where : (ℕ → Bool) → ℕ → List ℕ → List ℕ
fill_where test index old = list_from 0 (length old) (λ p. cond (test p) index (get_or old p 0))

-- a map with an index at every bin of a box
unfoldable pub fill_of : Grid → Bounds → ℕ → List ℕ → List ℕ
fill_of g x index old = fill_where (holds_at g x) index old

-- boxes filled one after the other, numbered from i on
unfoldable pub fill_from : Grid → ℕ → List Bounds → List ℕ → List ℕ
fill_from g i [] old = old
fill_from g i (x ∷ xs) old = fill_from g (suc i) xs (fill_of g x i old)

-- a map of the grid, and a plane of a box of it
pub record Plane (g : Grid) (x : Bounds) (r : ℕ) (map : List ℕ) : Type 0 where
  pub within : Within g x
  pub from : x.r0 ≤ r
  pub before : r < x.r1
  pub lent : length map ≡ bins_of g

-- ---- all boxes
-- boxes of the grid, in a record of 256 places
pub record Placed (g : Grid) (b : Boxes) : Type 0 where
  pub few : b.boxes ≤ 256
  pub long : length b.places ≡ 256
  pub within : (i : ℕ) → i < b.boxes → Within g (get_or (list_of b.boxes b.places) i no_box)

-- and each with some weight
pub record Found (g : Grid) (v : View) (b : Boxes) : Type 0 where
  pub placed : Placed g b
  pub some : (i : ℕ) → i < b.boxes → 0 < box_sum g v (get_or (list_of b.boxes b.places) i no_box) 0
