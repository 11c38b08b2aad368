-- Palette, counts and remainders of a list of boxes (Rules, Results). Definitions only.
use Rattle.std.specs.Prelude.{cond, List, [], ◌∷◌, ℕ, ◌*◌, ◌/◌, ◌%◌, ltb, length, take}
use Rattle.grid.specs.declared.place.Grid.{Grid}
use Rattle.pixels.specs.declared.colour.Rgb.{Rgb}
use Rattle.table.specs.Cell.{View}
use Rattle.boxes.specs.declared.sides.Bounds.{Bounds}
use Rattle.bins.specs.Sum.{box_sum}
use Rattle.cutter.specs.declared.palette.Divided.{Divided}
use Rattle.cutter.specs.Fronts.{join_all, filled}

-- "each sum divided by n, rounded down", and "what that leaves of each sum"
unfoldable pub mean_of : ℕ → ℕ → Divided
mean_of sum n = record { quotient = sum / n; remainder = sum % n }

-- "Its palette colour is each sum divided by n, rounded down"
unfoldable pub colour_of : Grid → View → Bounds → Rgb
colour_of g v x =
    record {
      c1 = (mean_of (box_sum g v x 1) (box_sum g v x 0)).quotient;
      c2 = (mean_of (box_sum g v x 2) (box_sum g v x 0)).quotient;
      c3 = (mean_of (box_sum g v x 3) (box_sum g v x 0)).quotient;
    }

-- "its count is n"
unfoldable pub count_of : Grid → View → Bounds → ℕ
count_of g v x = box_sum g v x 0

-- the remainder of one component's mean
unfoldable pub remainder_of : Grid → View → Bounds → ℕ → ℕ
remainder_of g v x j = (mean_of (box_sum g v x j) (box_sum g v x 0)).remainder

-- the three bytes of a colour
unfoldable pub bytes_of : Rgb → List ℕ
bytes_of c = c.c1 ∷ c.c2 ∷ c.c3 ∷ []

-- what a box gives the palette, the counts and the remainders
unfoldable pub its_colour : Grid → View → Bounds → List ℕ
its_colour g v x = bytes_of (colour_of g v x)

unfoldable pub its_count : Grid → View → Bounds → List ℕ
its_count g v x = count_of g v x ∷ []

unfoldable pub its_remainders : Grid → View → Bounds → List ℕ
its_remainders g v x = remainder_of g v x 1 ∷ remainder_of g v x 2 ∷ remainder_of g v x 3 ∷ []

-- the colours of boxes, one after the other
unfoldable pub colours_of : Grid → View → List Bounds → List ℕ
colours_of g v xs = join_all (its_colour g v) xs

-- "Places past the filled front of palette, counts and remainders stay"
unfoldable pub palette_later : Grid → View → List Bounds → List ℕ → List ℕ
palette_later g v xs old = filled 3 (its_colour g v) xs old

unfoldable pub counts_later : Grid → View → List Bounds → List ℕ → List ℕ
counts_later g v xs old = filled 1 (its_count g v) xs old

unfoldable pub remainders_later : Grid → View → List Bounds → List ℕ → List ℕ
remainders_later g v xs old = filled 3 (its_remainders g v) xs old

-- "the filled front of the lent palette as a part of it; if the palette is too short for that number, the part is
-- empty"
unfoldable pub front_of : List ℕ → ℕ → List ℕ
front_of palette boxes = cond (ltb (length palette) (3 * boxes)) [] (take (3 * boxes) palette)
