-- The steps of adding a batch, as the crate's own functions are told. Definitions only.
use Rattle.std.specs.Prelude.{None, Option, Some}
use Rattle.std.specs.Prelude.{◌≡◌, Bool, true, ◌&&◌, cond, List, ℕ, ◌+◌, ◌-◌, ◌*◌, ◌/◌, ◌≤◌, eqb, leb, ltb, length, get_or}
use Rattle.grid.specs.declared.place.Grid.{Grid}
use Rattle.pixels.specs.declared.colour.Rgb.{Rgb}
use Rattle.basics.specs.Range.{list_from, sum_from}
use Rattle.grid.specs.Grid.{bins_of, colour_place}
use Rattle.pixels.specs.Colour.{colour_at}
use Rattle.pixels.specs.Equal.{equal_colours}
use Rattle.table.specs.Layouts.{Layout}
use Rattle.table.specs.Layout.{TableIn, TableOfIn, view_in, written_in}
use Rattle.table.specs.Cell.{cell_of}
use Rattle.table.specs.Sound.{limit_of, sound, total}
use Rattle.adder.specs.Batch.{Weighted, share, weight_of, loaded}
use Rattle.adder.specs.Add.{IsScale, step_number, with_cell}

-- the sum of n weights, from weight i on
abbrev pub weights_from : List ℕ → ℕ → ℕ → ℕ
weights_from weights i n = sum_from i n (λ k. get_or weights k 0)

-- and of all
abbrev pub all_weights : List ℕ → ℕ
all_weights weights = weights_from weights 0 (length weights)

-- the squared components of a colour, together
unfoldable pub squares_of : Rgb → ℕ
squares_of x = x.c1 * x.c1 + x.c2 * x.c2 + x.c3 * x.c3

-- colour i of a batch, its weight multiplied by a scale
unfoldable pub scaled_at : ℕ → List ℕ → Bool → List ℕ → ℕ → Weighted
scaled_at scale colours weighted weights i =
    record { colour = colour_at colours i; weight = scale * cond weighted (get_or weights i 0) 1 }

-- a step table with the part of one dimension filled in
unfoldable pub with_dimension : Grid → ℕ → List ℕ → List ℕ
with_dimension g d t = list_from 0 768 (λ i. cond (eqb (i / 256) d) (step_number g i) (get_or t i 0))

-- n colours of a batch, from colour i on
unfoldable pub part_of : ℕ → List ℕ → Bool → List ℕ → ℕ → ℕ → List Weighted
part_of scale colours weighted weights i n = list_from i n (scaled_at scale colours weighted weights)

-- n colours from colour i on are seen to be equal: there are some, and they are the last of 65 equal ones
unfoldable pub last_equal : List ℕ → ℕ → ℕ → Bool
last_equal colours i n = ltb 0 n && (ltb 64 (i + n) && equal_colours colours ((i + n) - 65))

-- a table with them added
unfoldable pub with_part : (l : Layout) → Grid → TableIn l → ℕ → List ℕ → Bool → List ℕ → ℕ → ℕ → TableIn l
with_part l g t scale colours weighted weights i n =
    written_in l (bins_of g) (loaded g (part_of scale colours weighted weights i n) (view_in l t))

-- a total, or that it passes the limit
unfoldable pub held_to : ℕ → ℕ → Option ℕ
held_to most n = cond (leb n most) (Some n) None

-- a table with one colour added
unfoldable pub with_colour : (l : Layout) → Grid → TableIn l → Weighted → TableIn l
with_colour l g t c = with_cell l t (colour_place g c.colour) (cell_of (share c))

-- n colours of a batch, from colour i on, can be added to a sound table: they are there, with one weight a colour where
-- weights are given, and the total fits
pub record PartFits (l : Layout) (g : Grid) (t : TableIn l) (scale : ℕ) (colours : List ℕ) (weighted : Bool)
    (weights : List ℕ) (i n : ℕ) : Type 0 where
  pub scaled : IsScale scale
  pub table : TableOfIn l g t
  pub is_sound : sound (limit_of l) g (view_in l t) ≡ true
  pub there : i + n ≤ length colours / 3
  pub one_each : weighted ≡ true → length weights ≡ length colours / 3
  pub under : total g (view_in l t) + weight_of (part_of scale colours weighted weights i n) ≤ limit_of l
