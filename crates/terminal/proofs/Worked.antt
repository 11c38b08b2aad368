-- Worked answers, computed on the definitions.
-- Assumes nothing.
use mathlib.Core.Path.{◌≡◌, refl}
use mathlib.Core.List.{List, [], ◌∷◌}
use Prim.Native.Nat.{ℕ}
use Rattle.basics.specs.Answer.{refuse, when_done}
use Rattle.basics.specs.Range.{list_from}
use Rattle.basics.specs.Dimension.{choose}
use Rattle.pixels.specs.Colour.{colour_at}
use Rattle.terminal.specs.Colours.{level_of, cube_level, grey_level, level_at, fixed_colour}
use Rattle.terminal.specs.Nearest.{difference_of, square_of, apart, distance_of, least_from, nearest_of, nearest_at}
use Rattle.terminal.specs.Nearest.{nearest_number, numbers_for, nearest_later}

-- black, white, a grey of the ramp, one between two of it, red, and a red between two levels
palette : List ℕ
palette =
    0 ∷ 0 ∷ 0 ∷ 255 ∷ 255 ∷ 255 ∷ 128 ∷ 128 ∷ 128 ∷ 13 ∷ 13 ∷ 13 ∷ 255 ∷ 0 ∷ 0 ∷ 115 ∷ 0 ∷ 255 ∷ []

-- 13 is as far from 8 as from 18, and 115 as far from 95 as from 135: the lower number each time. The seventh place stays
worked : nearest_later palette (7 ∷ 7 ∷ 7 ∷ 7 ∷ 7 ∷ 7 ∷ 7 ∷ []) ≡ 16 ∷ 231 ∷ 244 ∷ 232 ∷ 196 ∷ 57 ∷ 7 ∷ []
unfolding
    palette nearest_later nearest_number numbers_for refuse when_done list_from colour_at nearest_at nearest_of least_from
    distance_of apart square_of difference_of fixed_colour level_at cube_level grey_level level_of choose
worked = refl
