-- The 240 fixed colours of a terminal (Rules, Terminal). Definitions only.
use Rattle.std.specs.Prelude.{Bool, not, cond, List, [], ◌∷◌, ℕ, ◌+◌, ◌*◌, ◌/◌, ◌%◌, ◌-◌, ltb, get_or}
use Rattle.basics.specs.Range.{list_from, all_from}
use Rattle.basics.specs.Dimension.{choose}
use Rattle.pixels.specs.declared.colour.Rgb.{Rgb}
use Rattle.pixels.specs.Equal.{same_colour}

-- "the levels 0, 95, 135, 175, 215, 255"
unfoldable pub level_of : ℕ → ℕ
level_of step = get_or (0 ∷ 95 ∷ 135 ∷ 175 ∷ 215 ∷ 255 ∷ []) step 0

-- "Number 16 + 36·r + 6·g + b": what is left of a number above 16 tells r, g and b
unfoldable pub cube_level : ℕ → ℕ → ℕ
cube_level left d = level_of (choose d (left / 36) (left / 6 % 6) (left % 6))

-- "8 + 10·i three times"
unfoldable pub grey_level : ℕ → ℕ
grey_level i = 8 + 10 * i

-- component d of the colour with number n, 16 to 255
unfoldable pub level_at : ℕ → ℕ → ℕ
level_at n d = cond (ltb n 232) (cube_level (n - 16) d) (grey_level (n - 232))

unfoldable pub fixed_colour : ℕ → Rgb
fixed_colour n = record { c1 = level_at n 0; c2 = level_at n 1; c3 = level_at n 2 }

-- "a table of 720 numbers, three a colour"
unfoldable pub fixed_table : List ℕ
fixed_table = list_from 0 720 (λ j. level_at (16 + j / 3) (j % 3))

-- "All 240 colours differ": each from every one before it
unfoldable pub all_differ : Bool
all_differ = all_from 16 240 (λ n. all_from 16 (n - 16) (λ m. not (same_colour (fixed_colour n) (fixed_colour m))))
