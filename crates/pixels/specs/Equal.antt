-- Many equal colours, which a loop over pixels takes at once. Definitions only.
use Rattle.std.specs.Prelude.{Bool, ◌&&◌, cond, List, ℕ, ◌+◌, eqb, get_or}
use Rattle.pixels.specs.declared.colour.Rgb.{Rgb}
use Rattle.basics.specs.Range.{all_from}
use Rattle.pixels.specs.Colour.{colour_at}

-- two colours are equal
unfoldable pub same_colour : Rgb → Rgb → Bool
same_colour x y = eqb x.c1 y.c1 && (eqb x.c2 y.c2 && eqb x.c3 y.c3)

-- the 65 colours from i on are equal: each of the 64 that follow is colour i
unfoldable pub equal_colours : List ℕ → ℕ → Bool
equal_colours bytes i = all_from 1 64 (λ j. same_colour (colour_at bytes (i + j)) (colour_at bytes i))

-- 1 where a byte differs from the one three after it, which stands for the same component of the next colour
unfoldable pub differs : List ℕ → ℕ → ℕ
differs bytes p = cond (eqb (get_or bytes p 0) (get_or bytes (p + 3) 0)) 0 1
