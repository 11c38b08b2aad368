-- A colour in a row of bytes. Definitions only.
use Rattle.std.specs.Prelude.{List, ℕ, ◌+◌, ◌*◌, get_or}
use Rattle.basics.specs.Dimension.{choose}
use Rattle.pixels.specs.declared.colour.Rgb.{Rgb}

unfoldable pub component_at : Rgb → ℕ → ℕ
component_at x d = choose d x.c1 x.c2 x.c3

-- colour i of a row of bytes
unfoldable pub colour_at : List ℕ → ℕ → Rgb
colour_at bytes i =
    record { c1 = get_or bytes (3 * i) 0; c2 = get_or bytes (3 * i + 1) 0; c3 = get_or bytes (3 * i + 2) 0 }
