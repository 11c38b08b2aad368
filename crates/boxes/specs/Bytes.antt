-- The six bytes of a box, and the box as one number. Definitions only.
use Rattle.std.specs.Prelude.{List, [], ◌∷◌, ℕ, ◌+◌, ◌*◌, ◌/◌, ◌%◌, ◌<◌}
use Rattle.boxes.specs.declared.sides.Bounds.{Bounds}

-- the six bytes of a box: of each dimension where it begins, and where it ends
unfoldable pub box_bytes : Bounds → List ℕ
box_bytes x = x.r0 ∷ x.r1 ∷ x.g0 ∷ x.g1 ∷ x.b0 ∷ x.b1 ∷ []

-- the number whose bytes they are, the first of them lowest
unfoldable pub pack_of : Bounds → ℕ
pack_of x = x.r0 + 256 * (x.r1 + 256 * (x.g0 + 256 * (x.g1 + 256 * (x.b0 + 256 * x.b1))))

-- the box of a number
unfoldable pub box_of : ℕ → Bounds
box_of n =
    record {
      r0 = n % 256;
      r1 = n / 256 % 256;
      g0 = n / 256 / 256 % 256;
      g1 = n / 256 / 256 / 256 % 256;
      b0 = n / 256 / 256 / 256 / 256 % 256;
      b1 = n / 256 / 256 / 256 / 256 / 256 % 256;
    }

-- the ends of a box are bytes
pub record Bytes (x : Bounds) : Type 0 where
  pub r0 : x.r0 < 256
  pub r1 : x.r1 < 256
  pub g0 : x.g0 < 256
  pub g1 : x.g1 < 256
  pub b0 : x.b0 < 256
  pub b1 : x.b1 < 256
