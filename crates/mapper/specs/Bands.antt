-- A frame mapped band by band, in any order. Definitions only.
use Rattle.std.specs.Prelude.{Bool, true, false, ◌&&◌, ◌||◌, List, [], ◌∷◌, ℕ, ◌+◌, leb}
use Rattle.band.specs.Band.{among}
use Rattle.mapper.specs.Map.{map_later}

-- the first pixel of a band, and its number of pixels
pub record Band : Type 0 where
  pub first : ℕ
  pub pixels : ℕ

-- the index buffer after the bands are mapped one after the other
unfoldable pub map_bands : ℕ → ℕ → ℕ → List ℕ → ℕ → List ℕ → List Band → List ℕ → List ℕ
map_bands b1 b2 b3 map palette_colours frame [] indices = indices
map_bands b1 b2 b3 map palette_colours frame (b ∷ bs) indices =
    map_bands b1 b2 b3 map palette_colours frame bs
    (map_later b1 b2 b3 map palette_colours frame indices b.first b.pixels)

-- each band lies in a frame of n pixels
unfoldable pub all_inside : ℕ → List Band → Bool
all_inside n [] = true
all_inside n (b ∷ bs) = leb (b.first + b.pixels) n && all_inside n bs

-- pixel i lies in some band
unfoldable pub covered : List Band → ℕ → Bool
covered [] i = false
covered (b ∷ bs) i = among b.first b.pixels i || covered bs i
