-- What the private functions of painting are told: colours packed to one number each, as painting reads a palette.
-- Definitions only.
use Rattle.std.specs.Prelude.{◌≡◌, true, List, ℕ, ◌*◌, ◌/◌, ◌%◌, ◌≤◌, ◌<◌, length, get_or}
use Rattle.grid.specs.declared.place.Grid.{Grid}
use Rattle.basics.specs.Dimension.{choose}
use Rattle.pixels.specs.Colour.{component_at, colour_at}
use Rattle.band.specs.Band.{index_at, write_band, all_below}
use Rattle.band.specs.LookUp.{MapOf}

-- component d of a packed colour: the first in its lowest byte
unfoldable pub unpacked : ℕ → ℕ → ℕ
unpacked v d = choose d (v % 256) (v / 256 % 256) (v / 65536 % 256)

-- byte j of pixels that all have the packed colour v
unfoldable pub fill_at : ℕ → ℕ → ℕ
fill_at v j = unpacked v (j % 3)

-- byte j of a frame painted from packed colours
unfoldable pub packed_at : Grid → List ℕ → List ℕ → List ℕ → ℕ → ℕ
packed_at g map packed frame j = fill_at (get_or packed (index_at g map frame (j / 3)) 0) j

-- a part of a frame with n pixels from a first one onward painted from packed colours
abbrev pub painted_for : Grid → List ℕ → List ℕ → List ℕ → ℕ → ℕ → List ℕ
painted_for g map packed part first n = write_band (3 * first) (3 * n) (packed_at g map packed part) part

-- a palette's colours, packed, in a room of 256
pub record PackedPalette (palette packed : List ℕ) : Type 0 where
  pub room : length packed ≡ 256
  pub each : (k : ℕ) → k < length palette / 3
      → (d : ℕ) → unpacked (get_or packed k 0) d ≡ component_at (colour_at palette k) d

-- a map of an accepted grid, and a palette that has a colour for each of its entries
pub record PaletteFits (g : Grid) (map palette : List ℕ) : Type 0 where
  pub of_grid : MapOf g map
  pub some : 3 ≤ length palette
  pub few : length palette ≤ 768
  pub below : all_below (length palette / 3) map ≡ true
