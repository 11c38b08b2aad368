-- What the crate's own functions are told. Definitions only.
use Rattle.std.specs.Prelude.{◌≡◌, List, ℕ, ◌+◌}
use Rattle.basics.specs.Range.{list_from}
use Rattle.terminal.specs.Colours.{level_at}

-- component d of each colour, in the order of their numbers
unfoldable pub plane_of : ℕ → List ℕ
plane_of d = list_from 0 240 (λ k. level_at (16 + k) d)

-- the three planes
pub record Planes (reds greens blues : List ℕ) : Type 0 where
  pub red : reds ≡ plane_of 0
  pub green : greens ≡ plane_of 1
  pub blue : blues ≡ plane_of 2
