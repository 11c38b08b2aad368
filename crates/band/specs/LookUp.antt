-- What indices are looked up by. Definitions only.
use Rattle.std.specs.Prelude.{◌≡◌, List, ℕ, length}
use Rattle.grid.specs.declared.place.Grid.{Grid}
use Rattle.grid.specs.Grid.{bins_of, steps_of, Accepted}

-- a map of an accepted grid: "map exactly bins"
pub record MapOf (g : Grid) (map : List ℕ) : Type 0 where
  pub accepted : Accepted g
  pub lent : length map ≡ bins_of g

-- what the look-up asks for: a map of an accepted grid, and the steps of its first two dimensions
pub record Lookup (g : Grid) (t1 t2 map : List ℕ) : Type 0 where
  pub of_grid : MapOf g map
  pub one : t1 ≡ steps_of g 0
  pub two : t2 ≡ steps_of g 1
