-- `grid::place::Grid::rgb` meets its contract: number by number.
-- Assumes nothing.
use mathlib.Core.Path.{refl}
use Rattle.grid.specs.Grid.{rgb_grid}
use Rattle.grid.proofs.place.Grid.rgb.Goals as goal

pub returns : goal.returns
unfolding rgb_grid
returns c = refl
