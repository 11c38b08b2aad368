-- `terminal::planes::colours` meets its contract: the rule is tested once over the whole table.
-- Assumes nothing.
use mathlib.Core.Path.{refl}
use Rattle.basics.specs.Range.{list_from}
use Rattle.basics.specs.Dimension.{choose}
use Rattle.terminal.specs.Colours.{level_of, cube_level, grey_level, level_at, fixed_table}
use Rattle.terminal.proofs.planes.colours.Goals as goal

pub returns : goal.returns
unfolding fixed_table list_from level_at cube_level grey_level level_of choose
returns c = refl
