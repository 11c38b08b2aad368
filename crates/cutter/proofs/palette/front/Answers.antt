-- `cutter::palette::front` meets its contract: a third of the length is below the number of boxes just where the
-- length is below three bytes each.
-- Assumes nothing.
use Rattle.std.proofs.Common.{arith}
use Rattle.cutter.specs.Palette.{front_of}
use Rattle.cutter.proofs.palette.front.Goals as goal

pub returns-then-palette-boxes : goal.returns-then-palette-boxes
unfolding front_of
returns-then-palette-boxes c = grind arith

pub returns : goal.returns
unfolding front_of
returns c = grind arith
