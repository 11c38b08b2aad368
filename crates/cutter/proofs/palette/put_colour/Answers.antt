-- `cutter::palette::put_colour` meets its contract: three means, written where they stand.
-- Assumes nothing.
use Rattle.cutter.specs.Inner.{stats_colour}
use Rattle.cutter.proofs.Colours.{three_bytes}
use Rattle.cutter.proofs.palette.put_colour.Goals as goal

pub returns : goal.returns
unfolding stats_colour
returns c = rw (three_bytes _ _ _) cc
