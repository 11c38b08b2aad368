-- `cutter::palette::put_remainders` meets its contract: three remainders, written where they stand.
-- Assumes nothing.
use Rattle.cutter.specs.Inner.{stats_remainders}
use Rattle.cutter.proofs.Colours.{three_numbers}
use Rattle.cutter.proofs.palette.put_remainders.Goals as goal

pub returns : goal.returns
unfolding stats_remainders
returns c = rw (three_numbers _ _ _ _ _) cc
