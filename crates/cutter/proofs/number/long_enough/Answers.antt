-- `cutter::number::long_enough` meets its contract: length by length.
-- Assumes nothing.
use Rattle.std.proofs.Common.{arith}
use Rattle.cutter.specs.Cut.{long_enough}
use Rattle.cutter.proofs.number.long_enough.Goals as goal

pub returns-then-remainders-k : goal.returns-then-remainders-k
unfolding long_enough
returns-then-remainders-k c = grind arith

pub returns-else-remainders-k : goal.returns-else-remainders-k
unfolding long_enough
returns-else-remainders-k c = grind arith
