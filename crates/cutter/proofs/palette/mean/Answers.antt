-- `cutter::palette::mean` meets its contract: a sum of at most 255·n has a mean of at most 255, and what that leaves is
-- below n.
-- Assumes nothing.
use mathlib.Core.Path.{refl}
use native.Mathlib.Omega.{arith}
use Rattle.cutter.specs.Palette.{mean_of}
use Rattle.cutter.proofs.Colours.{mean_byte, mean_left}
use Rattle.cutter.proofs.palette.mean.Goals as goal

pub overflow_cast-quotient : goal.overflow_cast-quotient
unfolding mean_of
overflow_cast-quotient c = omega (arith, mean_byte _ _ c.requires.0 c.requires.2)

pub overflow_cast-remainder : goal.overflow_cast-remainder
unfolding mean_of
overflow_cast-remainder c = omega (arith, mean_left c.args.sum c.args.weight c.requires.0, c.requires.1)

pub returns : goal.returns
unfolding mean_of
returns c = refl
