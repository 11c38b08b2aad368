-- `ppm::fields::number` meets its contract, digit by digit.
-- Assumes nothing.
use Rattle.ppm.proofs.Numbers.{NumberTo}
use Rattle.ppm.proofs.fields.number.Given as goal

abbrev pub invariant-loop-p : goal.invariant-loop-p
invariant-loop-p l = NumberTo l.file l.at l.value l.p
