-- `ppm::fields::gap` meets its contract, byte by byte.
-- Assumes nothing.
use Rattle.ppm.proofs.Gaps.{GapTo}
use Rattle.ppm.proofs.fields.gap.Given as goal

abbrev pub invariant-loop-p : goal.invariant-loop-p
invariant-loop-p l = GapTo l.file l.at l.within l.blank l.p
