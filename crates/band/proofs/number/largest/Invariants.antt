-- `band::number::largest` meets its contract: after some entries it has the largest of them.
-- Assumes nothing.
use Rattle.band.proofs.Below.{Tops}
use Rattle.band.proofs.number.largest.Given as goal

abbrev pub invariant-loop-entry : goal.invariant-loop-entry
invariant-loop-entry l = Tops l.map l.entry-index l.top
