-- `adder::steps::fill_part` meets its contract: the loop fills the part from its front, one value after the other.
-- Assumes nothing.
use Rattle.adder.proofs.StepTable.{Part}
use Rattle.adder.proofs.steps.fill_part.Given as goal

abbrev pub invariant-loop-c : goal.invariant-loop-c
invariant-loop-c l = Part l.s l.dimension l.c l.initial.table l.table
