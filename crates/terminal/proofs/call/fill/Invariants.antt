-- `terminal::call::fill` meets its contract: after i entries i numbers are written.
-- Assumes nothing.
use Rattle.terminal.specs.Nearest.{nearest_at}
use Rattle.terminal.proofs.Calls.{Written}
use Rattle.terminal.proofs.call.fill.Given as goal

abbrev pub invariant-loop-i : goal.invariant-loop-i
invariant-loop-i l = Written (nearest_at l.palette) l.initial.answers l.i l.answers
