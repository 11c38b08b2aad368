-- `table::spans::fill_spans` meets its contract: the loop fills the list from its front, two numbers a bin.
-- Assumes nothing.
use Rattle.table.proofs.Packed.{SpansTo}
use Rattle.table.proofs.spans.fill_spans.Given as goal

abbrev pub invariant-loop-b : goal.invariant-loop-b
invariant-loop-b l = SpansTo l.g l.initial.spans l.b l.spans
