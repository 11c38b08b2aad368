-- `table::spans::Spans::of` meets its contract: what fills the list makes it a table of spans.
-- Assumes nothing.
use Rattle.table.proofs.Packed.{filled_table}
use Rattle.table.proofs.spans.Spans.of.Goals as goal

pub invariant_of-result : goal.invariant_of-result
invariant_of-result c = record { filled = rw c.fill_spans.ensures (filled_table c.requires _) }
