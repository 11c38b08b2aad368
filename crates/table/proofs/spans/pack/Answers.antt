-- `table::spans::pack` meets its contract: both parts are small.
-- Assumes nothing.
use Rattle.std.proofs.Common.{rules}
use Rattle.table.specs.Spans.{packed_span}
use Rattle.table.proofs.spans.pack.Goals as goal

pub returns : goal.returns
unfolding packed_span
returns c = search rules
