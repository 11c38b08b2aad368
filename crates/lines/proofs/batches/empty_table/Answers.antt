-- `lines::batches::empty_table` meets its contract: it is as many zeros as an empty table has.
-- Assumes nothing.
use mathlib.Core.Path.{sym}
use Prim.Native.Nat.{◌*◌}
use Rattle.table.proofs.Tables.{wide_empty}
use Rattle.lines.specs.Listing.{empty_table}
use Rattle.lines.proofs.batches.empty_table.Goals as goal

pub returns : goal.returns
unfolding empty_table
returns c = sym (wide_empty (8 * 8 * 8))
