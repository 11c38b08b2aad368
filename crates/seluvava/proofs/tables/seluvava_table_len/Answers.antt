-- `seluvava::tables::seluvava_table_len` meets its contract: by the grid, or 0 where it is refused.
-- Assumes nothing.
use Rattle.std.proofs.Common.{sym, ◌∙◌}
use Rattle.grid.proofs.Places.{chose}
use Rattle.seluvava.proofs.Calls.{len_refused, len_on}
use Rattle.seluvava.proofs.tables.seluvava_table_len.Goals as goal

pub table_len-requires : goal.table_len-requires
table_len-requires c = (chose _ _ _ c.in-Some.g (sym c.in-Some.ensures)).accepted

pub returns-in-Some : goal.returns-in-Some
returns-in-Some c = c.table_len.ensures ∙ sym (len_on c.args.b1 c.args.b2 c.args.b3 (sym c.in-Some.ensures))

pub returns-in-None : goal.returns-in-None
returns-in-None c = sym (len_refused c.args.b1 c.args.b2 c.args.b3 (sym c.in-None.ensures))
