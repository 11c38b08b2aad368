-- `seluvava::sizes::seluvava_bins` meets its contract: by the grid, or 0 where it is refused.
-- Assumes nothing.
use Rattle.std.proofs.Common.{sym, ◌∙◌}
use Rattle.grid.proofs.Places.{chose}
use Rattle.seluvava.proofs.Calls.{bins_refused, bins_on}
use Rattle.seluvava.proofs.sizes.seluvava_bins.Goals as goal

pub bins-requires : goal.bins-requires
bins-requires c = (chose _ _ _ c.in-Some.g (sym c.in-Some.ensures)).accepted

pub returns-in-Some : goal.returns-in-Some
returns-in-Some c = c.bins.ensures ∙ sym (bins_on c.args.b1 c.args.b2 c.args.b3 (sym c.in-Some.ensures))

pub returns-in-None : goal.returns-in-None
returns-in-None c = sym (bins_refused c.args.b1 c.args.b2 c.args.b3 (sym c.in-None.ensures))
