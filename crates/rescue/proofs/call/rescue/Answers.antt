-- `rescue::call::rescue` meets its contract: what it calls may be called there. Each end follows from what it tests, by
-- the definitions that its attribute names.
-- Assumes nothing.
use mathlib.Core.Path.{sym, ◌∙◌}
use native.Mathlib.Omega.{arith}
use Rattle.basics.proofs.Exits.{there}
use Rattle.grid.specs.Grid.{Accepted}
use Rattle.grid.proofs.Places.{chose}
use Rattle.table.proofs.Tables.{sized_by}
use Rattle.rescue.proofs.call.rescue.Goals.{In_ok-g}
use Rattle.rescue.proofs.call.rescue.Goals as goal

-- the grid, once it is accepted
accepted : (k : In_ok-g) → Accepted k.in_ok-g.g
accepted k =
    (chose _ _ _ k.in_ok-g.g
    (sym k.grid_of.ensures ∙ there k.grid_of.result _ k.in_ok-g.ensures.value)).accepted

pub table_len-requires : goal.table_len-requires
table_len-requires c = accepted c

pub bins-requires : goal.bins-requires
bins-requires c = accepted (goal.at-bins-requires c).In_ok-g

pub walk-requires : goal.walk-requires
walk-requires c =
    record {
      table = record { accepted = accepted (goal.at-walk-requires c).In_ok-g; lent = sized_by (omega arith) };
      list = omega arith;
    }
