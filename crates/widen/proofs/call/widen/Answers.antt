-- `widen::call::widen` meets its contract: what it calls may be called there. Each end follows from what it tests, by
-- the definitions that its attribute names.
-- Assumes nothing.
use mathlib.Core.Path.{sym, ◌∙◌}
use native.Mathlib.Omega.{arith}
use Rattle.basics.proofs.Exits.{there}
use Rattle.grid.specs.Grid.{Accepted}
use Rattle.grid.proofs.Places.{chose}
use Rattle.table.proofs.Layouts.{lengths_are}
use Rattle.table.proofs.Total.{total_says}
use Rattle.table.proofs.NarrowTables.{test_narrow}
use Rattle.table.proofs.Tables.{sized_by}
use Rattle.widen.proofs.call.widen.Goals.{In_ok-g}
use Rattle.widen.proofs.call.widen.Goals as goal

-- the grid, once it is accepted
accepted : (k : In_ok-g) → Accepted k.in_ok-g.g
accepted k =
    (chose _ _ _ k.in_ok-g.g
    (sym k.grid_of.ensures ∙ there k.grid_of.result _ k.in_ok-g.ensures.value)).accepted

pub fits-requires : goal.fits-requires
fits-requires c = accepted c

pub table_len-requires : goal.table_len-requires
table_len-requires c = accepted (goal.at-table_len-requires c).In_ok-g

pub sound_total-requires : goal.sound_total-requires
sound_total-requires c =
    record {
      accepted = accepted (goal.at-sound_total-requires c).In_ok-g;
      lent = test_narrow (grind (arith, lengths_are));
    }

pub widen_bins-requires : goal.widen_bins-requires
widen_bins-requires c =
    record {
      table =
          record {
            accepted = accepted (goal.at-widen_bins-requires c).In_ok-g;
            lent = test_narrow (grind (arith, lengths_are));
          };
      list = sized_by (omega arith);
      is_sound = grind (arith, total_says);
    }
