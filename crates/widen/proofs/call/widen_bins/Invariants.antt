-- `widen::call::widen_bins` meets its contract: after p places the table holds the first p cells of the narrow one.
-- Assumes nothing.
use Rattle.grid.specs.Grid.{bins_of}
use Rattle.table.specs.Table.{view_of}
use Rattle.table.specs.Narrow.{narrow_table, narrow_view}
use Rattle.table.proofs.Tables.{Holds}
use Rattle.widen.proofs.Writing.{partly}
use Rattle.widen.proofs.call.widen_bins.Given as goal

abbrev pub invariant-loop-p : goal.invariant-loop-p
invariant-loop-p l =
    Holds (bins_of l.fn.g) l.table
    (partly l.p (view_of l.initial.table) (narrow_view (narrow_table l.sums l.squares)))
