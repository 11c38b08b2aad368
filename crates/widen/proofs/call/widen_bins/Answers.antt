-- `widen::call::widen_bins` meets its contract: after p places the table holds the first p cells of the narrow one.
-- Assumes nothing.
use mathlib.Core.Path.{◌≡◌, ap, ◌∙◌}
use native.Mathlib.Omega.{arith}
use lib.Dec.{lit≤}
use Rattle.grid.specs.Grid.{bins_of}
use Rattle.table.specs.declared.cell.Cell.{Cell}
use Rattle.table.specs.Layouts.{Narrow}
use Rattle.table.specs.Cell.{number_of}
use Rattle.table.specs.Table.{view_of}
use Rattle.table.specs.Narrow.{narrow_table, narrow_view}
use Rattle.table.proofs.Cells.{number_cell}
use Rattle.table.proofs.Tables.{has_cell}
use Rattle.table.proofs.Layouts.{cell_in}
use Rattle.table.proofs.Soundness.{sound_held}
use Rattle.widen.specs.Widen.{widened}
use Rattle.widen.proofs.Writing.{none_written, one_written, all_written}
use Rattle.widen.proofs.call.widen_bins.Goals as goal

pub loop-p-init : goal.loop-p-init
loop-p-init c = none_written _ _ _ c.requires.list

pub cell-c-requires : goal.cell-c-requires
cell-c-requires c =
    cell_in Narrow (narrow_table c.args.sums.now c.args.squares.now) _ c.requires.table.lent c.loop-p.p
    (omega (arith, c.bins-p-end.ensures))

pub put_at-requires : goal.put_at-requires
put_at-requires c =
    let l = c.loop-p in
    let v = narrow_view (narrow_table c.args.sums.now c.args.squares.now) in (
      has_cell l.invariant.lent l.p (omega (arith, c.bins-p-end.ensures)),
      sound_held {v = v} c.requires.table.accepted (record { holds = c.requires.is_sound }) l.p
          (omega (arith, c.bins-p-end.ensures)) (lit≤ tt)
          (λ j k. ap (λ (x : Cell). number_of x j) c.cell-c.ensures ∙ number_cell (v l.p) j k),
    )

pub loop-p-preserved : goal.loop-p-preserved
loop-p-preserved c =
    let l = c.loop-p in
    rw c.put_at.ensures
    (one_written (view_of c.args.table.now) (narrow_view (narrow_table c.args.sums.now c.args.squares.now)) l.p
    l.invariant (omega (arith, c.bins-p-end.ensures)) c.cell-c.ensures)

pub returns : goal.returns
unfolding widened
returns c =
    let l = c.loop-p in
    let all : l.p ≡ bins_of c.args.g = omega (arith, c.bins-p-end.ensures) in
    all_written (view_of c.args.table.now) (narrow_view (narrow_table c.args.sums.now c.args.squares.now))
    (rw all at l.invariant)
