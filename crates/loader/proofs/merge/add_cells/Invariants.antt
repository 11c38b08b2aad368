-- `loader::merge::add_cells` meets its contract: after p places the table holds its first p cells with those of the
-- second added.
-- Assumes nothing.
use Rattle.grid.specs.Grid.{bins_of}
use Rattle.table.specs.Layout.{laid, laid_view}
use Rattle.table.proofs.Layouts.{HoldsIn}
use Rattle.loader.proofs.Merging.{partly}
use Rattle.loader.proofs.merge.add_cells.Given as goal

abbrev pub invariant-loop-p : goal.invariant-loop-p
invariant-loop-p g l =
    let layout = g.L.Layout.layout in
    HoldsIn layout (bins_of l.fn.g) (laid layout l.small l.large)
    (partly l.p (laid_view layout l.initial.small l.initial.large) (laid_view layout l.smallsecond l.largesecond))
