-- `adder::blocks::add_each` meets its contract: after k colours the table holds what it held with the first k loaded.
-- Assumes nothing.
use Rattle.std.proofs.Common.{is_some}
use Rattle.grid.specs.Grid.{bins_of}
use Rattle.table.specs.Layout.{laid, laid_view}
use Rattle.table.proofs.Layouts.{HoldsIn}
use Rattle.adder.specs.Batch.{loaded}
use Rattle.adder.specs.Add.{given}
use Rattle.adder.specs.Inner.{part_of}
use Rattle.adder.proofs.blocks.add_each.Given as goal

abbrev pub invariant-loop-k : goal.invariant-loop-k
invariant-loop-k g l =
    let grid = l.steps.g in
    HoldsIn g.L.Layout.layout (bins_of grid) (laid g.L.Layout.layout l.small l.large)
    (loaded grid (part_of l.scale l.colours (is_some l.weights) (given l.weights) l.at l.k)
    (laid_view g.L.Layout.layout l.initial.small l.initial.large))
