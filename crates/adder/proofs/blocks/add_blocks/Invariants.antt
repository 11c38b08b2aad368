-- `adder::blocks::add_blocks` meets its contract: after i colours the table holds what it held with the first i loaded.
-- Assumes nothing.
use Rattle.std.proofs.Common.{◌≤◌, ◌-◌, is_some}
use Rattle.grid.specs.Grid.{bins_of}
use Rattle.table.specs.Layout.{laid, laid_view}
use Rattle.table.proofs.Layouts.{HoldsIn}
use Rattle.adder.specs.Batch.{loaded}
use Rattle.adder.specs.Add.{given}
use Rattle.adder.specs.Inner.{part_of}
use Rattle.adder.proofs.blocks.add_blocks.Given as goal

abbrev pub invariant-loop-i : goal.invariant-loop-i
invariant-loop-i g l =
    let grid = l.steps.g in
    (l.i ≤ l.n)
    × HoldsIn g.L.Layout.layout (bins_of grid) (laid g.L.Layout.layout l.small l.large)
    (loaded grid (part_of l.scale l.colours (is_some l.weights) (given l.weights) 0 l.i)
    (laid_view g.L.Layout.layout l.initial.small l.initial.large))

abbrev pub decreases-loop-i : goal.decreases-loop-i
decreases-loop-i g l = l.n - l.i
