-- `terminal::closest::Planes::of_table` meets its contract: each plane has its own component.
-- Assumes nothing.
use Rattle.terminal.proofs.closest.Planes.of_table.Goals as goal

pub invariant_of-result : goal.invariant_of-result
invariant_of-result c = record {
  filled = record { red = c.plane.ensures; green = c.plane-2.ensures; blue = c.plane-3.ensures };
}
