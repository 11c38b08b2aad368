-- `terminal::closest::Planes::closest` meets its contract: after k turns the smallest key of the first k numbers is kept.
-- Assumes nothing.
use Rattle.std.proofs.Common.{◌≡◌, ◌-◌}
use Rattle.terminal.specs.Nearest.{distance_of, least_from}
use Rattle.terminal.proofs.Lowest.{key_of}
use Rattle.terminal.proofs.closest.Planes.closest.Given as goal

abbrev pub invariant-loop-k : goal.invariant-loop-k
invariant-loop-k l = l.least ≡ key_of 16 (distance_of l.x) (least_from 16 (l.k - 1) (distance_of l.x))
