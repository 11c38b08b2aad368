-- `terminal::planes::plane` meets its contract: the loop fills the plane from the front.
-- Assumes nothing.
use Rattle.std.proofs.Common.{◌≡◌, ◌+◌, length}
use Rattle.basics.proofs.Range.{Filled}
use Rattle.terminal.specs.Colours.{level_at}
use Rattle.terminal.proofs.planes.plane.Given as goal

abbrev pub invariant-loop-k : goal.invariant-loop-k
invariant-loop-k l = (length l.out ≡ 240) × Filled l.out (λ k. level_at (16 + k) l.d) l.k
