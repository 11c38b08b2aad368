-- `heap::carry::climb` meets its contract: what is to enter at the hole is the same wherever the hole stands.
-- Assumes nothing.
use mathlib.Core.Path.{◌≡◌}
use Prim.Native.Nat.{◌<◌}
use lib.ListN.{length}
use Rattle.heap.specs.Heap.{enter}
use Rattle.heap.specs.Boxes.{by_spread}
use Rattle.heap.proofs.carry.climb.Given as goal

abbrev pub invariant-loop-p : goal.invariant-loop-p
invariant-loop-p g l = record {
  in_room : l.p < 256;
  long : length l.room ≡ 256;
  same : (none : _) → enter by_spread none (record { room = l.initial.room; hole = l.at }) l.x
      ≡ enter by_spread none (record { room = l.room; hole = l.p }) l.x;
}

abbrev pub decreases-loop-p : goal.decreases-loop-p
decreases-loop-p g l = l.p
