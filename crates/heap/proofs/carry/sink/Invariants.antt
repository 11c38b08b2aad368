-- `heap::carry::sink` meets its contract: where the hole ends, and the room then, are the same wherever the hole stands
-- on its way.
-- Assumes nothing.
use mathlib.Core.Path.{◌≡◌}
use Prim.Native.Nat.{◌-◌, ◌<◌}
use lib.ListN.{length}
use Rattle.heap.specs.Heap.{sink}
use Rattle.heap.specs.Boxes.{by_spread}
use Rattle.heap.proofs.carry.sink.Given as goal

abbrev pub invariant-loop-hole : goal.invariant-loop-hole
invariant-loop-hole g l = record {
  in_room : l.hole < 256;
  long : length l.room ≡ 256;
  same : (none : _) → sink by_spread none l.len l.initial.room l.len 0 ≡ sink by_spread none l.len l.room l.len l.hole;
}

abbrev pub decreases-loop-hole : goal.decreases-loop-hole
decreases-loop-hole g l = 256 - l.hole
