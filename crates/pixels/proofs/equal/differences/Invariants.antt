-- `pixels::equal::differences` meets its contract: the loop counts from the front, and 192 fits a u8.
-- Assumes nothing.
use mathlib.Core.Path.{◌≡◌}
use Prim.Native.Nat.{◌≤◌}
use Rattle.basics.specs.Range.{sum_from}
use Rattle.pixels.specs.Equal.{differs}
use Rattle.pixels.proofs.equal.differences.Given as goal

abbrev pub invariant-loop-k : goal.invariant-loop-k
invariant-loop-k l = (l.count ≤ l.k) × (l.count ≡ sum_from l.at l.k (differs l.bytes))
