-- `grid::steps::strides` meets its contract: the loop fills the table from the front, one value after the other.
-- Assumes nothing.
use mathlib.Core.Path.{◌≡◌}
use Prim.Native.Nat.{◌≤◌, ◌-◌, ◌*◌}
use lib.ListN.{length}
use Rattle.grid.specs.Size.{bin_of}
use Rattle.basics.proofs.Range.{Filled}
use Rattle.grid.proofs.steps.strides.Given as goal

abbrev pub invariant-loop-c : goal.invariant-loop-c
invariant-loop-c l =
    (l.c ≤ 256) × (length l.out ≡ 256) × Filled l.out (λ k. bin_of l.shift k * l.stride) l.c

abbrev pub decreases-loop-c : goal.decreases-loop-c
decreases-loop-c l = 256 - l.c
