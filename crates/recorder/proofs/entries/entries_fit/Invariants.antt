-- `recorder::entries::entries_fit` meets its contract: what is left of the weights and the colours of the entries
-- passed are together all weights.
-- Assumes nothing.
use mathlib.Core.Path.{◌≡◌}
use mathlib.Core.Bool.{true}
use Prim.Native.Nat.{ℕ, ◌+◌, ◌<◌}
use Rattle.recorder.specs.Replay.{colours_before, is_entry}
use Rattle.recorder.proofs.entries.entries_fit.Given as goal

abbrev pub invariant-loop-i : goal.invariant-loop-i
invariant-loop-i l =
    record {
      entries : (k : ℕ) → k < l.i → is_entry l.entries k ≡ true;
      counts : l.left + colours_before l.entries l.i ≡ l.weights;
    }
