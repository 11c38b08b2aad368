-- A plan with every weight multiplied by a power of two (Rules, Doubling). Definitions only.
use Rattle.std.specs.Prelude.{true, ℕ, ◌/◌, ◌^◌, length}
use Rattle.adder.specs.Batch.{scaled_weights}
use Rattle.loader.specs.Plan.{Batch, Plan, empty, load, merge}

-- a batch with each weight multiplied, so with weights even where it had none: a colour without one weighs 1
unfoldable pub doubled_batch : ℕ → Batch → Batch
doubled_batch e b =
    record {
      colours = b.colours;
      weighted = true;
      weights = scaled_weights (2 ^ e) (length b.colours / 3) b.weighted b.weights;
    }

-- "If every weight is multiplied"
unfoldable pub doubled_plan : ℕ → Plan → Plan
doubled_plan e empty = empty
doubled_plan e (load p b) = load (doubled_plan e p) (doubled_batch e b)
doubled_plan e (merge p q) = merge (doubled_plan e p) (doubled_plan e q)
