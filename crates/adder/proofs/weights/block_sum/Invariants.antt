-- `adder::weights::block_sum` meets its contract: the sum so far is that of the weights passed, each below 2^32.
-- Assumes nothing.
use Rattle.std.proofs.Common.{◌≡◌, ◌≤◌, ◌*◌}
use Rattle.adder.specs.Inner.{weights_from}
use Rattle.adder.proofs.weights.block_sum.Given as goal

abbrev pub invariant-loop-w : goal.invariant-loop-w
invariant-loop-w l = (l.sum ≡ weights_from l.weights 0 l.w-index) × (l.sum ≤ l.w-index * 4294967295)
