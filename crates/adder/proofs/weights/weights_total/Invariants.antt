-- `adder::weights::weights_total` meets its contract: the total so far is within the limit, so a block more still fits
-- a u64, and with the weights that are left it is that of all.
-- Assumes nothing.
use Rattle.std.proofs.Common.{◌≡◌, ◌+◌, ◌*◌, ◌≤◌}
use Rattle.std.specs.Slice.Iter.{chunks_rest, chunks_size}
use Rattle.adder.specs.Inner.{all_weights}
use Rattle.adder.proofs.weights.weights_total.Given as goal

abbrev pub invariant-loop-block : goal.invariant-loop-block
invariant-loop-block l =
    (chunks_size l.block-iterator ≡ 4096) × (l.total ≤ l.most)
    × (l.total + l.scale * all_weights (chunks_rest l.block-iterator) ≡ l.had + l.scale * all_weights l.fn.weights)
