-- `adder::weights::block_sum` meets its contract: the sum so far is that of the weights passed, each below 2^32.
-- Assumes nothing.
use Rattle.std.proofs.Common.{refl, sym, ◌∙◌, ◌+◌, arith}
use Rattle.basics.specs.Range.{sum_from}
use Rattle.adder.proofs.Totals.{weights_more}
use Rattle.adder.proofs.weights.block_sum.Goals as goal

pub loop-w-init : goal.loop-w-init
unfolding sum_from
loop-w-init c = (refl, omega arith)

pub loop-w-preserved : goal.loop-w-preserved
loop-w-preserved c =
    let l = c.loop-w in
    ((λ i. l.invariant.0 i + c.from-sum.ensures i) ∙ sym (weights_more c.args.weights.now l.w-index), omega arith)
