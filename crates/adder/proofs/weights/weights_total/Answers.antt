-- `adder::weights::weights_total` meets its contract: the total so far is within the limit, so a block more still fits
-- a u64, and with the weights that are left it is that of all.
-- Assumes nothing.
use Rattle.std.specs.Prelude.{None, Some}
use Rattle.std.proofs.Common.{◌≡◌, ◌+◌, ◌*◌, ◌≤◌, ◌<◌, ◌∙◌, ℕ, List, Fits, w64, sym, ap, mul-zero, arith}
use Rattle.std.proofs.lemmas.List.{nil_from_length}
use Rattle.std.specs.Slice.Iter.{chunks_rest}
use Rattle.basics.specs.Range.{sum_from}
use Rattle.adder.specs.Inner.{all_weights, held_to}
use Rattle.adder.proofs.Totals.{held_within, held_past, block_high, block_more}
use Rattle.adder.proofs.weights.weights_total.Goals.{After-block_sum, In-None}
use Rattle.adder.proofs.weights.weights_total.Goals as goal

-- what the sum of a block is multiplied by is the scale, whatever it is called
module _ (k : After-block_sum) {s : ℕ} (e : s ≡ k.args.scale) where
  high : s * k.block_sum.result ≤ 72057594021150720
  high = rw e (block_high k.args.scale k.block_sum.result k.requires.2 k.block_sum.ensures.small)

  fits_mul : Fits w64 (s * k.block_sum.result)
  fits_mul = omega (arith, high)

  fits_add : Fits w64 (k.loop-block.total + s * k.block_sum.result)
  fits_add = omega (arith, high)

  -- with what is left after the block
  more : (k.loop-block.total + s * k.block_sum.result) + k.args.scale * all_weights (chunks_rest k.next.new.self)
      ≡ k.args.had + k.args.scale * all_weights k.args.weights.now
  more =
      rw e
      (block_more k.args.scale k.loop-block.total (k.args.had + k.args.scale * all_weights k.args.weights.now)
      (chunks_rest k.loop-block.block-iterator) k.in-Some.block.now (chunks_rest k.next.new.self)
      k.loop-block.invariant.2 k.in-Some.ensures.steps.1.0 k.block_sum.ensures.sum)

  past : k.args.most < k.loop-block.total + s * k.block_sum.result
      → None ≡ held_to k.args.most (k.args.had + k.args.scale * all_weights k.args.weights.now)
  past l = sym (held_past k.args.most _ (omega (arith, l, more)))

-- at the end nothing is left
all : (k : In-None) → k.loop-block.total ≡ k.args.had + k.args.scale * all_weights k.args.weights.now
unfolding sum_from
all k =
    let none = nil_from_length _ k.in-None.ensures.steps.1.0 in
    omega (
      arith,
      k.loop-block.invariant.2,
      ap (λ (w : List ℕ). k.args.scale * all_weights w) none,
      mul-zero k.args.scale,
    )

pub overflow_mul-total : goal.overflow_mul-total
overflow_mul-total c = fits_mul (goal.at-overflow_mul-total c).After-block_sum (grind arith)

pub overflow_add-total : goal.overflow_add-total
overflow_add-total c = fits_add (goal.at-overflow_add-total c).After-block_sum (grind arith)

pub returns-then-most-total : goal.returns-then-most-total
returns-then-most-total c =
    past (goal.at-returns-then-most-total c).After-block_sum (grind arith) c.if-most-total.true

pub loop-block-preserved : goal.loop-block-preserved
loop-block-preserved c =
    let k = (goal.at-loop-block-preserved c).After-block_sum in
    (c.in-Some.ensures.steps.0 ∙ c.loop-block.invariant.0, omega arith, more k (grind arith))

pub returns : goal.returns
returns c = ap Some (all c) ∙ sym (held_within c.args.most _ (omega (arith, all c)))
