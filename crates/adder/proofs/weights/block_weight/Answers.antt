-- `adder::weights::block_weight` meets its contract: the sum of the weights, or 1 for each colour, multiplied.
-- Assumes nothing.
use Rattle.std.proofs.Common.{◌≤◌, ◌+◌, ◌*◌, ℕ, length, refl, ap, ◌∙◌, arith}
use Rattle.adder.proofs.Loading.{times_high}
use Rattle.adder.proofs.Totals.{all_slice}
use Rattle.adder.proofs.weights.block_weight.Goals.{In-Some}
use Rattle.adder.proofs.weights.block_weight.Goals as goal

there : (k : In-Some) → k.args.i + k.args.n ≤ length k.in-Some.weights.now
there k = let r = rw k.in-Some.is at k.requires.2 in r refl

pub overflow_mul-result : goal.overflow_mul-result
overflow_mul-result c = omega (arith, times_high 4096 17592186040320 c.args.scale c.block_sum.result c.requires.1 c.block_sum.ensures.small)

pub returns-in-Some : goal.returns-in-Some
returns-in-Some c =
    let all = there (goal.at-returns-in-Some c).In-Some in
    let a = c.args in
    rw c.in-Some.is
    (ap (λ (x : ℕ). a.scale * x)
    (c.block_sum.ensures.sum ∙ all_slice c.in-Some.weights.now a.i _ a.n all (omega (arith, all))))

pub overflow_mul-result-in-None : goal.overflow_mul-result-in-None
overflow_mul-result-in-None c = omega (arith, times_high 4096 64 c.args.scale c.args.n c.requires.1 c.requires.0)

pub returns-in-None : goal.returns-in-None
returns-in-None c = rw c.in-None.is refl
