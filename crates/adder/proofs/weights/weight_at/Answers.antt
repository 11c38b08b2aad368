-- `adder::weights::weight_at` meets its contract: a weight where weights are given, else 1, multiplied.
-- Assumes nothing.
use Rattle.std.proofs.Common.{get_or, mul-one, sym, refl, arith}
use Rattle.adder.proofs.Loading.{times_high}
use Rattle.adder.proofs.weights.weight_at.Goals as goal

pub bounds-weights-i : goal.bounds-weights-i
bounds-weights-i c = let r = rw c.in-Some.is at c.requires.1 in r refl

pub overflow_mul-result : goal.overflow_mul-result
overflow_mul-result c =
    rw c.from.ensures
    (omega (
      arith,
      times_high 4096 4294967295 c.args.scale (get_or c.in-Some.weights.now c.args.i 0) c.requires.0 (omega arith),
    ))

pub returns-in-Some : goal.returns-in-Some
returns-in-Some c = rw (c.in-Some.is, c.from.ensures) refl

pub returns-in-None : goal.returns-in-None
returns-in-None c = rw c.in-None.is (sym (mul-one c.args.scale))
