-- `adder::weights::batch_total` meets its contract: without weights each colour weighs the scale.
-- Assumes nothing.
-- the colours fit
use Rattle.std.proofs.Common.{◌+◌, ◌*◌, ◌≤◌, sym, arith}
use Rattle.adder.proofs.Totals.{held_within, left_passed, left_fits}
use Rattle.adder.proofs.weights.batch_total.Goals.{Else-most-had}
use Rattle.adder.proofs.weights.batch_total.Goals as goal

fits : (c : Else-most-had) → let a = c.args in a.had + a.scale * a.n ≤ a.most
fits c = left_fits c.args.most c.args.had c.args.scale c.args.n c.requires.0 c.requires.2.some (omega arith)

pub returns-in-Some : goal.returns-in-Some
returns-in-Some c = rw c.in-Some.is c.weights_total.ensures

pub returns-then-most-had : goal.returns-then-most-had
returns-then-most-had c =
    rw c.in_default.is
    (left_passed c.args.most c.args.had c.args.scale c.args.n c.requires.0 c.requires.2.some (omega arith))

pub overflow_mul-result : goal.overflow_mul-result
overflow_mul-result c = omega (arith, fits c)

pub overflow_add-result : goal.overflow_add-result
overflow_add-result c = omega (arith, fits c)

pub returns : goal.returns
returns c = rw c.in_default.is (sym (held_within c.args.most _ (fits c)))
