-- `adder::steps::Steps::look_up` meets its contract: the three numbers add up to the place and the squares, which are
-- small.
-- Assumes nothing.
use Rattle.std.proofs.Common.{arith}
use Rattle.grid.proofs.Places.{Bytes}
use Rattle.adder.proofs.StepTable.{looked_up, place_small, squares_small}
use Rattle.adder.proofs.steps.Steps.look_up.Goals.{Start}
use Rattle.adder.proofs.steps.Steps.look_up.Goals as goal

is_bytes : (s : Start) → Bytes s.args.x
is_bytes s = record { one = omega arith; two = omega arith; three = omega arith }

pub overflow_add-result : goal.overflow_add-result
overflow_add-result c =
    let t = c.args.self.now.filled in
    let b = is_bytes (goal.at-overflow_add-result c).Start in
    rw (c.from-i1.ensures, c.from-i2.ensures)
    (omega (arith, looked_up t b, place_small t b, squares_small b))

pub overflow_add-result-2 : goal.overflow_add-result-2
overflow_add-result-2 c =
    let t = c.args.self.now.filled in
    let b = is_bytes (goal.at-overflow_add-result-2 c).Start in
    rw (c.from-i1.ensures, c.from-i2.ensures, c.from-i3.ensures)
    (omega (arith, looked_up t b, place_small t b, squares_small b))

pub returns : goal.returns
returns c =
    rw (c.from-i1.ensures, c.from-i2.ensures, c.from-i3.ensures)
    (looked_up c.args.self.now.filled (is_bytes (goal.at-returns c).Start))
