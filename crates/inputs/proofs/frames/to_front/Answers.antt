-- `inputs::frames::to_front` meets its contract.
-- Assumes nothing.
use Rattle.std.proofs.Common.{refl, ◌∙◌, ap, drop, take, ◌++◌, zero-add, ◌-◌, ℕ}
use Rattle.inputs.specs.Frames.{moved_up}
use Rattle.inputs.proofs.frames.to_front.Goals as goal

pub returns : goal.returns
unfolding moved_up
returns c =
    let a = c.args in
    let rest = λ (k : ℕ). take (a.filled - a.from) (drop a.from a.space.now) ++ drop k a.space.now in
    record { number = refl; later = c.copy_within.ensures.after ∙ ap rest (zero-add (a.filled - a.from)) }
