-- `terminal::call::fill` meets its contract: after i entries i numbers are written.
-- Assumes nothing.
use Rattle.std.proofs.Common.{◌≡◌, refl, ap, ◌∙◌, arith}
use Rattle.terminal.specs.Nearest.{entries_in, nearest_of, nearest_at, numbers_for}
use Rattle.terminal.proofs.Calls.{written_more, written_all}
use Rattle.terminal.proofs.call.fill.Goals as goal

pub loop-i-init : goal.loop-i-init
loop-i-init c = record { front = λ k h. absurd (omega arith); rest = refl; long = refl }

pub loop-i-preserved : goal.loop-i-preserved
unfolding nearest_at
loop-i-preserved c =
    let l = c.loop-i in
    written_more _ _ l.i _ _ l.invariant (omega (arith, c.requires)) (c.closest.ensures ∙ ap nearest_of c.colour.ensures)

pub returns : goal.returns
unfolding numbers_for
returns c =
    let l = c.loop-i in
    let all : l.i ≡ entries_in c.args.palette.now = omega arith in
    written_all _ _ _ _ (rw all at l.invariant) c.requires
