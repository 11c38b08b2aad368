-- `terminal::planes::plane` meets its contract: the loop fills the plane from the front.
-- Assumes nothing.
use Rattle.std.proofs.Common.{refl, ap, ◌∙◌, List, ℕ, ◌+◌, ◌*◌, arith, get_or, length-set}
use Rattle.basics.proofs.Range.{filled_more, list_is}
use Rattle.terminal.specs.Inner.{plane_of}
use Rattle.terminal.proofs.Laws.{table_at}
use Rattle.terminal.proofs.planes.plane.Goals as goal

pub loop-k-init : goal.loop-k-init
loop-k-init c = (refl, λ k h. absurd (omega arith))

pub loop-k-preserved : goal.loop-k-preserved
loop-k-preserved c =
    let d = c.args.d in
    let l = c.loop-k in (
      simp length-set l.invariant.0,
      filled_more l.out _ l.k _ (omega arith)
          (ap (λ (t : List ℕ). get_or t (3 * l.k + d) 0) c.requires.0 ∙ table_at l.k d (omega arith) c.requires.1)
          l.invariant.1,
    )

pub returns : goal.returns
unfolding plane_of
returns c =
    let l = c.loop-k in
    list_is 240 _ l.out 0 l.invariant.0 (λ k h. l.invariant.1 k (omega arith))
