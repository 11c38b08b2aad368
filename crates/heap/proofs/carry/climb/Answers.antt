-- `heap::carry::climb` meets its contract: what is to enter at the hole is the same wherever the hole stands.
-- Assumes nothing.
use mathlib.Core.Path.{sym, ap, ◌∙◌}
use native.Mathlib.Omega.{arith}
use lib.ListN.{length-set, set}
use Prim.Native.Nat.{◌-◌, ◌/◌}
use Rattle.std.proofs.lemmas.List.{get_or_default}
use Rattle.heap.specs.Heap.{enter}
use Rattle.heap.specs.Boxes.{by_spread}
use Rattle.heap.proofs.Steps.{enter_on, enter_stays, enter_ends}
use Rattle.heap.proofs.carry.climb.Goals.{else-loop-p-test, then-loop-p-test+else-room-parent}
use Rattle.heap.proofs.carry.climb.Goals as goal

pub loop-p-preserved : goal.loop-p-preserved
loop-p-preserved g c =
    let l = c.loop-p in
    let long = l.invariant.long in record {
      in_room = omega arith;
      long = simp length-set l.invariant.long;
      same = λ none.
          let at = λ (d : _). get_or_default l.room ((l.p - 1) / 2) none d (omega (arith, long)) in
          l.invariant.same none
          ∙ enter_on by_spread none _ l.p _ (omega (arith, long)) (omega arith) (rw (at c.index-room-parent.result) c.if-room-parent.true)
          ∙ ap (λ y. enter by_spread none (record { room = set l.room l.p y; hole = (l.p - 1) / 2 }) c.args.x)
          (at c.index-room-parent-then-room-parent.result);
    }

pub returns-clause-entered : goal.returns-clause-entered
returns-clause-entered g c = λ none.
    let on = c.loop-p.invariant.same none in
    let long = c.loop-p.invariant.long in
    elim c.loop-p-test.branch [
      | else-loop-p-test w ↦ sym (on ∙ enter_ends by_spread none _ c.loop-p.p _ (omega (arith, long)) (omega arith))
      | then-loop-p-test+else-room-parent w ↦
          sym (on ∙ enter_stays by_spread none _ c.loop-p.p _ (omega (arith, long)) (omega arith)
          (rw (get_or_default c.loop-p.room ((c.loop-p.p - 1) / 2) none w.index-room-parent.result (omega (arith, long))) w.if-room-parent.false))
    ]
