-- `heap::carry::sink` meets its contract: where the hole ends, and the room then, are the same wherever the hole stands
-- on its way.
-- Assumes nothing.
use mathlib.Core.Path.{sym, ap, ◌∙◌}
use Prim.Native.Nat.{◌+◌, ◌*◌}
use native.Mathlib.Omega.{arith}
use lib.ListN.{length-set, set}
use Rattle.std.proofs.lemmas.List.{get_or_default}
use Rattle.heap.specs.Heap.{item, sink}
use Rattle.heap.specs.Boxes.{by_spread}
use Rattle.heap.proofs.Steps.{sink_on, sink_left, sink_ends}
use Rattle.heap.proofs.carry.sink.Goals as goal

pub loop-hole-smaller : goal.loop-hole-smaller
loop-hole-smaller g c = omega (arith, c.child-up.ensures.below)

pub loop-hole-preserved : goal.loop-hole-preserved
loop-hole-preserved g c =
    let l = c.loop-hole in
    let n = c.args.len in record {
      in_room = omega (arith, c.child-up.ensures.below);
      long = simp length-set l.invariant.long;
      same = λ none. l.invariant.same none
          ∙ sink_on by_spread none _ n l.hole (omega arith)
          ∙ (λ i. let up = sym (c.child-up.ensures.chosen none) i in
          sink by_spread none n (set l.room l.hole (item none l.room up)) n up)
          ∙ ap (λ y. sink by_spread none n (set l.room l.hole y) n c.child-up.result)
          (get_or_default l.room c.child-up.result none c.index-room-up.result (omega arith));
    }

pub returns-then-left-len-clause-hole : goal.returns-then-left-len-clause-hole
returns-then-left-len-clause-hole g c = λ none.
    let l = c.loop-hole in
    sym (ap (λ s. s.hole) (l.invariant.same none ∙ sink_left by_spread none _ _ l.hole (omega arith) (omega arith)))

pub returns-then-left-len-clause-room : goal.returns-then-left-len-clause-room
returns-then-left-len-clause-room g c = λ none.
    let l = c.loop-hole in
    sym (
    ap (λ s. s.room) (l.invariant.same none ∙ sink_left by_spread none _ _ l.hole (omega arith) (omega arith))
    ∙ ap (set l.room l.hole) (get_or_default l.room (2 * l.hole + 1) none c.index-room-left.result (omega arith))
    )

pub returns-clause-hole : goal.returns-clause-hole
returns-clause-hole g c = λ none.
    let l = c.loop-hole in
    sym (ap (λ s. s.hole) (l.invariant.same none ∙ sink_ends by_spread none _ _ l.hole (omega arith)))

pub returns-clause-room : goal.returns-clause-room
returns-clause-room g c = λ none.
    let l = c.loop-hole in
    sym (ap (λ s. s.room) (l.invariant.same none ∙ sink_ends by_spread none _ _ l.hole (omega arith)))
