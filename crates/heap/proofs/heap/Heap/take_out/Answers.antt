-- `heap::heap::Heap::take_out` meets its contract: the last box enters the hole that sank from place 0.
-- Assumes nothing.
use mathlib.Core.Path.{◌∙◌}
use Prim.Native.Nat.{◌-◌}
use native.Mathlib.Omega.{arith}
use Rattle.std.proofs.lemmas.List.{get_or_default}
use Rattle.heap.specs.Boxes.{by_spread}
use Rattle.heap.proofs.Steps.{none_remains, others_remain}
use Rattle.heap.proofs.Keeps.{sink_within}
use Rattle.heap.proofs.heap.Heap.take_out.Goals as goal

pub climb-requires : goal.climb-requires
climb-requires g c =
    let none = c.index-self-self.result in
    omega (
      arith,
      c.sink-hole.ensures.hole none,
      sink_within by_spread none (c.args.self.now.len - 1) c.args.self.now.room (omega arith) (omega arith),
    )

pub returns-then-self-ne0-clause-room : goal.returns-then-self-ne0-clause-room
returns-then-self-ne0-clause-room g c =
    λ none. let e = c.sink-hole.ensures in
    c.climb.ensures.entered none
    ∙ others_remain by_spread none c.args.self.now.room c.args.self.now.len c.if-self-ne0.true
    (λ i. record { room = e.room none i; hole = e.hole none i })
    (get_or_default c.args.self.now.room (c.args.self.now.len - 1) _ none (omega arith))

pub returns-else-self-ne0-clause-room : goal.returns-else-self-ne0-clause-room
returns-else-self-ne0-clause-room g c = λ none. none_remains by_spread none _ _ c.if-self-ne0.false
