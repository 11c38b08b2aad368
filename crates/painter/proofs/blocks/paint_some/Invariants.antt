-- `painter::blocks::paint_some` meets its contract: after k pixels the first k are painted and the others are as they
-- were.
-- Assumes nothing.
use Rattle.std.proofs.Common.{◌≡◌}
use Rattle.painter.specs.Inner.{painted_for}
use Rattle.painter.proofs.blocks.paint_some.Given as goal

abbrev pub invariant-loop-k : goal.invariant-loop-k
invariant-loop-k l =
    l.part ≡ painted_for l.brush.look_up.g l.brush.look_up.map.now l.brush.packed l.initial.part l.first l.k
