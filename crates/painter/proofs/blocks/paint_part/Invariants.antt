-- `painter::blocks::paint_part` meets its contract: after some blocks the first 64 pixels of each are painted and the
-- others are as they were.
-- Assumes nothing.
use Rattle.std.proofs.Common.{◌≡◌, ◌*◌}
use Rattle.painter.specs.Inner.{painted_for}
use Rattle.painter.proofs.blocks.paint_part.Given as goal

abbrev pub invariant-loop-block : goal.invariant-loop-block
invariant-loop-block l =
    l.part ≡ painted_for l.brush.look_up.g l.brush.look_up.map.now l.brush.packed l.initial.part 0 (64 * l.block)
