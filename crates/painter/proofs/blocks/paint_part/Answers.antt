-- `painter::blocks::paint_part` meets its contract: after some blocks the first 64 pixels of each are painted and the
-- others are as they were.
-- Assumes nothing.
use Rattle.std.proofs.Common.{◌≡◌, ◌+◌, ◌*◌, ◌/◌, ap, ◌∙◌, arith}
use Rattle.band.proofs.Band.{band_empty}
use Rattle.painter.specs.Inner.{painted_for}
use Rattle.painter.proofs.Runs.{painted_on, painted_rest}
use Rattle.painter.proofs.blocks.paint_part.Goals as goal

pub loop-block-init : goal.loop-block-init
loop-block-init c = band_empty _ _ _

pub paint_block-requires : goal.paint_block-requires
paint_block-requires c = omega (arith, c.requires, c.saturating_sub-blocks.ensures)

pub loop-block-preserved : goal.loop-block-preserved
loop-block-preserved c =
    let a = c.args in
    let b = a.brush.now in
    let l = c.loop-block in
    let more : 64 * l.block + 64 ≡ 64 * (l.block + 1) = omega arith in
    painted_on b.look_up.g b.look_up.map.now b.packed a.part.now l.part _ (64 * l.block) 64 l.invariant c.paint_block.ensures
    ∙ ap (painted_for b.look_up.g b.look_up.map.now b.packed a.part.now 0) more

pub paint_some-requires : goal.paint_some-requires
paint_some-requires c = omega (arith, c.requires, c.saturating_sub-blocks.ensures)

pub returns : goal.returns
returns c =
    let a = c.args in
    let b = a.brush.now in
    let all : c.loop-block.block ≡ c.saturating_sub-blocks.result / 64 = omega arith in
    painted_rest b.look_up.g b.look_up.map.now b.packed a.part.now c.loop-block.part _ (64 * (c.saturating_sub-blocks.result / 64)) c.requires
    (omega (arith, c.saturating_sub-blocks.ensures)) (rw all at c.loop-block.invariant) c.paint_some.ensures
