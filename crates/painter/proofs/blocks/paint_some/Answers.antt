-- `painter::blocks::paint_some` meets its contract: after k pixels the first k are painted and the others are as they
-- were.
-- Assumes nothing.
use Rattle.std.proofs.Common.{◌≡◌, ap, ◌∙◌, arith}
use Rattle.band.proofs.Band.{band_empty}
use Rattle.painter.specs.Inner.{painted_for}
use Rattle.painter.proofs.Runs.{painted_next}
use Rattle.painter.proofs.blocks.paint_some.Goals as goal

pub loop-k-init : goal.loop-k-init
loop-k-init c = band_empty _ _ _

pub loop-k-preserved : goal.loop-k-preserved
loop-k-preserved c =
    let a = c.args in
    let b = a.brush.now in
    let l = c.loop-k in
    c.put_packed.ensures
    ∙ painted_next b.look_up.g b.look_up.map.now b.packed a.part.now a.first l.k _ l.part l.invariant c.painted-v.ensures

pub returns : goal.returns
returns c =
    let a = c.args in
    let b = a.brush.now in
    let l = c.loop-k in
    let all : l.k ≡ a.pixels = omega arith in
    l.invariant ∙ ap (painted_for b.look_up.g b.look_up.map.now b.packed a.part.now a.first) all
