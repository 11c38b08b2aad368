-- `painter::blocks::paint_block` meets its contract: pixels of one colour are painted alike.
-- Assumes nothing.
use Rattle.std.proofs.Common.{sym, ◌∙◌}
use Rattle.band.proofs.Pixels.{run_colour}
use Rattle.painter.proofs.Runs.{run_alike}
use Rattle.painter.proofs.blocks.paint_block.Goals as goal

pub returns-then-equal_colours : goal.returns-then-equal_colours
returns-then-equal_colours c =
    let a = c.args in
    let b = a.brush.now in
    let part = a.part.now in
    c.fill_pixels.ensures
    ∙ run_alike b.look_up.g b.look_up.map.now b.packed part a.first 64 _ c.painted-v.ensures
    (run_colour part a.first (sym c.equal_colours.ensures ∙ c.if-equal_colours.true))
