-- `mapper::blocks::map_block` meets its contract: pixels of one colour have one index.
-- Assumes nothing.
use Rattle.std.proofs.Common.{sym, ◌∙◌, arith}
use Rattle.band.proofs.Band.{filled}
use Rattle.band.proofs.Pixels.{same_index, run_colour}
use Rattle.mapper.proofs.blocks.map_block.Goals as goal

pub returns-then-equal_colours : goal.returns-then-equal_colours
returns-then-equal_colours c =
    let a = c.args in
    let m = a.look_up.now in
    let one = sym c.equal_colours.ensures ∙ c.if-equal_colours.true in
    filled _ a.indices.now _ a.from 64 c.index_at-index.result (omega arith) (c.fill.ensures.after (λ y e. e))
    (λ i x y. c.index_at-index.ensures
    ∙ sym (same_index m.g m.map.now a.part.now a.from i (run_colour a.part.now a.from one i x y)))
