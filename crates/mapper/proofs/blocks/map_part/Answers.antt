-- `mapper::blocks::map_part` meets its contract: after some blocks the first 64 places of each hold their indices.
-- Assumes nothing.
use Rattle.std.proofs.Common.{◌≡◌, ◌+◌, ◌*◌, ◌/◌, ℕ, ap, ◌∙◌, arith}
use Rattle.band.specs.Band.{index_at, write_band}
use Rattle.band.proofs.Band.{band_empty, front_more, front_rest}
use Rattle.mapper.proofs.blocks.map_part.Goals.{At-loop-block}
use Rattle.mapper.proofs.blocks.map_part.Goals as goal

pub loop-block-init : goal.loop-block-init
loop-block-init c = band_empty _ _ _

pub map_block-requires : goal.map_block-requires
map_block-requires c = (omega (arith, c.requires, c.saturating_sub-blocks.ensures), omega (arith, c.saturating_sub-blocks.ensures))

pub loop-block-preserved : goal.loop-block-preserved
loop-block-preserved c =
    let a = c.args in
    let m = a.look_up.now in
    let l = c.loop-block in
    let more : 64 * l.block + 64 ≡ 64 * (l.block + 1) = omega arith in
    front_more (index_at m.g m.map.now a.part.now) a.indices.now (64 * l.block) 64 l.indices _
    l.invariant c.map_block.ensures
    ∙ ap (λ (n : ℕ). write_band 0 n (index_at m.g m.map.now a.part.now) a.indices.now) more

pub map_some-requires : goal.map_some-requires
map_some-requires c = (omega (arith, c.requires), omega (arith, c.saturating_sub-blocks.ensures))

pub returns : goal.returns
returns c =
    let a = c.args in
    let m = a.look_up.now in
    let all : c.loop-block.block ≡ c.saturating_sub-blocks.result / 64 = omega arith in
    front_rest (index_at m.g m.map.now a.part.now) a.indices.now
    (64 * (c.saturating_sub-blocks.result / 64)) c.loop-block.indices _ (omega (arith, c.saturating_sub-blocks.ensures))
    (rw all at c.loop-block.invariant) c.map_some.ensures
