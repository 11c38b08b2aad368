-- `mapper::blocks::map_by_fours` meets its contract: after k turns the band of 4 * k places is written.
-- Assumes nothing.
use Rattle.std.proofs.Common.{◌≡◌, ◌+◌, ◌*◌, ℕ, ap, ◌∙◌, arith}
use Rattle.band.specs.Band.{index_at, write_band}
use Rattle.band.proofs.Band.{band_empty, band_more}
use Rattle.mapper.proofs.blocks.map_by_fours.Goals.{At-loop-k}
use Rattle.mapper.proofs.blocks.map_by_fours.Goals as goal

pub loop-k-init : goal.loop-k-init
loop-k-init c = band_empty _ _ _

pub map_four-requires : goal.map_four-requires
map_four-requires c = (omega (arith, c.requires), omega (arith, c.requires))

pub loop-k-preserved : goal.loop-k-preserved
loop-k-preserved c =
    let a = c.args in
    let m = a.look_up.now in
    let l = c.loop-k in
    let more : 4 * l.k + 4 ≡ 4 * (l.k + 1) = omega arith in
    band_more (index_at m.g m.map.now a.part.now) a.indices.now a.from (4 * l.k) 4
    (4 * (l.k + 1)) l.indices _ l.invariant c.map_four.ensures more

pub returns : goal.returns
returns c =
    let a = c.args in
    let m = a.look_up.now in
    let all : 4 * c.loop-k.k ≡ 64 = omega arith in
    c.loop-k.invariant
    ∙ ap (λ (n : ℕ). write_band a.from n (index_at m.g m.map.now a.part.now) a.indices.now) all
