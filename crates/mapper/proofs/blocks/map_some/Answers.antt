-- `mapper::blocks::map_some` meets its contract: after k pixels the band of k places is written.
-- Assumes nothing.
use Rattle.std.proofs.Common.{◌≡◌, ℕ, ap, ◌∙◌, arith}
use Rattle.band.specs.Band.{index_at, write_band}
use Rattle.band.proofs.Band.{band_empty, band_next}
use Rattle.mapper.proofs.blocks.map_some.Goals.{At-loop-k}
use Rattle.mapper.proofs.blocks.map_some.Goals as goal

pub loop-k-init : goal.loop-k-init
loop-k-init c = band_empty _ _ _

pub loop-k-preserved : goal.loop-k-preserved
loop-k-preserved c =
    let a = c.args in
    let m = a.look_up.now in
    let l = c.loop-k in
    band_next (index_at m.g m.map.now a.part.now) a.indices.now a.from l.k _ l.indices
    l.invariant c.index_at.ensures (omega (arith, c.requires))

pub returns : goal.returns
returns c =
    let a = c.args in
    let m = a.look_up.now in
    let all : c.loop-k.k ≡ a.count = omega arith in
    c.loop-k.invariant
    ∙ ap (λ (n : ℕ). write_band a.from n (index_at m.g m.map.now a.part.now) a.indices.now) all
