-- `painter::blocks::fill_pixels` meets its contract: after 48 + k bytes they have the colour.
-- Assumes nothing.
use Rattle.std.proofs.Common.{◌≡◌, ◌+◌, ◌*◌, ◌∙◌, arith}
use Rattle.band.specs.Band.{write_band}
use Rattle.painter.specs.Inner.{fill_at}
use Rattle.band.proofs.Band.{band_empty, band_join}
use Rattle.painter.proofs.Runs.{run_copied}
use Rattle.painter.proofs.blocks.fill_pixels.Goals as goal

pub loop-k-init : goal.loop-k-init
loop-k-init c = band_empty _ _ _

pub loop-k-preserved : goal.loop-k-preserved
loop-k-preserved c =
    let a = c.args in
    let l = c.loop-k in
    run_copied a.v (3 * a.first) l.k a.bytes.now _ l.bytes c.fill_some.ensures l.invariant (omega arith)

pub returns : goal.returns
returns c =
    let a = c.args in
    let l = c.loop-k in
    let all : l.k ≡ 144 = omega arith in
    l.invariant
    ∙ (λ t. write_band (3 * a.first + 48) (all t) (fill_at a.v) (c.fill_some.ensures t))
    ∙ band_join (fill_at a.v) a.bytes.now (3 * a.first) 48 144
