-- `painter::blocks::fill_some` meets its contract: after k pixels the first k have the colour.
-- Assumes nothing.
use Rattle.std.proofs.Common.{◌≡◌, ◌+◌, ◌*◌, ℕ, List, ap, ◌∙◌, arith}
use Rattle.band.specs.Band.{write_band}
use Rattle.painter.specs.Inner.{fill_at}
use Rattle.band.proofs.Band.{band_empty}
use Rattle.painter.proofs.Runs.{run_join}
use Rattle.painter.proofs.blocks.fill_some.Goals as goal

pub loop-k-init : goal.loop-k-init
loop-k-init c = band_empty _ _ _

pub loop-k-preserved : goal.loop-k-preserved
loop-k-preserved c =
    let a = c.args in
    let l = c.loop-k in
    c.put_packed.ensures
    ∙ ap (λ (b : List ℕ). write_band (3 * (a.first + l.k)) 3 (fill_at a.v) b) l.invariant
    ∙ run_join (fill_at a.v) a.bytes.now a.first l.k 1

pub returns : goal.returns
returns c =
    let a = c.args in
    let l = c.loop-k in
    let all : l.k ≡ a.pixels = omega arith in
    l.invariant ∙ ap (λ (n : ℕ). write_band (3 * a.first) (3 * n) (fill_at a.v) a.bytes.now) all
