-- `painter::palette::packed_palette` meets its contract: after i colours the first i are packed.
-- Assumes nothing.
use Rattle.std.proofs.Common.{refl, ap, ◌∙◌, arith, length-set}
use Rattle.pixels.specs.declared.colour.Rgb.{Rgb}
use Rattle.pixels.specs.Colour.{component_at}
use Rattle.painter.proofs.Packing.{packed_more}
use Rattle.painter.proofs.palette.packed_palette.Goals as goal

pub loop-i-init : goal.loop-i-init
loop-i-init c = (refl, λ k h. absurd (omega arith))

pub loop-i-preserved : goal.loop-i-preserved
loop-i-preserved c =
    let l = c.loop-i in (
      simp length-set l.invariant.0,
      packed_more _ l.out l.i _ (omega arith)
          (λ d. c.pack.ensures d ∙ ap (λ (x : Rgb). component_at x d) c.colour.ensures) l.invariant.1,
    )

pub returns : goal.returns
returns c =
    let l = c.loop-i in
    record { room = l.invariant.0; each = λ k h. l.invariant.1 k (omega arith) }
