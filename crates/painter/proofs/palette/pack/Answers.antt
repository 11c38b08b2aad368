-- `painter::palette::pack` meets its contract: three bytes side by side can be told apart again.
-- Assumes nothing.
use Rattle.std.proofs.Common.{ℕ, ◌+◌, ◌*◌, ap, ◌∙◌, arith}
use Rattle.painter.specs.Inner.{unpacked}
use Rattle.painter.proofs.Packing.{pack_unpacked}
use Rattle.painter.proofs.palette.pack.Goals as goal

pub returns : goal.returns
returns c d =
    let x = c.args.x in
    ap (λ (n : ℕ). unpacked n d)
    (λ t. c.from.ensures t + 256 * c.from-2.ensures t + 65536 * c.from-3.ensures t)
    ∙ pack_unpacked x (omega arith) (omega arith) (omega arith) d
