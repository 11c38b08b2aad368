-- `painter::brush::Brush::painted` meets its contract: the packed colour at the pixel's index.
-- Assumes nothing.
use Rattle.std.proofs.Common.{ℕ, ap, ◌∙◌, get_or}
use Rattle.painter.proofs.brush.Brush.painted.Goals as goal

pub returns : goal.returns
returns c = ap (λ (k : ℕ). get_or c.args.self.now.packed k 0) (c.from-index.ensures ∙ c.index_at.ensures)
