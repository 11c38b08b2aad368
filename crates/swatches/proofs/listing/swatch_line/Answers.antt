-- `swatches::listing::swatch_line` meets its contract: a swatch, and the line behind it.
-- Assumes nothing.
use Rattle.lines.proofs.Writing.{writes_more}
use Rattle.swatches.proofs.listing.swatch_line.Goals as goal

pub returns : goal.returns
returns c = writes_more c.swatch.ensures c.box_line.ensures
