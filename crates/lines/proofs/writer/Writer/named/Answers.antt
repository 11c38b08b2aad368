-- `lines::writer::Writer::named` meets its contract: the name, and the number behind it.
-- Assumes nothing.
use Rattle.lines.specs.Text.{named_of}
use Rattle.lines.proofs.Writing.{writes_more}
use Rattle.lines.proofs.writer.Writer.named.Goals as goal

pub returns : goal.returns
unfolding named_of
returns c = writes_more c.word.ensures c.number.ensures
