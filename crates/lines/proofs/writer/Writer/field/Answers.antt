-- `lines::writer::Writer::field` meets its contract: a space, and the number behind it.
-- Assumes nothing.
use Rattle.lines.specs.Text.{field_of}
use Rattle.lines.proofs.Writing.{writes_more}
use Rattle.lines.proofs.writer.Writer.field.Goals as goal

pub returns : goal.returns
unfolding field_of
returns c = writes_more c.byte.ensures c.number.ensures
