-- `lines::writer::Writer::line` meets its contract: its six parts one behind the other, each with its room.
-- Assumes nothing.
use native.Mathlib.Omega.{arith}
use Rattle.lines.specs.Text.{line_of, newline, line_room}
use Rattle.lines.proofs.Writing.{writes_more, writes_within}
use Rattle.lines.proofs.writer.Writer.line.Goals as goal

pub returns : goal.returns
unfolding line_of newline
returns c =
    let colour = writes_more (writes_more (writes_more c.number.ensures c.field.ensures) c.field-2.ensures) c.field-3.ensures in
    rw (← c.from.ensures, ← c.from-2.ensures, ← c.from-3.ensures, ← c.from-4.ensures)
    (writes_within line_room (omega arith) (writes_more (writes_more colour c.field-4.ensures) c.byte.ensures))
