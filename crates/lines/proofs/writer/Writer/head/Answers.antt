-- `lines::writer::Writer::head` meets its contract: its four parts one behind the other, each with its room.
-- Assumes nothing.
use native.Mathlib.Omega.{arith}
use Rattle.lines.specs.Text.{head_of, boxes_word, total_word, rounds_word, newline, line_room}
use Rattle.lines.proofs.Writing.{writes_more, writes_within}
use Rattle.lines.proofs.writer.Writer.head.Goals as goal

pub returns : goal.returns
unfolding head_of boxes_word total_word rounds_word newline
returns c =
    writes_within line_room (omega arith)
    (writes_more (writes_more (writes_more c.named.ensures c.named-2.ensures) c.named-3.ensures) c.byte.ensures)
