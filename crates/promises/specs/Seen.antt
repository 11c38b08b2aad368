-- What a caller sees of a writer: the place that the next part is put to, and what is in the buffer. Definitions only.
use Rattle.std.specs.Prelude.{List, ℕ}
use Rattle.lines.specs.declared.writer.Writer.{Writer}

abbrev pub written : Writer → ℕ × List ℕ
written w = (w.at, w.out.now)
