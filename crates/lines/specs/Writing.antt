-- A text that is put into a buffer part by part. Definitions only.
use Rattle.std.specs.Prelude.{◌≡◌, List, ℕ, ◌+◌, ◌≤◌, length}
use Rattle.lines.specs.declared.writer.Writer.{Writer}
use Rattle.lines.specs.Text.{Put}

-- there is room for so many bytes more
abbrev pub HasRoom : Writer → ℕ → Type 0
HasRoom w room = w.at + room ≤ length w.out.now

-- a text is put, in no more than so many bytes, into the buffer that was lent
pub record Writes (before : Writer) (text : List ℕ) (room : ℕ) (after : Writer) : Type 0 where
  pub same : after.out.ghost_name ≡ before.out.ghost_name
  pub put : Put before.out.now before.at text after.out.now after.at
  pub long : length after.out.now ≡ length before.out.now
  pub fits : after.at ≤ before.at + room
