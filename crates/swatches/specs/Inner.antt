-- What the crate's own functions are told. Definitions only.
use Rattle.std.specs.Prelude.{List, ℕ, ◌+◌, ◌*◌, ◌≤◌, length}
use Rattle.lines.specs.declared.found.Found.{Found}
use Rattle.lines.specs.Text.{line_room}
use Rattle.swatches.specs.Swatches.{swatch_listing}

-- every swatch has room in so many bytes, and every line behind its swatch
abbrev pub swatch_room : ℕ
swatch_room = 36

abbrev pub swatch_line_room : ℕ
swatch_line_room = 164

-- boxes as a cut finds them, and room for their lines
pub record RoomForSwatches (f : Found) (out : List ℕ) : Type 0 where
  pub few : f.boxes ≤ 16
  pub room : line_room + swatch_line_room * f.boxes ≤ length out

-- the text for what a cut found, with the terminal's numbers
abbrev pub swatches_found : Found → List ℕ → List ℕ
swatches_found f numbers = swatch_listing f.boxes f.rounds f.palette f.counts numbers
