-- What the crate's own functions are told. Definitions only.
use Rattle.std.specs.Prelude.{List, ℕ, ◌+◌, ◌*◌, ◌≤◌, length}
use Rattle.lines.specs.declared.found.Found.{Found}
use Rattle.lines.specs.Text.{line_room, listing_of}

-- boxes as a cut finds them, and room for their lines
pub record RoomForLines (f : Found) (out : List ℕ) : Type 0 where
  pub few : f.boxes ≤ 16
  pub room : line_room * (f.boxes + 1) ≤ length out

-- the text for what a cut found
abbrev pub listing_found : Found → List ℕ
listing_found f = listing_of f.boxes f.rounds f.palette f.counts
