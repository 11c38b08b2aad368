-- What the crate's own functions are told of the call cut. Definitions only.
use Rattle.std.specs.Prelude.{not, ◌&&◌, List, ℕ, ◌*◌, leb}
use Rattle.basics.specs.Answer.{refuse}
use Rattle.grid.specs.Grid.{grid_of, number_on}
use Rattle.boxes.specs.declared.sides.Bounds.{Bounds}
use Rattle.boxes.specs.Bytes.{box_bytes}
use Rattle.cutter.specs.Fronts.{put_from}
use Rattle.seluvava.specs.Cut.{has_room}

-- what the code asks first: 1, 2, and 5 where there is no room for the boxes
unfoldable pub room_on : ℕ → ℕ → ℕ → ℕ
room_on k boxes spreads = refuse (not (leb 1 k && leb k 256)) 2 (refuse (not (has_room k boxes spreads)) 5 0)

unfoldable pub room_number : ℕ → ℕ → ℕ → ℕ → ℕ → ℕ → ℕ
room_number b1 b2 b3 k boxes spreads = number_on (grid_of b1 b2 b3) (λ g. room_on k boxes spreads)

-- one box, written as the six bytes of place i
unfoldable pub with_box_at : List ℕ → ℕ → Bounds → List ℕ
with_box_at old i x = put_from old (6 * i) (box_bytes x)
