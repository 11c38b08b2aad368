-- A heap whose boxes are packed, each into a number, read as one of boxes. Definitions only.
use Rattle.std.specs.Prelude.{List, map, ℕ}
use Rattle.std.specs.Float.{nan}
use Rattle.boxes.specs.Bytes.{box_of}
use Rattle.heap.specs.declared.heap.BoxSpread.{BoxSpread as AnyBox}
use Rattle.heap.specs.Boxes.{BoxSpread}

-- a packed box, unpacked
abbrev pub unpack : AnyBox ℕ → BoxSpread
unpack x = record { bounds = box_of x.bounds; spread = x.spread }

-- what a place past a room of packed ones would have
abbrev pub no_packed : AnyBox ℕ
no_packed = record { bounds = 0; spread = nan }

-- the boxes of a room of packed ones
unfoldable pub room_in : List (AnyBox ℕ) → List BoxSpread
room_in h = map unpack h
