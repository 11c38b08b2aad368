-- The heap of boxes with their spreads. Definitions only.
use Rattle.std.specs.Prelude.{Float}
use Rattle.std.specs.Float.{nan}
use Rattle.boxes.specs.declared.sides.Bounds.{Bounds}
use Rattle.boxes.specs.Box.{no_box}
use Rattle.heap.specs.declared.heap.BoxSpread.{BoxSpread as AnyBox}

-- a box of a grid with its spread
abbrev pub BoxSpread : Type 0
BoxSpread = AnyBox Bounds

-- the heap compares boxes, of whatever type, by their spreads
abbrev pub by_spread : {B : Type 0} → AnyBox B → Float
by_spread x = x.spread

-- what a place past the room would have
abbrev pub no_item : BoxSpread
no_item = record { bounds = no_box; spread = nan }
