-- `seluvava::arrays::put_boxes` meets its contract: after each box, both arrays have the boxes so far in front.
-- Assumes nothing.
use mathlib.Core.Path.{◌≡◌}
use lib.ListN.{take}
use Rattle.cutter.specs.Cut.{done_record}
use Rattle.cutter.specs.Fronts.{filled}
use Rattle.seluvava.specs.Cut.{its_bytes, spread_of, told}
use Rattle.seluvava.proofs.arrays.put_boxes.Given as goal

abbrev pub invariant-loop-i : goal.invariant-loop-i
invariant-loop-i l =
    let boxes = take l.i (told (done_record l.fn.b)) in
    (l.boxes ≡ filled 6 its_bytes boxes l.fn.boxes) × (l.spreads ≡ filled 1 spread_of boxes l.fn.spreads)
