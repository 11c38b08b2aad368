-- `cutter::results::fill_boxes` meets its contract: after each box, the map is filled by the boxes so far.
-- Assumes nothing.
use mathlib.Core.Path.{◌≡◌}
use lib.ListN.{take}
use Rattle.cutter.specs.Inner.{fill_from}
use Rattle.cutter.specs.Cut.{list_of}
use Rattle.cutter.proofs.results.fill_boxes.Given as goal

abbrev pub invariant-loop-at : goal.invariant-loop-at
invariant-loop-at l = l.map ≡ fill_from l.fn.g 0 (take l.at (list_of l.fn.b.boxes l.fn.b.places)) l.fn.map
