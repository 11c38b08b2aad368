-- `cutter::map::fill_box` meets its contract: after each plane the planes so far are filled.
-- Assumes nothing.
use mathlib.Core.Path.{◌≡◌}
use Rattle.boxes.specs.Box.{low_side}
use Rattle.boxes.specs.Holds.{holds_at}
use Rattle.cutter.specs.Inner.{fill_where}
use Rattle.cutter.proofs.map.fill_box.Given as goal

abbrev pub invariant-loop-r : goal.invariant-loop-r
invariant-loop-r l = l.map ≡ fill_where (holds_at l.fn.g (low_side l.fn.x 0 l.r)) l.fn.index l.fn.map
