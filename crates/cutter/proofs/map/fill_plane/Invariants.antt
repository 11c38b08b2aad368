-- `cutter::map::fill_plane` meets its contract: after each row the rows so far are filled.
-- Assumes nothing.
use mathlib.Core.Path.{◌≡◌}
use Rattle.boxes.specs.Box.{low_side}
use Rattle.boxes.specs.Holds.{holds_at, slice}
use Rattle.cutter.specs.Inner.{fill_where}
use Rattle.cutter.proofs.map.fill_plane.Given as goal

abbrev pub invariant-loop-gr : goal.invariant-loop-gr
invariant-loop-gr l = l.map ≡ fill_where (holds_at l.fn.g (low_side (slice l.fn.x 0 l.fn.r) 1 l.gr)) l.fn.index l.fn.map
