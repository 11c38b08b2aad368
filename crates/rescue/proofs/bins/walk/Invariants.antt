-- `rescue::bins::walk` meets its contract: after r planes the walk stands where the next plane begins.
-- Assumes nothing.
use Rattle.grid.specs.Grid.{place_of}
use Rattle.table.specs.Sound.{limit}
use Rattle.rescue.specs.Inner.{Onward}
use Rattle.rescue.proofs.bins.walk.Given as goal

abbrev pub invariant-loop-r : goal.invariant-loop-r
invariant-loop-r l =
    let g = l.fn.g in
    Onward limit g 0 (place_of g l.r 0 0) l.initial.table l.initial.reasons 0 l.table l.reasons l.total
