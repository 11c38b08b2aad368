-- `rescue::bins::walk_plane` meets its contract: after gr rows the walk stands where the next row begins.
-- Assumes nothing.
use Rattle.grid.specs.Grid.{place_of}
use Rattle.table.specs.Sound.{limit}
use Rattle.rescue.specs.Inner.{Onward}
use Rattle.rescue.proofs.bins.walk_plane.Given as goal

abbrev pub invariant-loop-gr : goal.invariant-loop-gr
invariant-loop-gr l =
    let g = l.spans.g in
    Onward limit g (place_of g l.r 0 0) (place_of g l.r l.gr 0) l.initial.table l.initial.reasons l.had l.table l.reasons
    l.total
