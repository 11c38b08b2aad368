-- `rescue::bins::walk_row` meets its contract: after b bins the walk stands b places further.
-- Assumes nothing.
use Prim.Native.Nat.{◌+◌}
use Rattle.table.specs.Sound.{limit}
use Rattle.rescue.specs.Inner.{Onward}
use Rattle.rescue.proofs.bins.walk_row.Given as goal

abbrev pub invariant-loop-b : goal.invariant-loop-b
invariant-loop-b l =
    Onward limit l.spans.g l.start (l.start + l.b) l.initial.table l.initial.reasons l.had l.table l.reasons l.total
