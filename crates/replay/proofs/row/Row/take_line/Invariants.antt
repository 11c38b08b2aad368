-- What stands between two separators begins before it ends.
use Rattle.std.proofs.Common.{◌≤◌}
use Rattle.replay.proofs.row.Row.take_line.Given as goal

abbrev pub invariant-loop-i : goal.invariant-loop-i
invariant-loop-i l = l.start ≤ l.i
