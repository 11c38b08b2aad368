-- Each turn copies one number more.
use Rattle.std.proofs.Common.{◌≡◌, map, take}
use Rattle.replay.proofs.lend.lent.Given as goal

abbrev pub invariant-loop-i : goal.invariant-loop-i
invariant-loop-i g l = take l.i l.room ≡ map (g.T.Entry.lowest_of) (take l.i l.list)
