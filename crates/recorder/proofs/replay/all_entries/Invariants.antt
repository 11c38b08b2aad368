-- `recorder::replay::all_entries` meets its contract: before each entry the replay stands where the entries passed led
-- it.
-- Assumes nothing.
use Rattle.recorder.specs.Inner.{stand}
use Rattle.recorder.proofs.Rest.{Reached}
use Rattle.recorder.proofs.replay.all_entries.Given as goal

abbrev pub invariant-loop-i : goal.invariant-loop-i
invariant-loop-i l =
    Reached l.steps.g l.entries l.colours l.weights (stand l.initial.session l.initial.table) l.initial.answers l.i l.at
    l.session l.table l.total l.answers
