-- `rounds::rounds::all_rounds` meets its contract: what is still to come of the loop's rounds gives the heap at the
-- end.
-- Assumes nothing.
use Rattle.table.specs.Layout.{laid_view}
use Rattle.rounds.proofs.Filled.{Each, OfGrid}
use Rattle.rounds.proofs.Fuel.{need, ToCome}
use Rattle.rounds.proofs.rounds.all_rounds.Given as goal

abbrev pub invariant-loop-source : goal.invariant-loop-source
invariant-loop-source ty l = record {
  of_grid : Each (OfGrid l.g) l.heap.room l.heap.len;
  to_come : ToCome l.g (laid_view ty.L.Layout.layout l.small l.large) l.k l.heap.room l.heap.len l.rounds;
}

abbrev pub decreases-loop-source : goal.decreases-loop-source
decreases-loop-source ty l = need l.k l.heap.room l.heap.len
