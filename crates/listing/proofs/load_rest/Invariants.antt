-- After each turn one batch more has come.
use Rattle.std.proofs.Common.{◌+◌, ◌*◌, ◌≤◌}
use Rattle.lines.specs.Reading.{progress, AllCame}
use Rattle.listing.proofs.load_rest.Given as goal

abbrev pub invariant-loop-turn : goal.invariant-loop-turn
invariant-loop-turn l =
    AllCame (progress l.initial.so_far.number l.initial.table l.initial.so_far.bytes) (progress l.so_far.number l.table l.so_far.bytes) l.so_far.more
    × (l.so_far.bytes ≤ 49152 * (l.turn + 1))
