-- Each turn has read some bytes behind those that are there, and never more than there is room for.
use Rattle.std.proofs.Common.{◌≡◌, length, take, ◌-◌, ◌≤◌}
use Rattle.listing.proofs.fill.Given as goal

abbrev pub invariant-loop-filled : goal.invariant-loop-filled
invariant-loop-filled l =
    (l.initial.filled ≤ l.filled) × (l.filled ≤ length l.space)
    × (take l.initial.filled l.space ≡ take l.initial.filled l.initial.space)

abbrev pub decreases-loop-filled : goal.decreases-loop-filled
decreases-loop-filled l = length l.initial.space - l.filled
