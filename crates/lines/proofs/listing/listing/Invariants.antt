-- `lines::listing::listing` meets its contract: after each turn the first line and the lines so far are put.
-- Assumes nothing.
use Prim.Native.Nat.{◌*◌}
use Rattle.lines.specs.Text.{lines_of, line_room}
use Rattle.lines.specs.Writing.{Writes}
use Rattle.lines.proofs.listing.listing.Given as goal

abbrev pub invariant-loop-i : goal.invariant-loop-i
invariant-loop-i l = Writes l.initial.text (lines_of l.found.palette l.found.counts l.i) (line_room * l.i) l.text
