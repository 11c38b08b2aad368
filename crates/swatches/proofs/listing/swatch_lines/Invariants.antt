-- `swatches::listing::swatch_lines` meets its contract: after each turn the first line and the lines so far are put.
-- Assumes nothing.
use Prim.Native.Nat.{◌*◌}
use Rattle.lines.specs.Writing.{Writes}
use Rattle.swatches.specs.Swatches.{swatch_lines}
use Rattle.swatches.specs.Inner.{swatch_line_room}
use Rattle.swatches.proofs.listing.swatch_lines.Given as goal

abbrev pub invariant-loop-i : goal.invariant-loop-i
invariant-loop-i l =
    Writes l.initial.text (swatch_lines l.found.palette l.found.counts l.numbers l.i) (swatch_line_room * l.i) l.text
