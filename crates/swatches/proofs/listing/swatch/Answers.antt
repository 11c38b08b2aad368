-- `swatches::listing::swatch` meets its contract: its two parts one behind the other, each with its room.
-- Assumes nothing.
use native.Mathlib.Omega.{arith}
use Rattle.lines.proofs.Writing.{writes_more, writes_within}
use Rattle.swatches.specs.Swatches.{swatch_of, before_number, behind_number}
use Rattle.swatches.specs.Inner.{swatch_room}
use Rattle.swatches.proofs.listing.swatch.Goals as goal

pub returns : goal.returns
unfolding swatch_of before_number behind_number
returns c =
    rw (← c.from.ensures) (writes_within swatch_room (omega arith) (writes_more c.named.ensures c.word.ensures))
