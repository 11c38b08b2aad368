-- `painter::blocks::fill_pixels` meets its contract: after 48 + k bytes they have the colour.
-- Assumes nothing.
use Rattle.std.proofs.Common.{◌≡◌, ◌+◌}
use Rattle.band.specs.Band.{write_band}
use Rattle.painter.specs.Inner.{fill_at}
use Rattle.painter.proofs.blocks.fill_pixels.Given as goal

abbrev pub invariant-loop-k : goal.invariant-loop-k
invariant-loop-k l = l.bytes ≡ write_band (l.at + 48) l.k (fill_at l.v) l.initial.bytes
