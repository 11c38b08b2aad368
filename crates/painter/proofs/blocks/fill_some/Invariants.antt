-- `painter::blocks::fill_some` meets its contract: after k pixels the first k have the colour.
-- Assumes nothing.
use Rattle.std.proofs.Common.{◌≡◌, ◌*◌}
use Rattle.band.specs.Band.{write_band}
use Rattle.painter.specs.Inner.{fill_at}
use Rattle.painter.proofs.blocks.fill_some.Given as goal

abbrev pub invariant-loop-k : goal.invariant-loop-k
invariant-loop-k l = l.bytes ≡ write_band (3 * l.first) (3 * l.k) (fill_at l.v) l.initial.bytes
