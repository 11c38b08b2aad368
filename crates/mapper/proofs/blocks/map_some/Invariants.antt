-- `mapper::blocks::map_some` meets its contract: after k pixels the band of k places is written.
-- Assumes nothing.
use mathlib.Core.Path.{◌≡◌}
use Rattle.band.specs.Band.{index_at, write_band}
use Rattle.mapper.proofs.blocks.map_some.Given as goal

abbrev pub invariant-loop-k : goal.invariant-loop-k
invariant-loop-k l =
    l.indices ≡ write_band l.from l.k (index_at l.look_up.g l.look_up.map.now l.part) l.initial.indices
