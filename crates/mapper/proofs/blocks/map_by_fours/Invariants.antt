-- `mapper::blocks::map_by_fours` meets its contract: after k turns the band of 4 * k places is written.
-- Assumes nothing.
use mathlib.Core.Path.{◌≡◌}
use Prim.Native.Nat.{◌*◌}
use Rattle.band.specs.Band.{index_at, write_band}
use Rattle.mapper.proofs.blocks.map_by_fours.Given as goal

abbrev pub invariant-loop-k : goal.invariant-loop-k
invariant-loop-k l =
    l.indices ≡ write_band l.from (4 * l.k) (index_at l.look_up.g l.look_up.map.now l.part) l.initial.indices
