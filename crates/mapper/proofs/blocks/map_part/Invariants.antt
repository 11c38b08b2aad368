-- `mapper::blocks::map_part` meets its contract: after some blocks the first 64 places of each hold their indices.
-- Assumes nothing.
use Rattle.std.proofs.Common.{◌≡◌, ◌*◌}
use Rattle.band.specs.Band.{index_at, write_band}
use Rattle.mapper.proofs.blocks.map_part.Given as goal

abbrev pub invariant-loop-block : goal.invariant-loop-block
invariant-loop-block l =
    l.indices ≡ write_band 0 (64 * l.block) (index_at l.look_up.g l.look_up.map.now l.part) l.initial.indices
