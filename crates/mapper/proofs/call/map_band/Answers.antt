-- `mapper::call::map_band` meets its contract: the part that is put back holds the indices of the band, and the rest is
-- as it was.
-- Assumes nothing.
use Rattle.std.proofs.Common.{◌+◌, ◌-◌, ◌*◌, ◌∙◌, arith, take, drop}
use Rattle.band.specs.Band.{index_at}
use Rattle.band.proofs.Band.{part_length, part_written}
use Rattle.band.proofs.Pixels.{part_index}
use Rattle.mapper.proofs.call.map_band.Goals as goal

pub returns : goal.returns
returns c =
    let a = c.args in
    let m = c.of-look_up in
    let k = 3 * (a.first + a.pixels) - 3 * a.first in
    part_written a.first a.pixels _ _ _ a.indices.now _ c.requires.inside.1
    (part_length a.first a.pixels a.indices.now c.requires.inside.1) c.map_part.ensures
    (λ i h. (λ t. index_at (m.ensures.grid t) (m.ensures.map t) (take k (drop (3 * a.first) a.frame.now)) i)
    ∙ part_index a.g a.map.now a.frame.now a.first k i (omega arith))
