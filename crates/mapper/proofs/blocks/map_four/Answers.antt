-- `mapper::blocks::map_four` meets its contract: the four indices are those of the part as it was, and it is written
-- four times.
-- Assumes nothing.
use Rattle.std.proofs.Common.{arith, length-set}
use Rattle.band.specs.Band.{index_at}
use Rattle.band.proofs.Band.{band_four}
use Rattle.mapper.proofs.blocks.map_four.Goals as goal

pub bounds-indices-i-2 : goal.bounds-indices-i-2
bounds-indices-i-2 c = simp length-set (omega (arith, c.requires))

pub bounds-indices-i-3 : goal.bounds-indices-i-3
bounds-indices-i-3 c = simp length-set (omega (arith, c.requires))

pub bounds-indices-i-4 : goal.bounds-indices-i-4
bounds-indices-i-4 c = simp length-set (omega (arith, c.requires))

pub returns : goal.returns
returns c =
    let a = c.args in
    let m = a.look_up.now in
    band_four (index_at m.g m.map.now a.part.now) a.indices.now a.i _ _ _ _
    c.index_at-a.ensures c.index_at-b.ensures
    c.index_at-c.ensures c.index_at-d.ensures (omega (arith, c.requires))
