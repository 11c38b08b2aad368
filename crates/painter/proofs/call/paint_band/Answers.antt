-- `painter::call::paint_band` meets its contract: the part that is put back is painted, and the rest is as it was.
-- Assumes nothing.
use Rattle.std.proofs.Common.{◌+◌, ◌*◌, ◌-◌, ◌≤◌, ◌∙◌, arith, length, take, drop}
use Rattle.band.proofs.Band.{part_length, part_written}
use Rattle.painter.specs.Inner.{packed_at}
use Rattle.painter.proofs.Bytes.{part_paint}
use Rattle.painter.proofs.Packing.{packed_is}
use Rattle.painter.proofs.call.paint_band.Goals as goal

pub returns : goal.returns
returns c =
    let a = c.args in
    let b = c.of-brush in
    let k = (3 * a.first + 3 * a.pixels) - 3 * a.first in
    let part = take k (drop (3 * a.first) a.frame.now) in
    let fits : 3 * a.first + 3 * a.pixels ≤ length a.frame.now = omega (arith, c.requires.inside) in
    part_written (3 * a.first) (3 * a.pixels) _ _ _ a.frame.now _ fits
    (part_length (3 * a.first) (3 * a.pixels) a.frame.now fits) c.paint_part.ensures
    (λ i h. (λ t. packed_at (b.ensures.grid t) (b.ensures.map t) b.result.packed part i)
    ∙ packed_is a.g a.map.now a.palette.now _ part c.requires.fits b.ensures.packed i
    ∙ part_paint a.g a.map.now a.palette.now a.frame.now a.first k i (omega (arith, h)))
