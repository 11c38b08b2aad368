-- `table::sound::sound_total` meets its contract: after each plane the total is that of the planes so far.
-- Assumes nothing.
use Rattle.std.specs.Prelude.{Some}
use Rattle.std.proofs.Common.{◌≡◌, ◌*◌}
use Rattle.table.specs.Inner.{scanned}
use Rattle.table.specs.Sound.{limit_of}
use Rattle.table.specs.Layout.{laid_view}
use Rattle.table.proofs.sound.sound_total.Given as goal

abbrev pub invariant-loop-r : goal.invariant-loop-r
invariant-loop-r g l =
    let layout = g.L.Layout.layout in
    let grid = l.fn.g in
    scanned (limit_of layout) grid (laid_view layout l.small l.large) 0 (l.r * (grid.size2 * grid.size3)) 0
    ≡ Some l.total
