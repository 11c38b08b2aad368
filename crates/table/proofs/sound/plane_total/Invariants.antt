-- `table::sound::plane_total` meets its contract: after each row the total is that of the rows so far.
-- Assumes nothing.
use Rattle.std.specs.Prelude.{Some}
use Rattle.std.proofs.Common.{◌≡◌, ◌*◌}
use Rattle.grid.specs.Grid.{place_of}
use Rattle.table.specs.Inner.{scanned}
use Rattle.table.specs.Sound.{limit_of}
use Rattle.table.specs.Layout.{laid_view}
use Rattle.table.proofs.sound.plane_total.Given as goal

abbrev pub invariant-loop-gr : goal.invariant-loop-gr
invariant-loop-gr g l =
    let grid = l.spans.g in
    let layout = g.L.Layout.layout in
    scanned (limit_of layout) grid (laid_view layout l.small l.large) (place_of grid l.r 0 0) (l.gr * grid.size3) l.had
    ≡ Some l.total
