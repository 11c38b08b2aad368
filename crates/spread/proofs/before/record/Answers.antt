-- `spread::before::record` meets its contract: the statistics of the cell.
-- Assumes nothing.
use Rattle.table.specs.Layout.{laid_view}
use Rattle.sums.proofs.Corners.{cell_squares, cell_stats}
use Rattle.spread.proofs.before.record.Goals as goal

pub cell-requires : goal.cell-requires
cell-requires g c = c.requires.cell

pub stats_of-requires : goal.stats_of-requires
stats_of-requires g c =
    let a = c.args in
    cell_squares (laid_view g.L.Layout.layout a.small.now a.large.now a.place) c.cell.ensures c.requires.squares

pub returns : goal.returns
returns g c =
    let a = c.args in
    cell_stats (laid_view g.L.Layout.layout a.small.now a.large.now a.place) c.cell.ensures c.stats_of.ensures
