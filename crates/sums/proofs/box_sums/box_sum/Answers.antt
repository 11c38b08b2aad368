-- `sums::box_sums::box_sum` meets its contract: the statistics of the five sums of the box, from where they come.
-- Assumes nothing.
use Rattle.table.specs.Layout.{laid_view}
use Rattle.bins.specs.Sum.{box_sum, box_cell}
use Rattle.bins.proofs.Laws.{box_squares}
use Rattle.sums.specs.Box.{stats_of}
use Rattle.sums.proofs.Corners.{cell_squares, cell_stats}
use Rattle.sums.proofs.box_sums.box_sum.Goals as goal

pub stats_of-requires : goal.stats_of-requires
unfolding box_cell
stats_of-requires g c =
    cell_squares (box_sum c.args.g (laid_view g.L.Layout.layout c.args.small.now c.args.large.now) c.args.x) c.cell_from.ensures
    (box_squares (record { holds = c.requires.0.is_sound }) c.requires.1)

pub returns : goal.returns
unfolding box_cell stats_of
returns g c =
    cell_stats (box_sum c.args.g (laid_view g.L.Layout.layout c.args.small.now c.args.large.now) c.args.x) c.cell_from.ensures
    c.stats_of.ensures
