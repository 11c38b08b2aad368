-- `sums::box_sums::sum_of_bins` meets its contract: the statistics of the five numbers that were added up.
-- Assumes nothing.
use Rattle.table.specs.Layout.{laid_view}
use Rattle.bins.specs.Sum.{box_sum, box_cell}
use Rattle.bins.proofs.Laws.{box_squares}
use Rattle.sums.specs.Box.{stats_of}
use Rattle.sums.proofs.Corners.{cell_squares, cell_stats}
use Rattle.sums.proofs.box_sums.sum_of_bins.Goals as goal

pub stats_of-requires : goal.stats_of-requires
unfolding box_cell
stats_of-requires g c =
    cell_squares (box_sum c.args.g (laid_view g.L.Layout.layout c.args.small.now c.args.large.now) c.args.x) c.add_up.ensures
    (box_squares (record { holds = c.requires.is_sound }) c.requires.within)

pub returns : goal.returns
unfolding box_cell stats_of
returns g c =
    cell_stats (box_sum c.args.g (laid_view g.L.Layout.layout c.args.small.now c.args.large.now) c.args.x) c.add_up.ensures
    c.stats_of.ensures
