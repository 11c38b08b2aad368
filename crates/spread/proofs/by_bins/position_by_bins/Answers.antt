-- `spread::by_bins::position_by_bins` meets its contract: both sides are boxes of the grid, and their sums plain.
-- Assumes nothing.
use Rattle.table.specs.Layout.{laid_view}
use Rattle.boxes.proofs.Within.{low_within, high_within}
use Rattle.spread.proofs.Choose.{plain_stats, position_is}
use Rattle.spread.proofs.Cases.{side_adds}
use Rattle.spread.proofs.by_bins.position_by_bins.Goals as goal

pub sum_of_bins-low-requires : goal.sum_of_bins-low-requires
sum_of_bins-low-requires g c =
    let h = c.requires.1 in
    side_adds c.requires.0 h.is_sound c.low_side.ensures (low_within h.within c.args.dimension c.args.bin h.low h.high)

pub sum_of_bins-high-requires : goal.sum_of_bins-high-requires
sum_of_bins-high-requires g c =
    let h = c.requires.1 in
    side_adds c.requires.0 h.is_sound c.high_side.ensures (high_within h.within c.args.dimension c.args.bin h.high)

pub position_between-requires : goal.position_between-requires
position_between-requires g c =
    let a = c.args in
    let h = c.requires.1 in (
      plain_stats (record { holds = h.is_sound }) (low_within h.within a.dimension a.bin h.low h.high)
          (rw c.low_side.ensures at c.sum_of_bins-low.ensures),
      plain_stats (record { holds = h.is_sound }) (high_within h.within a.dimension a.bin h.high)
          (rw c.high_side.ensures at c.sum_of_bins-high.ensures),
    )

pub returns : goal.returns
returns g c =
    let a = c.args in
    position_is a.g (laid_view g.L.Layout.layout a.small.now a.large.now) a.x a.dimension a.bin
    (rw c.low_side.ensures at c.sum_of_bins-low.ensures) (rw c.high_side.ensures at c.sum_of_bins-high.ensures)
    c.position_between.ensures
