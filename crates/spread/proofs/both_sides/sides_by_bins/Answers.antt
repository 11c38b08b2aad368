-- `spread::both_sides::sides_by_bins` meets its contract: both sides are boxes of the grid, each added up by itself.
-- Assumes nothing.
use Rattle.table.specs.Layout.{laid_view}
use Rattle.spread.specs.Cut.{sides_at}
use Rattle.spread.proofs.Cases.{low_box, high_box, side_adds}
use Rattle.spread.proofs.both_sides.sides_by_bins.Goals as goal

pub sum_of_bins-requires : goal.sum_of_bins-requires
sum_of_bins-requires g c =
    let h = c.requires.can_add in
    side_adds h.table h.is_sound c.low_side-low.ensures
    (low_box (laid_view g.L.Layout.layout c.args.small.now c.args.large.now) h.within c.requires.position_value)

pub sum_of_bins-requires-2 : goal.sum_of_bins-requires-2
sum_of_bins-requires-2 g c =
    let h = c.requires.can_add in
    side_adds h.table h.is_sound c.high_side-high.ensures
    (high_box (laid_view g.L.Layout.layout c.args.small.now c.args.large.now) h.within c.requires.position_value)

pub returns : goal.returns
unfolding sides_at
returns g c =
    λ i. record {
      position = c.args.position;
      low = (rw c.low_side-low.ensures at c.sum_of_bins.ensures) i;
      high = (rw c.high_side-high.ensures at c.sum_of_bins-2.ensures) i;
    }
