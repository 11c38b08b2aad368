-- `spread::both_sides::sides_by_moments` meets its contract: the low side is a box of the grid, and the high side what
-- it leaves.
-- Assumes nothing.
use Rattle.std.specs.Prelude.{Some}
use Rattle.std.proofs.Common.{◌≡◌, sym, subst, le_of_lt}
use Rattle.grid.specs.declared.place.Grid.{Grid}
use Rattle.table.specs.Cell.{View}
use Rattle.table.specs.Layout.{laid_view}
use Rattle.table.proofs.Soundness.{Sound}
use Rattle.table.specs.Sound.{limit}
use Rattle.boxes.specs.declared.sides.Bounds.{Bounds}
use Rattle.boxes.specs.Box.{low_side, high_side, Within}
use Rattle.bins.specs.Sum.{box_sum}
use Rattle.sums.specs.declared.box_sums.Stats.{Stats}
use Rattle.sums.specs.Box.{stats_of}
use Rattle.spread.specs.declared.position.Position.{Position}
use Rattle.spread.specs.Cut.{best_cut, sides_at}
use Rattle.spread.proofs.Best.{answered}
use Rattle.spread.proofs.Cases.{low_box}
use Rattle.spread.proofs.Sides.{Less, high}
use Rattle.spread.proofs.both_sides.sides_by_moments.Goals as goal

-- the rest of the box, once the low side is known
rest : {g : Grid} {v : View} (x : Bounds) {p : Position} {all low : Stats} → Sound limit g v → Within g x
    → best_cut g v x ≡ Some p → all ≡ stats_of g v x → low ≡ stats_of g v (low_side x p.dimension p.bin)
    → Less all low (box_sum g v (high_side x p.dimension p.bin))
rest {g} {v} x {p} sound within best all low =
    let a = (answered g v x best).1.inside in
    high sound within p.dimension p.bin (le_of_lt a.0) (le_of_lt a.1) all low

pub box_sum-low-requires : goal.box_sum-low-requires
box_sum-low-requires g c =
    let h = c.requires.can_sum in
    let v = laid_view g.L.Layout.layout c.args.small.now c.args.large.now in
    (h.0, subst (Within c.args.g) (sym c.low_side.ensures) (low_box v h.1 c.requires.position_value.0))

pub less-requires : goal.less-requires
less-requires g c =
    let h = c.requires in
    (rest c.args.x (record { holds = h.can_sum.0.is_sound }) h.can_sum.1 h.position_value.0 h.position_value.1
    (rw c.low_side.ensures at c.box_sum-low.ensures)).covers

pub returns : goal.returns
unfolding sides_at stats_of
returns g c =
    let h = c.requires in
    let low = rw c.low_side.ensures at c.box_sum-low.ensures in
    let left =
    rest c.args.x (record { holds = h.can_sum.0.is_sound }) h.can_sum.1 h.position_value.0 h.position_value.1 low
    in
    λ i. record { position = c.args.position; low = low i; high = (left.exact c.less.ensures).is i }
