-- `spread::by_moments::position_at` meets its contract: the high side is what the box has beside its low side.
-- Assumes nothing.
use Rattle.std.proofs.Common.{◌≡◌, ℕ, le_of_lt}
use Rattle.grid.specs.declared.place.Grid.{Grid}
use Rattle.table.specs.Cell.{View}
use Rattle.table.specs.Layout.{laid_view}
use Rattle.boxes.specs.declared.sides.Bounds.{Bounds}
use Rattle.boxes.specs.Box.{high_side}
use Rattle.boxes.proofs.Within.{low_within, high_within}
use Rattle.bins.specs.Sum.{box_sum}
use Rattle.sums.specs.declared.box_sums.Stats.{Stats}
use Rattle.sums.specs.Box.{stats_of}
use Rattle.spread.specs.Inner.{Sided, minus_stats}
use Rattle.spread.proofs.Choose.{plain_stats, position_is}
use Rattle.spread.proofs.Sides.{Less, high}
use Rattle.spread.proofs.by_moments.position_at.Goals as goal

module _ {g : Grid} {v : View} {x : Bounds} {d bin : ℕ} {all low : Stats} (s : Sided g v x d bin all low) where
  less_high : Less all low (box_sum g v (high_side x d bin))
  less_high =
      let h = s.cuts in
      high (record { holds = h.is_sound }) h.within d bin (le_of_lt h.low) (le_of_lt h.high) s.of_all s.of_low

  the_high : {r : Stats} → r ≡ minus_stats all low → r ≡ stats_of g v (high_side x d bin)
  unfolding stats_of
  the_high e = (less_high.exact e).is

pub less-high-requires : goal.less-high-requires
less-high-requires g c = (less_high c.requires).covers

pub position_between-requires : goal.position_between-requires
position_between-requires g c =
    let s = c.requires in
    let h = s.cuts in (
      plain_stats (record { holds = h.is_sound }) (low_within h.within c.args.dimension c.args.bin h.low h.high) s.of_low,
      plain_stats (record { holds = h.is_sound }) (high_within h.within c.args.dimension c.args.bin h.high)
          (the_high s c.less-high.ensures),
    )

pub returns : goal.returns
returns g c =
    let a = c.args in
    position_is a.g (laid_view g.L.Layout.layout a.small.now a.large.now) a.x a.dimension a.bin c.requires.of_low
    (the_high c.requires c.less-high.ensures) c.position_between.ensures
