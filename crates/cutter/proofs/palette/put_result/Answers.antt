-- `cutter::palette::put_result` meets its contract: the statistics of an occupied box give its colour, its count and its
-- remainders.
-- Assumes nothing.
use mathlib.Core.Path.{ap, ◌∙◌}
use lib.ListN.{set}
use Rattle.table.specs.Layout.{laid_view}
use Rattle.cutter.specs.Inner.{with_colour_at, with_three_at, Coloured}
use Rattle.cutter.proofs.Colours.{stats_colour_lem, stats_count, stats_remainders_lem, stats_coloured}
use Rattle.cutter.proofs.palette.put_result.Given.{Over}
use Rattle.cutter.proofs.palette.put_result.Goals.{After-box_sum-s}
use Rattle.cutter.proofs.palette.put_result.Goals as goal

-- the statistics of the box give all three
coloured : (g : Over) (k : After-box_sum-s g) → Coloured k.box_sum-s.result
coloured g k =
    stats_coloured (record { holds = k.requires.can_sum.0.is_sound }) k.requires.can_sum.1 k.box_sum-s.ensures

pub put_colour-requires : goal.put_colour-requires
put_colour-requires g c = (coloured g (goal.at-put_colour-requires g c).After-box_sum-s, c.requires.i_in_bounds.0)

pub put_count-requires : goal.put_count-requires
put_count-requires g c = (
  c.requires.i_in_bounds.1,
  (coloured g (goal.at-put_count-requires g c).After-box_sum-s).fits,
)

pub put_remainders-requires : goal.put_remainders-requires
put_remainders-requires g c = (
  coloured g (goal.at-put_remainders-requires g c).After-box_sum-s,
  c.requires.i_in_bounds.2,
)

pub returns : goal.returns
returns g c =
    let a = c.args in
    let v = laid_view g.L.Layout.layout a.small.now a.large.now in
    let sums = c.box_sum-s.ensures in record {
      palette = c.put_colour.ensures ∙ ap (with_colour_at a.palette.now a.i) (stats_colour_lem a.g v a.x sums);
      counts = c.put_count.ensures ∙ ap (set a.counts.now a.i) (stats_count a.g v a.x sums);
      remainders = c.put_remainders.ensures
          ∙ ap (with_three_at a.remainders.now a.i) (stats_remainders_lem a.g v a.x sums);
    }
