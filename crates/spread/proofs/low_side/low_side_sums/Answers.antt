-- `spread::low_side_sums` meets its contract: what lies before the bin is what lies before the box and its low side.
-- Assumes nothing.
use Rattle.std.proofs.Common.{ℕ, le_of_lt}
use Rattle.grid.specs.declared.place.Grid.{Grid}
use Rattle.table.specs.Cell.{View}
use Rattle.boxes.specs.declared.sides.Bounds.{Bounds}
use Rattle.boxes.specs.Box.{low_side}
use Rattle.bins.specs.Sum.{box_sum}
use Rattle.sums.specs.declared.box_sums.Stats.{Stats}
use Rattle.sums.specs.Box.{stats_of}
use Rattle.spread.specs.Inner.{Slabs}
use Rattle.spread.proofs.Sides.{Less, low}
use Rattle.spread.proofs.low_side.low_side_sums.Goals as goal

less_low : {g : Grid} {v : View} {x : Bounds} {d bin : ℕ} {before base : Stats} → Slabs g v x d bin before base
    → Less before base (box_sum g v (low_side x d bin))
less_low {d = d} {bin = bin} s =
    let h = s.cuts in
    low (record { holds = h.is_sound }) h.within d bin (le_of_lt h.low) (le_of_lt h.high) s.of_bin s.of_box

pub less-requires : goal.less-requires
less-requires g c = (less_low c.requires).covers

pub returns : goal.returns
unfolding stats_of
returns g c = ((less_low c.requires).exact c.less.ensures).is
