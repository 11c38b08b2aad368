-- "The sign of a computed spread is shown right from whole numbers at totals up to 200,000": a box of more than one bin
-- has a computed spread above, at or below 0 as the exact one, squares − S/n with S = c1² + c2² + c3², is.
-- Assumes nothing.
use mathlib.Core.Path.{◌≡◌}
use mathlib.Core.Bool.{true, false}
use Prim.Native.Nat.{◌*◌, ◌≤◌}
use Rattle.grid.specs.declared.place.Grid.{Grid}
use Rattle.table.specs.Cell.{View}
use Rattle.table.specs.Sound.{limit, sound}
use Rattle.boxes.specs.declared.sides.Bounds.{Bounds}
use Rattle.bins.specs.Sum.{box_sum}
use Rattle.sums.specs.Box.{stats_of}
use Rattle.boxes.specs.Box.{Within}
use Rattle.spread.specs.Spread.{exact_q, spread_of, Signed}
use Rattle.boxes.specs.Box.{one_bin}
use Rattle.spread.proofs.Sign.{box_sign}

pub spread_sign : (g : Grid) (v : View) (x : Bounds) → sound limit g v ≡ true → Within g x → one_bin x ≡ false
    → 1 ≤ box_sum g v x 0 → box_sum g v x 0 ≤ 200000
    → Signed (spread_of x (stats_of g v x)) (exact_q (box_sum g v x 1) (box_sum g v x 2) (box_sum g v x 3))
    (box_sum g v x 0 * box_sum g v x 4)
spread_sign g v x e w more some few = box_sign (record { holds = e }) w some few more
