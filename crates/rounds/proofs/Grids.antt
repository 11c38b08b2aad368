-- The whole grid as a box.
-- Assumes nothing.
use mathlib.Core.Path.{◌≡◌, ◌∙◌}
use Prim.Native.Nat.{ℕ}
use native.Mathlib.Nat.{sub-zero}
use Rattle.grid.specs.declared.place.Grid.{Grid}
use Rattle.basics.specs.Range.{sum_from}
use Rattle.grid.specs.Grid.{bins_of}
use Rattle.table.specs.Cell.{View}
use Rattle.bins.specs.Sum.{bin_sum, box_sum}
use Rattle.bins.proofs.Runs.{all_bins}
use Rattle.boxes.specs.Box.{whole_of}

pub whole_sum : (g : Grid) (v : View) (j : ℕ) → box_sum g v (whole_of g) j ≡ sum_from 0 (bins_of g) (λ p. v p j)
unfolding box_sum whole_of
whole_sum g v j =
    (λ i. bin_sum g v 0 (sub-zero g.size1 i) 0 (sub-zero g.size2 i) 0 (sub-zero g.size3 i) j) ∙ all_bins g v j
