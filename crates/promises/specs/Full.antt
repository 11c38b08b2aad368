-- How many boxes a cut is to end with. Definitions only.
use Rattle.std.specs.Prelude.{◌≡◌, true, List, ℕ, ◌*◌, ◌≤◌, length}
use Rattle.grid.specs.declared.place.Grid.{Grid}
use Rattle.basics.specs.Range.{sum_from}
use Rattle.grid.specs.Grid.{bins_of}
use Rattle.table.specs.Table.{is_sized, view_of}
use Rattle.bins.specs.Sum.{marks}
use Rattle.sums.specs.declared.source.Source.{Source}
use Rattle.cutter.specs.Cut.{Buffers, work_fits}

-- the occupied bins of a table: those of weight above 0
unfoldable pub occupied_bins : Grid → List ℕ → ℕ
occupied_bins g t = sum_from 0 (bins_of g) (λ p. marks (view_of t) p 0)

-- k in 1..256, and what is lent to a cut is as long as it should be
pub record Lends (source : Source) (g : Grid) (k : ℕ) (b : Buffers) : Type 0 where
  pub least : 1 ≤ k
  pub most : k ≤ 256
  pub work : work_fits source (is_sized b.work (bins_of g)) ≡ true
  pub palette : 3 * k ≤ length b.results.palette
  pub counts : k ≤ length b.results.counts
  pub remainders : 3 * k ≤ length b.results.remainders
  pub map : length b.results.map ≡ bins_of g
