-- What the crate's own functions are told: sums on the way to the moments, and where the work table has them.
-- Definitions only.
use Rattle.std.specs.Prelude.{◌≡◌, ℕ, ◌+◌, ◌-◌, ◌^◌, ◌≤◌, ◌<◌}
use Rattle.basics.specs.Range.{sum_from}
use Rattle.grid.specs.declared.place.Grid.{Grid}
use Rattle.grid.specs.Grid.{place_of, Inside}
use Rattle.table.specs.declared.cell.Cell.{Cell}
use Rattle.table.specs.Cell.{View, number_of, cell_of, plus_cell, minus_cell, AtLeast}
use Rattle.table.specs.Layouts.{Layout}
use Rattle.table.specs.Layout.{TableIn, view_in, put_in}
use Rattle.table.specs.Sound.{limit}
use Rattle.bins.specs.Sum.{bin_sum}
use Rattle.sums.specs.declared.source.Source.TheVariants.{Moments}
use Rattle.sums.specs.Moments.{moments_of, MomentsBefore, ForMoments, CanSum}

-- the cell of the moments at a place
unfoldable pub moment_cell : Grid → View → ℕ → Cell
moment_cell g v p = cell_of (moments_of g v p)

-- the sum along a row of bins, below b
unfoldable pub line_sum : Grid → View → ℕ → ℕ → ℕ → ℕ → ℕ
line_sum g v r gr b j = sum_from 0 b (λ z. v (place_of g r gr z) j)

-- the cell of the sums along a row, below b
unfoldable pub line_cell : Grid → View → ℕ → ℕ → ℕ → Cell
line_cell g v r gr b = cell_of (line_sum g v r gr b)

-- "by inclusion and exclusion": the moments at a bin, from the sums along its row and those of the row above, of the
-- plane before and of the row above in that plane
unfoldable pub joined_cell : Cell → Cell → Cell → Cell → Cell
joined_cell line above before corner = plus_cell (plus_cell line above) (minus_cell before corner)

-- nothing is taken that is not there, and each sum fits a u64
pub record CanJoin (line above before corner : Cell) : Type 0 where
  pub least : AtLeast before corner
  pub fits : (j : ℕ) → j < 5 → number_of line j + number_of above j + (number_of before j - number_of corner j) < 2 ^ 64

-- a work table with the moments at a place written
abbrev pub with_moment : (l : Layout) → Grid → View → TableIn l → ℕ → TableIn l
with_moment l g v w p = put_in l w p (moment_cell g v p)

-- the two tables, and the work table holds the moments at the places before p
pub record Before (l : Layout) (g : Grid) (t w : TableIn l) (p : ℕ) : Type 0 where
  pub tables : ForMoments l g t w
  pub made : MomentsBefore g (view_in l t) (view_in l w) p

-- that, before a bin of the grid
pub record Ready (l : Layout) (g : Grid) (t w : TableIn l) (r gr b : ℕ) : Type 0 where
  pub inside : Inside g r gr b
  pub before : Before l g t w (place_of g r gr b)

-- a bin with no plane before it or no row above it
pub record AtEdge (r gr : ℕ) : Type 0 where
  pub no_row : 0 < r → gr ≡ 0

-- the work table holds the moments, and some bins of the grid end at r, gr and b, at least one in each dimension
pub record Corner (l : Layout) (g : Grid) (t w : TableIn l) (r gr b : ℕ) : Type 0 where
  pub can_sum : CanSum l limit Moments g t w
  pub some_one : 0 < r
  pub one : r ≤ g.size1
  pub some_two : 0 < gr
  pub two : gr ≤ g.size2
  pub some_three : 0 < b
  pub three : b ≤ g.size3

-- the cell of the sums over three runs of bins
unfoldable pub bin_cell : Grid → View → ℕ → ℕ → ℕ → ℕ → ℕ → ℕ → Cell
bin_cell g v a n b m c k = cell_of (bin_sum g v a n b m c k)
