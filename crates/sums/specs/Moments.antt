-- Moments (Rules, Moments). Definitions only.
use Rattle.std.specs.Prelude.{◌≡◌, true, ℕ, ◌+◌, ◌<◌}
use Rattle.grid.specs.declared.place.Grid.{Grid}
use Rattle.grid.specs.Grid.{bins_of, bin_at}
use Rattle.table.specs.Cell.{View}
use Rattle.table.specs.Layouts.{Layout}
use Rattle.table.specs.Layout.{TableIn, SizedIn, view_in, TableOfIn}
use Rattle.table.specs.Sound.{limit_of, sound}
use Rattle.bins.specs.Sum.{bin_sum}
use Rattle.sums.specs.declared.source.Source.{Source}
use Rattle.sums.specs.declared.source.Source.TheVariants.{Moments, Bins}

-- number j of all bins with r, g and b below the three given
unfoldable pub below_sum : Grid → View → ℕ → ℕ → ℕ → ℕ → ℕ
below_sum g v r gr b j = bin_sum g v 0 r 0 gr 0 b j

-- "Each place of the work table gets the sum over all bins with r, g and b at most its own"
unfoldable pub moments_of : Grid → View → View
moments_of g v p j = below_sum g v (bin_at g 0 p + 1) (bin_at g 1 p + 1) (bin_at g 2 p + 1) j

-- the view u holds the moments of the view v at the places before p
pub record MomentsBefore (g : Grid) (v u : View) (p : ℕ) : Type 0 where
  pub at : (q j : ℕ) → q < p → j < 5 → u q j ≡ moments_of g v q j

-- it holds them at every place of the grid
abbrev pub HasMoments : Grid → View → View → Type 0
HasMoments g v u = MomentsBefore g v u (bins_of g)

-- what the moments ask for: a table that is sound for its layout's limit, and a work table of its size
pub record ForMoments (l : Layout) (g : Grid) (t w : TableIn l) : Type 0 where
  pub table : TableOfIn l g t
  pub is_sound : sound (limit_of l) g (view_in l t) ≡ true
  pub work : SizedIn l w (bins_of g)

-- a work table of the grid that holds the moments of a table
pub record Holds (l : Layout) (g : Grid) (t w : TableIn l) : Type 0 where
  pub work : SizedIn l w (bins_of g)
  pub has_moments : HasMoments g (view_in l t) (view_in l w)

-- what a source of sums asks of the work table: moments stand in it, and who adds up bins needs none
abbrev pub Provides : Source → (l : Layout) → Grid → TableIn l → TableIn l → Type 0
Provides Moments l g t w = Holds l g t w
Provides Bins l g t w = Unit {0}

-- what the sum of a box asks for: a table that is sound for a limit, and what its source needs
pub record CanSum (l : Layout) (most : ℕ) (source : Source) (g : Grid) (t w : TableIn l) : Type 0 where
  pub table : TableOfIn l g t
  pub is_sound : sound most g (view_in l t) ≡ true
  pub provided : Provides source l g t w
