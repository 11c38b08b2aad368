-- What the crate's own functions are told: how the bins of a dimension are walked through in the moments, and one
-- record taken from another. Definitions only.
use Rattle.std.specs.Prelude.{◌≡◌, true, ℕ, ◌-◌, ◌^◌, ◌≤◌, ◌<◌}
use Rattle.std.specs.Float.{binary64}
use Rattle.std.specs.Float.Ieee.{sub}
use Rattle.grid.specs.declared.place.Grid.{Grid}
use Rattle.basics.specs.Dimension.{choose}
use Rattle.grid.specs.Grid.{place_of, stride_at}
use Rattle.table.specs.Cell.{View}
use Rattle.table.specs.Sound.{limit, sound}
use Rattle.table.specs.Layouts.{Layout}
use Rattle.table.specs.Layout.{TableIn, view_in, CellIn}
use Rattle.boxes.specs.declared.sides.Bounds.{Bounds}
use Rattle.sums.specs.declared.box_sums.Stats.{Stats}
use Rattle.boxes.specs.Box.{min_at, max_at, low_side, slab_to, Within}
use Rattle.sums.specs.Box.{stats_of}
use Rattle.spread.specs.declared.walk.Walk.{Walk}

-- the two dimensions other than d, in order
unfoldable pub outer_of : ℕ → ℕ
outer_of d = choose d 1 0 0

unfoldable pub inner_of : ℕ → ℕ
inner_of d = choose d 2 2 1

-- the place of the last bins before two ends of the other dimensions, at bin 0 of dimension d
unfoldable pub start_of : Grid → ℕ → ℕ → ℕ → ℕ
start_of g d outer inner =
    choose d
    (place_of g 0 (outer - 1) (inner - 1))
    (place_of g (outer - 1) 0 (inner - 1))
    (place_of g (outer - 1) (inner - 1) 0)

-- "by inclusion and exclusion": the four places at bin 0 of dimension d, and the step from bin to bin
unfoldable pub walk_of : Grid → Bounds → ℕ → Walk
walk_of g x d =
    record {
      step = stride_at g d;
      outer = min_at x (outer_of d);
      inner = min_at x (inner_of d);
      corner = start_of g d (max_at x (outer_of d)) (max_at x (inner_of d));
      above = start_of g d (min_at x (outer_of d)) (max_at x (inner_of d));
      left = start_of g d (max_at x (outer_of d)) (min_at x (inner_of d));
      diagonal = start_of g d (min_at x (outer_of d)) (min_at x (inner_of d));
    }

-- a place with its five numbers, and squares that f64 holds
pub record HasRecord (l : Layout) (w : TableIn l) (p : ℕ) : Type 0 where
  pub cell : CellIn l w p
  pub squares : view_in l w p 4 ≤ 2 ^ 53

-- one record less another: weight and sums in whole numbers, the squares in f64
unfoldable pub minus_stats : Stats → Stats → Stats
minus_stats a b =
    record {
      weight = a.weight - b.weight;
      sum1 = a.sum1 - b.sum1;
      sum2 = a.sum2 - b.sum2;
      sum3 = a.sum3 - b.sum3;
      squares = sub binary64 a.squares b.squares;
    }

-- no whole number of the second is above the first's
pub record Covers (a b : Stats) : Type 0 where
  pub weight : b.weight ≤ a.weight
  pub sum1 : b.sum1 ≤ a.sum1
  pub sum2 : b.sum2 ≤ a.sum2
  pub sum3 : b.sum3 ≤ a.sum3

-- "by inclusion and exclusion": the corner less what lies left of the box, and less what lies above it but for what was
-- taken off with the left
unfoldable pub combined_stats : Stats → Stats → Stats → Stats → Stats
combined_stats corner left above diagonal = minus_stats (minus_stats corner left) (minus_stats above diagonal)

-- what is taken off is there
pub record CanCombine (corner left above diagonal : Stats) : Type 0 where
  pub row : Covers corner left
  pub row_above : Covers above diagonal
  pub rest : Covers (minus_stats corner left) (minus_stats above diagonal)

-- a position strictly inside a box, and a sound view
pub record CutsAt (g : Grid) (v : View) (x : Bounds) (d bin : ℕ) : Type 0 where
  pub is_sound : sound limit g v ≡ true
  pub within : Within g x
  pub low : min_at x d < bin
  pub high : bin < max_at x d

-- with the records of what lies before the bin, and before the box
pub record Slabs (g : Grid) (v : View) (x : Bounds) (d bin : ℕ) (before base : Stats) : Type 0 where
  pub cuts : CutsAt g v x d bin
  pub of_bin : before ≡ stats_of g v (slab_to x d bin)
  pub of_box : base ≡ stats_of g v (slab_to x d (min_at x d))

-- with the records of the box and of its low side
pub record Sided (g : Grid) (v : View) (x : Bounds) (d bin : ℕ) (all low : Stats) : Type 0 where
  pub cuts : CutsAt g v x d bin
  pub of_all : all ≡ stats_of g v x
  pub of_low : low ≡ stats_of g v (low_side x d bin)
