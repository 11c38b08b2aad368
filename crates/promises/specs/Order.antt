-- Two plans whose tables are cut alike (Rules, Demands). Definitions only.
use Rattle.std.specs.Prelude.{◌≡◌, ℕ, get_or}
use Rattle.pixels.specs.declared.colour.Rgb.{Rgb}
use Rattle.grid.specs.declared.place.Grid.{Grid}
use Rattle.grid.specs.Grid.{colour_place}
use Rattle.table.specs.Layouts.{Layout}
use Rattle.table.specs.Layout.{TableIn}
use Rattle.loader.specs.Plan.{Plan, Filled, ends_in}
use Rattle.sums.specs.declared.source.Source.{Source}
use Rattle.cutter.specs.Cut.{BuffersIn, cut_record_in, cut_later_in}

-- two tables that a cut tells nothing apart by: the same boxes with their spreads, palette, counts, map and work table,
-- and the same index for every pixel, which "is the map's byte at its bin"
pub record SameCut (l : Layout) (source : Source) (g : Grid) (b1 b2 b3 k : ℕ) (b : BuffersIn l) (t s : TableIn l)
    : Type 0
  where
    pub boxes : cut_record_in l source b1 b2 b3 k t b ≡ cut_record_in l source b1 b2 b3 k s b
    pub palette : (cut_later_in l source b1 b2 b3 k t b).results.palette
        ≡ (cut_later_in l source b1 b2 b3 k s b).results.palette
    pub counts : (cut_later_in l source b1 b2 b3 k t b).results.counts
        ≡ (cut_later_in l source b1 b2 b3 k s b).results.counts
    pub remainders : (cut_later_in l source b1 b2 b3 k t b).results.remainders
        ≡ (cut_later_in l source b1 b2 b3 k s b).results.remainders
    pub map : (cut_later_in l source b1 b2 b3 k t b).results.map ≡ (cut_later_in l source b1 b2 b3 k s b).results.map
    pub work : (cut_later_in l source b1 b2 b3 k t b).work ≡ (cut_later_in l source b1 b2 b3 k s b).work
    pub pixel : (c : Rgb)
        → get_or (cut_later_in l source b1 b2 b3 k t b).results.map (colour_place g c) 0
        ≡ get_or (cut_later_in l source b1 b2 b3 k s b).results.map (colour_place g c) 0

-- two plans that run to the same table, which is cut alike for every k and whatever is lent
pub record CutAlike (l : Layout) (g : Grid) (b1 b2 b3 : ℕ) (p q : Plan) : Type 0 where
  pub first : TableIn l
  pub second : TableIn l
  pub first_ran : ends_in l b1 b2 b3 p ≡ Filled first
  pub second_ran : ends_in l b1 b2 b3 q ≡ Filled second
  pub same : first ≡ second
  pub alike : (source : Source) (k : ℕ) (b : BuffersIn l) → SameCut l source g b1 b2 b3 k b first second
