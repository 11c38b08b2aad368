-- The narrow layout beside the wide one (Rules, Layouts): "Up to there loading, merging and cutting give exactly what
-- the wide layout gives". Definitions only.
use Rattle.std.specs.Prelude.{Option}
use Rattle.std.specs.Prelude.{◌≡◌, Bool, true, not, List, [], ◌∷◌, ℕ, suc, ◌^◌, ◌≤◌, ◌<◌}
use Rattle.grid.specs.declared.place.Grid.{Grid}
use Rattle.grid.specs.Grid.{grid_of, bins_of}
use Rattle.table.specs.Layouts.{Narrow}
use Rattle.table.specs.Cell.{View}
use Rattle.table.specs.Table.{Table, Sized, is_sized, view_of}
use Rattle.table.specs.Narrow.{NarrowTable, NarrowSized, narrow_view}
use Rattle.table.specs.Layout.{is_sized_in}
use Rattle.table.specs.Sound.{limit, limit_of, total, sound}
use Rattle.loader.specs.Load.{load_number, load_later, load_number_in, load_later_in}
use Rattle.loader.specs.Merge.{merge_number, merge_later, merge_number_in, merge_later_in}
use Rattle.loader.specs.Plan.{Plan, Filled, ends}
use Rattle.widen.specs.Widen.{widened}
use Rattle.sums.specs.declared.source.Source.{Source}
use Rattle.sums.specs.declared.source.Source.TheVariants.{Moments, Bins}
use Rattle.sums.specs.Moments.{moments_of}
use Rattle.cutter.specs.Cut.{Results, BuffersIn, Buffers, cut_number, cut_record, cut_later}
use Rattle.cutter.specs.Cut.{cut_number_in, cut_record_in, cut_later_in}
use Rattle.promises.specs.Numbers.{Tests, applies, no_grid, on_bins}

-- a narrow table of a grid whose total is within its limit
pub record Fits (g : Grid) (t : NarrowTable) : Type 0 where
  pub lent : NarrowSized t (bins_of g)
  pub under : total g (narrow_view t) ≤ limit_of Narrow

-- "No weight, no component sum and no moment of these reaches 2^32": the numbers of a view at a place of the grid and
-- its moments there. The squares and theirs, which have 64 bits, are below 2^50
pub record Below (g : Grid) (v : View) (p : ℕ) : Type 0 where
  pub numbers : (j : ℕ) → j < 4 → v p j < 2 ^ 32
  pub moments : (j : ℕ) → j < 4 → moments_of g v p j < 2 ^ 32
  pub squares : v p 4 < 2 ^ 50
  pub square_moments : moments_of g v p 4 < 2 ^ 50

-- work tables that are both of a grid, or both not
abbrev pub SameWork : Grid → NarrowTable → Table → Type 0
SameWork g narrow wide = is_sized_in Narrow narrow (bins_of g) ≡ is_sized wide (bins_of g)

abbrev pub with_narrow : NarrowTable → Results → BuffersIn Narrow
with_narrow work r = record { work = work; results = r }

abbrev pub with_wide : Table → Results → Buffers
with_wide work r = record { work = work; results = r }

-- a load of a narrow table t beside that of a wide table w: the answer, and what the tables hold
pub record SameLoads (b1 b2 b3 : ℕ) (t : NarrowTable) (w : Table) (colours : List ℕ) (weighted : Bool)
    (weights : List ℕ) : Type 0 where
  pub number : load_number_in Narrow b1 b2 b3 t colours weighted weights ≡ load_number b1 b2 b3 w colours weighted weights
  pub leaves : narrow_view (load_later_in Narrow b1 b2 b3 t colours weighted weights)
      ≡ view_of (load_later b1 b2 b3 w colours weighted weights)

-- and a merge
pub record SameMerges (b1 b2 b3 : ℕ) (t s : NarrowTable) (w u : Table) : Type 0 where
  pub number : merge_number_in Narrow b1 b2 b3 t s ≡ merge_number b1 b2 b3 w u
  pub leaves : narrow_view (merge_later_in Narrow b1 b2 b3 t s) ≡ view_of (merge_later b1 b2 b3 w u)

-- both cuts leave the work table that they are lent as it was
pub record WorkStays (source : Source) (b1 b2 b3 k : ℕ) (t : NarrowTable) (w : Table) (narrow : NarrowTable)
    (wide : Table) (r : Results) : Type 0 where
  pub in_narrow : (cut_later_in Narrow source b1 b2 b3 k t (with_narrow narrow r)).work ≡ narrow
  pub in_wide : (cut_later source b1 b2 b3 k w (with_wide wide r)).work ≡ wide

-- a cut of a narrow table t beside that of a wide table w: the answer, the whole record, palette, counts, remainders
-- and map. Whatever the work tables held, a cut with moments that is done leaves the same in both; the slow cut, and a
-- refusal, leave each as it was
pub record SameCuts (source : Source) (b1 b2 b3 k : ℕ) (t : NarrowTable) (w : Table) (narrow : NarrowTable)
    (wide : Table) (r : Results) : Type 0 where
  pub number : cut_number_in Narrow source b1 b2 b3 k t (with_narrow narrow r)
      ≡ cut_number source b1 b2 b3 k w (with_wide wide r)
  pub hands : cut_record_in Narrow source b1 b2 b3 k t (with_narrow narrow r)
      ≡ cut_record source b1 b2 b3 k w (with_wide wide r)
  pub leaves : (cut_later_in Narrow source b1 b2 b3 k t (with_narrow narrow r)).results
      ≡ (cut_later source b1 b2 b3 k w (with_wide wide r)).results
  pub work : source ≡ Moments → cut_number_in Narrow source b1 b2 b3 k t (with_narrow narrow r) ≡ 0
      → narrow_view (cut_later_in Narrow source b1 b2 b3 k t (with_narrow narrow r)).work
      ≡ view_of (cut_later source b1 b2 b3 k w (with_wide wide r)).work
  pub slow : source ≡ Bins → WorkStays source b1 b2 b3 k t w narrow wide r
  pub refused : (n : ℕ) → cut_number_in Narrow source b1 b2 b3 k t (with_narrow narrow r) ≡ suc n
      → WorkStays source b1 b2 b3 k t w narrow wide r

-- a plan beside the narrow table t that it ran to: the table is within the limit, and in the wide layout the plan runs
-- to the widened one
pub record SamePlans (b1 b2 b3 : ℕ) (g : Grid) (p : Plan) (t : NarrowTable) : Type 0 where
  pub fits : Fits g t
  pub runs : ends b1 b2 b3 p ≡ Filled (widened (bins_of g) t)

-- a wide table that a narrow one was widened into: it holds the same, and is sound with the same total
pub record Widening (g : Grid) (t : NarrowTable) (w : Table) : Type 0 where
  pub view : view_of w ≡ narrow_view t
  pub is_sound : sound limit g (view_of w) ≡ true
  pub total_is : total g (view_of w) ≡ total g (narrow_view t)

-- widening 1, 5, 6
unfoldable pub widen_tests : Option Grid → NarrowTable → Table → Tests
widen_tests c t old =
    (1, no_grid c)
    ∷ (5, on_bins c (λ g. not (is_sized_in Narrow t (bins_of g))))
    ∷ (5, on_bins c (λ g. not (is_sized old (bins_of g))))
    ∷ (6, on_bins c (λ g. not (sound (limit_of Narrow) g (narrow_view t))))
    ∷ []

unfoldable pub widen_applies : ℕ → ℕ → ℕ → NarrowTable → Table → ℕ → Bool
widen_applies b1 b2 b3 t old = applies (widen_tests (grid_of b1 b2 b3) t old)

-- what a widening is given that nothing refuses: no 5, 6
pub record CanWiden (t : NarrowTable) (old : Table) (g : Grid) : Type 0 where
  pub lent : NarrowSized t (bins_of g)
  pub list : Sized old (bins_of g)
  pub is_sound : sound (limit_of Narrow) g (narrow_view t) ≡ true
