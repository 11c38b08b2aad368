-- How a widening ends where its grid is refused, and where it is done: its answer, and what it leaves.
-- Assumes nothing.
use Rattle.std.specs.Prelude.{None, Some}
use mathlib.Core.Path.{◌≡◌}
use mathlib.Core.Bool.{true}
use Prim.Native.Nat.{ℕ}
use Rattle.grid.specs.declared.place.Grid.{Grid}
use Rattle.basics.specs.Answer.{refuse, when_done}
use Rattle.grid.specs.Grid.{grid_of, bins_of}
use Rattle.grid.proofs.Ends.{grid_refused, ends}
use Rattle.table.specs.Layouts.{Narrow}
use Rattle.table.specs.Table.{Table, Sized}
use Rattle.table.specs.Narrow.{NarrowTable, narrow_view}
use Rattle.table.specs.Layout.{SizedIn}
use Rattle.table.specs.Sound.{limit_of, sound}
use Rattle.table.proofs.Tables.{sized_test}
use Rattle.table.proofs.Layouts.{in_sized}
use Rattle.widen.specs.Widen.{widened, widen_number_on, widen_on, widen_number, widen_later}

module _ (b1 b2 b3 : ℕ) (t : NarrowTable) (old : Table) where
  abbrev pub Ends : ℕ → Table → Type 0
  Ends n u = (n ≡ widen_number b1 b2 b3 t old) × (u ≡ widen_later b1 b2 b3 t old)

  -- the table where the answer is 0, on a grid
  abbrev pub widen_after : Grid → Table
  widen_after g = widened (bins_of g) t

  pub no_grid_lem : grid_of b1 b2 b3 ≡ None → Ends 1 old
  unfolding widen_number widen_later
  no_grid_lem e = grid_refused (grid_of b1 b2 b3) (widen_on t old) widen_after old e

  module _ {g : Grid} (e : grid_of b1 b2 b3 ≡ Some g) where
    ends_with : {n : ℕ} → widen_on t old g ≡ n → {u : Table} → u ≡ when_done n (widen_after g) old → Ends n u
    unfolding widen_number widen_later
    ends_with q r = ends (grid_of b1 b2 b3) (widen_on t old) widen_after old e q r

    pub all_done : SizedIn Narrow t (bins_of g) → Sized old (bins_of g)
        → sound (limit_of Narrow) g (narrow_view t) ≡ true → {u : Table} → u ≡ widen_after g → Ends 0 u
    unfolding widen_on widen_number_on refuse when_done
    all_done h k s r = ends_with (simp (in_sized Narrow t (bins_of g) h, sized_test k, s)) r
