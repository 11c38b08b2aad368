-- How a rescue ends where its grid is refused, and where it is done: its answer, and what it leaves.
-- Assumes nothing.
use Rattle.std.specs.Prelude.{None, Some}
use mathlib.Core.Path.{◌≡◌}
use mathlib.Core.List.{List}
use Prim.Native.Nat.{ℕ}
use borrow.Author.Tests.{eq-eqb}
use lib.ListN.{length}
use Rattle.grid.specs.declared.place.Grid.{Grid}
use Rattle.basics.specs.Answer.{refuse, when_done}
use Rattle.grid.specs.Grid.{grid_of, bins_of}
use Rattle.grid.proofs.Ends.{grid_refused, ends}
use Rattle.table.specs.Table.{Table, Sized, view_of, written}
use Rattle.table.specs.Sound.{limit}
use Rattle.table.proofs.Tables.{sized_test}
use Rattle.rescue.specs.Rescue.{rescued, reasons_of, rescue_on, rescue_number, rescue_leaves, rescue_table}
use Rattle.rescue.specs.Rescue.{rescue_reasons}

module _ (b1 b2 b3 : ℕ) (t : Table) (l : List ℕ) where
  abbrev pub Ends : ℕ → Table → List ℕ → Type 0
  Ends n u m =
      (n ≡ rescue_number b1 b2 b3 t l) × ((u ≡ rescue_table b1 b2 b3 t l) × (m ≡ rescue_reasons b1 b2 b3 t l))

  -- what a rescue that is done leaves, on a grid
  abbrev pub table_on : Grid → Table
  table_on g = written (bins_of g) (rescued limit g (view_of t))

  abbrev pub reasons_on : Grid → List ℕ
  reasons_on g = reasons_of limit g (view_of t)

  pub no_grid_lem : grid_of b1 b2 b3 ≡ None → Ends 1 t l
  unfolding rescue_number rescue_table rescue_reasons rescue_leaves
  no_grid_lem e =
      let u = grid_refused (grid_of b1 b2 b3) (rescue_on t l) table_on t e in
      let m = grid_refused (grid_of b1 b2 b3) (rescue_on t l) reasons_on l e in
      (u.0, (u.1, m.1))

  module _ {g : Grid} (e : grid_of b1 b2 b3 ≡ Some g) where
    ends_with : {n : ℕ} → rescue_on t l g ≡ n → {u : Table} → u ≡ when_done n (table_on g) t
        → {m : List ℕ} → m ≡ when_done n (reasons_on g) l → Ends n u m
    unfolding rescue_number rescue_table rescue_reasons rescue_leaves
    ends_with q p o =
        let u = ends (grid_of b1 b2 b3) (rescue_on t l) table_on t e q p in
        let m = ends (grid_of b1 b2 b3) (rescue_on t l) reasons_on l e q o in
        (u.0, (u.1, m.1))

    pub all_done : Sized t (bins_of g) → length l ≡ bins_of g → {u : Table} → u ≡ table_on g → {m : List ℕ}
        → m ≡ reasons_on g → Ends 0 u m
    unfolding rescue_on refuse when_done
    all_done h k p o = ends_with (simp (sized_test h, eq-eqb _ _ k)) p o
