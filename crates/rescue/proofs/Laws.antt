-- What a caller of rescue may use without seeing inside its definitions: a refusal leaves the table and the list as
-- they were, and where the answer is 0 the grid is accepted, the lengths are right, and each number and each byte is
-- known.
-- Assumes nothing.
use Rattle.std.specs.Prelude.{Some}
use mathlib.Core.Path.{◌≡◌, refl, sym, ap, ◌∙◌}
use mathlib.Core.Bool.{Bool, not, ◌&&◌}
use mathlib.Core.List.{List}
use Prim.Native.Nat.{ℕ, suc, ◌<◌}
use native.Mathlib.Nat.{zero-add}
use borrow.Author.Tests.{eqb-true, not-false}
use lib.Dec.{eqb}
use lib.ListN.{length, get_or}
use Rattle.grid.specs.declared.place.Grid.{Grid}
use Rattle.basics.specs.Answer.{refuse, when_done}
use Rattle.grid.specs.Grid.{grid_of, on_grid, number_on, bins_of}
use Rattle.basics.proofs.Ends.{passed}
use Rattle.basics.proofs.Range.{and_left, and_right, length_list, list_at}
use Rattle.grid.proofs.Ends.{call_refused, call_done}
use Rattle.table.specs.Cell.{View}
use Rattle.table.specs.Table.{Table, Sized, is_sized, view_of, written}
use Rattle.table.specs.Sound.{limit}
use Rattle.table.proofs.Tables.{test_sized, Holds, list_holds}
use Rattle.rescue.specs.Rescue.{reason_at, rescued, reasons_of, rescue_on, rescue_number, rescue_leaves, rescue_table}
use Rattle.rescue.specs.Rescue.{rescue_reasons}
use Rattle.rescue.proofs.Calls.{table_on, reasons_on, all_done}

module _ (b1 b2 b3 : ℕ) (t : Table) (l : List ℕ) where
  abbrev number : ℕ
  number = rescue_number b1 b2 b3 t l

  abbrev later : Table
  later = rescue_table b1 b2 b3 t l

  abbrev reasons : List ℕ
  reasons = rescue_reasons b1 b2 b3 t l

  pub rescue_refused : {n : ℕ} → number ≡ suc n → (later ≡ t) × (reasons ≡ l)
  unfolding rescue_number rescue_table rescue_reasons rescue_leaves
  rescue_refused e = (
    call_refused (grid_of b1 b2 b3) (rescue_on t l) (table_on b1 b2 b3 t l) t e,
    call_refused (grid_of b1 b2 b3) (rescue_on t l) (reasons_on b1 b2 b3 t l) l e,
  )

  -- its tests on an accepted grid
  pub rescue_tests_lem : {g : Grid} → grid_of b1 b2 b3 ≡ Some g
      → number ≡ refuse (not (is_sized t (bins_of g) && eqb (length l) (bins_of g))) 5 0
  unfolding rescue_number rescue_on number_on on_grid
  rescue_tests_lem e = rw e refl

  -- what a rescue that is done tells
  pub record RescueDone (g : Grid) : Type 0 where
    pub lent : Sized t (bins_of g)
    pub list : length l ≡ bins_of g
    pub holds : Holds (bins_of g) later (rescued limit g (view_of t))
    pub as_many : length reasons ≡ bins_of g
    pub reason : (p : ℕ) → p < bins_of g → get_or reasons p 0 ≡ reason_at limit g (view_of t) p

  reasons_at : (g : Grid) {m : List ℕ} → m ≡ reasons_of limit g (view_of t) → (p : ℕ) → p < bins_of g
      → get_or m p 0 ≡ reason_at limit g (view_of t) p
  unfolding reasons_of
  reasons_at g e p h =
      ap (λ (x : List ℕ). get_or x p 0) e ∙ list_at 0 (bins_of g) (reason_at limit g (view_of t)) p 0 h
      ∙ ap (reason_at limit g (view_of t)) (zero-add p)

  reasons_many : (g : Grid) {m : List ℕ} → m ≡ reasons_of limit g (view_of t) → length m ≡ bins_of g
  unfolding reasons_of
  reasons_many g e = ap length e ∙ length_list 0 (bins_of g) (reason_at limit g (view_of t))

  -- what is left where the answer is 0
  leaves : {g : Grid} → grid_of b1 b2 b3 ≡ Some g → rescue_on t l g ≡ 0
      → (done : ℕ → Grid → View → List ℕ) (kept : List ℕ)
      → rescue_leaves b1 b2 b3 t l done kept ≡ done limit g (view_of t)
  unfolding rescue_leaves on_grid when_done
  leaves p q done kept = rw (p, q) refl

  pub rescue_says : {g : Grid} → grid_of b1 b2 b3 ≡ Some g → number ≡ 0 → RescueDone g
  unfolding rescue_table rescue_reasons rescue_on
  rescue_says {g} p e =
      let n = bins_of g in
      let sized : Bool = is_sized t n in
      let listed : Bool = eqb (length l) n in
      let done : rescue_on t l g ≡ 0 = sym (rescue_tests_lem p) ∙ e in
      let lengths = not-false _ (passed _ 4 0 done).0 in
      let bytes = leaves p done reasons_of l in
      record {
        lent = test_sized (and_left sized listed lengths);
        list = eqb-true (length l) n (and_right sized listed lengths);
        holds = rw (leaves p done (λ most g v. written (bins_of g) (rescued most g v)) t)
            (list_holds n (rescued limit g (view_of t)));
        as_many = reasons_many g bytes;
        reason = reasons_at g bytes;
      }

  -- and on which grid it is done
  pub record RescueGrid : Type 0 where
    pub g : Grid
    pub chosen : grid_of b1 b2 b3 ≡ Some g

  pub rescue_grid : number ≡ 0 → RescueGrid
  unfolding rescue_number
  rescue_grid e =
      let c = call_done {A = ℕ} (grid_of b1 b2 b3) (rescue_on t l) (λ g. 0) 0 e in
      record { g = c.g; chosen = c.is }

  pub rescue_accepts : {g : Grid} → grid_of b1 b2 b3 ≡ Some g → Sized t (bins_of g) → length l ≡ bins_of g
      → number ≡ 0
  rescue_accepts e s k = sym (all_done b1 b2 b3 t l e s k refl refl).0
