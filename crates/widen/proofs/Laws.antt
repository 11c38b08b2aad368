-- What a caller of widen may use without seeing inside its definitions: the widened table holds what the narrow one
-- does, and what its answer tells.
-- Assumes nothing.
use Rattle.std.specs.Prelude.{Some}
use mathlib.Core.Path.{◌≡◌, refl, sym}
use mathlib.Core.Bool.{Bool, true, not, ◌&&◌}
use Prim.Native.Nat.{ℕ, suc}
use borrow.Author.Tests.{not-false}
use Rattle.grid.specs.declared.place.Grid.{Grid}
use Rattle.basics.specs.Answer.{refuse}
use Rattle.grid.specs.Grid.{grid_of, on_grid, number_on, bins_of}
use Rattle.basics.proofs.Ends.{passed}
use Rattle.basics.proofs.Range.{and_left, and_right}
use Rattle.grid.proofs.Ends.{call_refused, call_done}
use Rattle.table.specs.Layouts.{Narrow}
use Rattle.table.specs.Cell.{View}
use Rattle.table.specs.Table.{Table, Sized, is_sized}
use Rattle.table.specs.Narrow.{NarrowTable, narrow_view}
use Rattle.table.specs.Layout.{SizedIn, is_sized_in}
use Rattle.table.specs.Sound.{limit_of, sound}
use Rattle.table.proofs.Tables.{Holds, test_sized, list_holds}
use Rattle.table.proofs.Layouts.{sized_in, HoldsIn, holds_same_in}
use Rattle.table.proofs.Soundness.{Sound}
use Rattle.widen.specs.Widen.{widened, widen_number_on, widen_on, widen_number, widen_later}
use Rattle.widen.proofs.Calls.{widen_after, all_done}

-- ---- the widened table
-- it holds what the narrow one does
pub widened_holds : (n : ℕ) (t : NarrowTable) → Holds n (widened n t) (narrow_view t)
unfolding widened
widened_holds n t = list_holds n (narrow_view t)

-- and what the narrow one is known to hold
pub widened_same : (n : ℕ) (t : NarrowTable) (v : View) → HoldsIn Narrow n t v → Holds n (widened n t) v
widened_same n t v h = holds_same_in (widened_holds n t) h.at

-- ---- the call
module _ (b1 b2 b3 : ℕ) (t : NarrowTable) (old : Table) where
  pub widen_refused : {n : ℕ} → widen_number b1 b2 b3 t old ≡ suc n → widen_later b1 b2 b3 t old ≡ old
  unfolding widen_number widen_later
  widen_refused e = call_refused (grid_of b1 b2 b3) (widen_on t old) (widen_after b1 b2 b3 t old) old e

  -- its tests on an accepted grid, in their order
  pub widen_tests_lem : {g : Grid} → grid_of b1 b2 b3 ≡ Some g → widen_number b1 b2 b3 t old
      ≡ refuse (not (is_sized_in Narrow t (bins_of g) && is_sized old (bins_of g))) 5
      (refuse (not (sound (limit_of Narrow) g (narrow_view t))) 6 0)
  unfolding widen_number widen_on widen_number_on number_on on_grid
  widen_tests_lem e = rw e refl

  -- what a widening that is done tells
  pub record WidenDone : Type 0 where
    pub g : Grid
    pub chosen : grid_of b1 b2 b3 ≡ Some g
    pub lent : SizedIn Narrow t (bins_of g)
    pub list : Sized old (bins_of g)
    pub sound_before : Sound (limit_of Narrow) g (narrow_view t)
    pub later : widen_later b1 b2 b3 t old ≡ widened (bins_of g) t

  pub widen_says : widen_number b1 b2 b3 t old ≡ 0 → WidenDone
  unfolding widen_number widen_later widen_on widen_number_on
  widen_says e =
      let c = call_done (grid_of b1 b2 b3) (widen_on t old) (widen_after b1 b2 b3 t old) old e in
      let six = passed _ 4 _ c.number in
      let last = passed _ 5 0 six.1 in
      let first : Bool = is_sized_in Narrow t (bins_of c.g) in
      let second : Bool = is_sized old (bins_of c.g) in
      record {
        g = c.g;
        chosen = c.is;
        lent = sized_in Narrow t (bins_of c.g) (and_left first second (not-false _ six.0));
        list = test_sized (and_right first second (not-false _ six.0));
        sound_before = record { holds = not-false _ last.0 };
        later = c.later;
      }

  -- and the other way round: "where none applies, the answer is 0"
  pub widen_accepts : {g : Grid} → grid_of b1 b2 b3 ≡ Some g → SizedIn Narrow t (bins_of g)
      → Sized old (bins_of g) → sound (limit_of Narrow) g (narrow_view t) ≡ true → widen_number b1 b2 b3 t old ≡ 0
  widen_accepts e lent list is_sound = sym (all_done b1 b2 b3 t old e lent list is_sound refl).0
