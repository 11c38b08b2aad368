-- What a caller of compare may use without seeing inside its definitions: a refusal hands back its answer and two zeros
-- and leaves the list as it was, and where the answer is 0 the grid is accepted, the lengths are right, both tables are
-- sound, and each number is known.
-- Assumes nothing.
use Rattle.std.specs.Prelude.{Some}
use mathlib.Core.Path.{◌≡◌, refl, sym, ap, ◌∙◌}
use mathlib.Core.Bool.{Bool, true, false, not, ◌&&◌}
use mathlib.Core.List.{List}
use Prim.Native.Nat.{ℕ, suc}
use borrow.Author.Tests.{eqb-true, not-false}
use lib.Dec.{eqb}
use lib.IntN.{ℤ}
use lib.ListN.{length}
use Rattle.grid.specs.declared.place.Grid.{Grid}
use Rattle.basics.specs.Answer.{refuse, when_done}
use Rattle.grid.specs.Grid.{grid_of, on_grid, number_on, bins_of}
use Rattle.basics.proofs.Ends.{passed}
use Rattle.basics.proofs.Range.{and_left, and_right}
use Rattle.grid.proofs.Ends.{call_refused, call_done}
use Rattle.table.specs.Cell.{View}
use Rattle.table.specs.Table.{Table, table_len, Sized, is_sized, view_of}
use Rattle.table.specs.Sound.{limit, sound}
use Rattle.table.proofs.Tables.{test_sized}
use Rattle.table.proofs.Soundness.{Sound}
use Rattle.compare.specs.declared.call.Compared.{Compared}
use Rattle.compare.specs.Compare.{differing, first_differing, differences_of, compare_number_on, all_sized, compare_on}
use Rattle.compare.specs.Compare.{compare_number, compared, compare_record, compare_later}
use Rattle.compare.proofs.Calls.{refusal, on, all_done}
use Rattle.compare.proofs.Views.{differing_other, first_other}

module _ (b1 b2 b3 : ℕ) (t s : Table) (l : List ℤ) where
  abbrev number : ℕ
  number = compare_number b1 b2 b3 t s l

  abbrev back : Compared
  back = compare_record b1 b2 b3 t s l

  abbrev later : List ℤ
  later = compare_later b1 b2 b3 t s l

  -- the answer in the record
  pub compare_answer : back.number ≡ number
  unfolding compare_record
  compare_answer = refl

  pub compare_refused : {n : ℕ} → number ≡ suc n → (back ≡ refusal (suc n)) × (later ≡ l)
  unfolding compare_number compare_record compare_later compared
  compare_refused e =
      let d = call_refused (grid_of b1 b2 b3) (compare_on t s l) (on b1 b2 b3 t s l differing) 0 e in
      let f = call_refused (grid_of b1 b2 b3) (compare_on t s l) (on b1 b2 b3 t s l first_differing) 0 e in (
        λ i. record { number = e i; differ = d i; first = f i },
        call_refused (grid_of b1 b2 b3) (compare_on t s l) (on b1 b2 b3 t s l differences_of) l e,
      )

  -- its tests on an accepted grid, in their order
  pub compare_tests_lem : {g : Grid} → grid_of b1 b2 b3 ≡ Some g → number
      ≡ refuse
      (not ((is_sized t (bins_of g) && is_sized s (bins_of g)) && eqb (length l) (table_len (bins_of g)))) 5
      (refuse (not (sound limit g (view_of t) && sound limit g (view_of s))) 6 0)
  unfolding compare_number compare_on compare_number_on all_sized number_on on_grid
  compare_tests_lem e = rw e refl

  -- what a comparison that is done tells
  pub record CompareDone : Type 0 where
    pub g : Grid
    pub chosen : grid_of b1 b2 b3 ≡ Some g
    pub lent : Sized t (bins_of g) × Sized s (bins_of g)
    pub list : length l ≡ table_len (bins_of g)
    pub are_sound : Sound limit g (view_of t) × Sound limit g (view_of s)
    pub differ : back.differ ≡ differing (bins_of g) (view_of t) (view_of s)
    pub first : back.first ≡ first_differing (bins_of g) (view_of t) (view_of s)
    pub written : later ≡ differences_of (bins_of g) (view_of t) (view_of s)

  -- what comes of it
  pub comes : {A : Type 0} {g : Grid} → grid_of b1 b2 b3 ≡ Some g → compare_on t s l g ≡ 0
      → (f : ℕ → View → View → A) (refused : A)
      → compared b1 b2 b3 t s l f refused ≡ f (bins_of g) (view_of t) (view_of s)
  unfolding compared on_grid when_done
  comes p q f refused = rw (p, q) refl

  pub compare_says : number ≡ 0 → CompareDone
  unfolding compare_number compare_record compare_later compare_on compare_number_on all_sized
  compare_says e =
      let c = call_done {A = ℕ} (grid_of b1 b2 b3) (compare_on t s l) (λ g. 0) 0 e in
      let six = passed _ 4 _ c.number in
      let last = passed _ 5 0 six.1 in
      let n = bins_of c.g in
      let first : Bool = is_sized t n in
      let second : Bool = is_sized s n in
      let list : Bool = eqb (length l) (table_len n) in
      let one : Bool = sound limit c.g (view_of t) in
      let two : Bool = sound limit c.g (view_of s) in
      let lengths = not-false _ six.0 in
      let both = not-false _ last.0 in
      record {
        g = c.g;
        chosen = c.is;
        lent = (
          test_sized (and_left first second (and_left (first && second) list lengths)),
          test_sized (and_right first second (and_left (first && second) list lengths)),
        );
        list = eqb-true (length l) (table_len n) (and_right (first && second) list lengths);
        are_sound = (record { holds = and_left one two both }, record { holds = and_right one two both });
        differ = comes c.is c.number differing 0;
        first = comes c.is c.number first_differing 0;
        written = comes c.is c.number differences_of l;
      }

  pub compare_accepts : {g : Grid} → grid_of b1 b2 b3 ≡ Some g → Sized t (bins_of g) → Sized s (bins_of g)
      → length l ≡ table_len (bins_of g) → sound limit g (view_of t) ≡ true → sound limit g (view_of s) ≡ true
      → number ≡ 0
  compare_accepts e first second list one two =
      sym (ap (λ (c : Compared). c.number) (all_done b1 b2 b3 t s l e first second list one two refl refl).0
      ∙ compare_answer)

-- ---- the two tables in the other order
and_turned : (a b : Bool) → (a && b) ≡ (b && a)
and_turned true true = refl
and_turned true false = refl
and_turned false true = refl
and_turned false false = refl

module _ (t s : Table) (l : List ℤ) (g : Grid) where
  on_other : compare_on s t l g ≡ compare_on t s l g
  unfolding compare_on compare_number_on all_sized
  on_other =
      λ i. refuse
      (not (and_turned (is_sized s (bins_of g)) (is_sized t (bins_of g)) i && eqb (length l) (table_len (bins_of g)))) 5
      (refuse (not (and_turned (sound limit g (view_of s)) (sound limit g (view_of t)) i)) 6 0)

module _ (b1 b2 b3 : ℕ) (t s : Table) (l : List ℤ) where
  pub record_other : compare_record b1 b2 b3 s t l ≡ compare_record b1 b2 b3 t s l
  unfolding compare_record compare_number compared
  record_other =
      λ i. record {
        number = number_on (grid_of b1 b2 b3) (λ g. on_other t s l g i);
        differ = on_grid (grid_of b1 b2 b3) 0
            (λ g. when_done (on_other t s l g i) (differing_other (bins_of g) (view_of t) (view_of s) i) 0);
        first = on_grid (grid_of b1 b2 b3) 0
            (λ g. when_done (on_other t s l g i) (first_other (bins_of g) (view_of t) (view_of s) i) 0);
      }

  -- what it leaves, where the comparison is done
  pub later_other : compare_number b1 b2 b3 t s l ≡ 0
      → {g : Grid} → grid_of b1 b2 b3 ≡ Some g
      → compare_later b1 b2 b3 s t l ≡ differences_of (bins_of g) (view_of s) (view_of t)
  unfolding compare_number compare_later number_on on_grid
  later_other e {g} p =
      comes b1 b2 b3 s t l p (on_other t s l g ∙ (rw p at e)) differences_of l
