-- Laws of a walk: what a reason says, how the total goes on, and how a walk goes on from a bin to the next.
-- Assumes nothing.
use mathlib.Core.Path.{◌≡◌, refl, sym, ap, ◌∙◌}
use Rattle.std.specs.Prelude.{Option, Some, None, is_some}
use mathlib.Core.Bool.{Bool, true, false, true≢false, cond, ◌&&◌}
use mathlib.Core.List.{List}
use Prim.Native.Nat.{ℕ, zero, suc, ◌+◌, ◌*◌, ◌≤◌, ◌<◌}
use native.Mathlib.Nat.{zero-add, add-mul, one-mul, zero-mul, mul_assoc}
use native.Mathlib.Decide.{ℕ_discrete}
use native.Mathlib.Omega.{arith}
use borrow.Author.Tests.{leb-true, le-leb, lt-leb, lt-ltb, le-ltb, ltb-true, ltb-false}
use lib.Dec.{eqb, leb, ltb}
use lib.ListN.{length, get_or, set, length-set}
use lib.Seq.{get_or-set_same, get_or-set_other}
use Rattle.grid.specs.declared.place.Grid.{Grid}
use Rattle.basics.proofs.Range.{list_is}
use Rattle.grid.specs.Grid.{bins_of, place_of}
use Rattle.grid.proofs.Places.{plane_start}
use Rattle.table.specs.Cell.{View, cell_of}
use Rattle.table.specs.Table.{Table, Sized, view_of, written, put_at}
use Rattle.table.proofs.Cells.{number_cell}
use Rattle.table.proofs.Tables.{has_cell, put_sized, put_there, put_elsewhere, holds_list}
use Rattle.table.proofs.Bins.{bin_same}
use Rattle.rescue.specs.Rescue.{keeps_bounds, reason_for, kept_before, reason_at, rescued, reasons_of}
use Rattle.rescue.specs.declared.bins.Reason.{Reason}
use Rattle.rescue.specs.declared.bins.Reason.TheVariants as reason
use Rattle.rescue.specs.Inner.{told, cleared, with_weight, Walked, Onward}

-- ---- whether there is a reason
pub told_some : (r : Option Reason) → true ≡ is_some r → eqb (told r) 0 ≡ false
told_some None e = absurd (true≢false e)
told_some (Some reason.Bounds) e = refl
told_some (Some reason.Total) e = refl

pub told_none : (r : Option Reason) → is_some r ≡ false → eqb (told r) 0 ≡ true
told_none None e = refl
told_none (Some r) e = absurd (true≢false e)

-- ---- the reason, case by case
module _ (most : ℕ) {keeps : Bool} (had weight : ℕ) where
  pub out_of_bounds : keeps ≡ false → reason_for most keeps had weight ≡ 1
  unfolding reason_for
  out_of_bounds e = rw e refl

  pub no_room : keeps ≡ true → most < had + weight → reason_for most keeps had weight ≡ 2
  unfolding reason_for
  no_room e h = rw (e, lt-leb (had + weight) most h) refl

  pub kept : keeps ≡ true → had + weight ≤ most → reason_for most keeps had weight ≡ 0
  unfolding reason_for
  kept e h = rw (e, le-leb (had + weight) most h) refl

-- ---- the total
-- a bin is kept where there is room for its weight
room : (most : ℕ) (keeps : Bool) (had weight : ℕ) → had ≤ most
    → with_weight had weight (reason_for most keeps had weight) ≤ most
unfolding with_weight reason_for
room most false had weight h = h
room most true had weight h = go (leb (had + weight) most) refl
  where
    go : (b : Bool) → leb (had + weight) most ≡ b
        → cond (eqb (cond b 0 2) 0) (had + weight) had ≤ most
    go true e = leb-true (had + weight) most e
    go false e = h

pub reason_room : (most : ℕ) (keeps : Bool) (had weight : ℕ) {x : ℕ} → had ≤ most → x ≡ reason_for most keeps had weight
    → with_weight had weight x ≤ most
reason_room most keeps had weight h e = rw e (room most keeps had weight h)

module _ (most : ℕ) (g : Grid) (v : View) where
  -- the total with the bin at a place
  pub kept_next : (p : ℕ)
      → kept_before most g v (p + 1) ≡ with_weight (kept_before most g v p) (v p 0) (reason_at most g v p)
  unfolding kept_before with_weight reason_at
  kept_next p = ap (kept_before most g v) (next p)
    where
      next : (p : ℕ) → p + 1 ≡ suc p
      next p = omega arith

  pub kept_under : (p : ℕ) → kept_before most g v p ≤ most
  unfolding kept_before with_weight
  kept_under zero = omega arith
  kept_under (suc p) = room most (keeps_bounds most g v p) (kept_before most g v p) (v p 0) (kept_under p)

-- ---- one bin
-- bins of the same numbers
pub keeps_same : (most : ℕ) (g : Grid) (v u : View) (p : ℕ) → ((j : ℕ) → j < 5 → v p j ≡ u p j)
    → keeps_bounds most g v p ≡ keeps_bounds most g u p
unfolding keeps_bounds
keeps_same most g v u p e = λ i. leb (e 0 (omega arith) i) most && bin_same g v u p e i

-- a table with a bin cleared for a reason, or not
module _ {t : Table} {n : ℕ} (s : Sized t n) (p : ℕ) (h : p < n) where
  cleared_sized : (x : ℕ) → Sized (cleared t p x) n
  unfolding cleared
  cleared_sized x = go (eqb x 0)
    where
      go : (b : Bool) → Sized (cond b t (put_at t p (cell_of (λ j. 0)))) n
      go true = s
      go false = put_sized s p (cell_of (λ j. 0))

  cleared_there : (x j : ℕ) → j < 5 → view_of (cleared t p x) p j ≡ cond (eqb x 0) (view_of t p j) 0
  unfolding cleared
  cleared_there x j k = go (eqb x 0)
    where
      go : (b : Bool) → view_of (cond b t (put_at t p (cell_of (λ j. 0)))) p j ≡ cond b (view_of t p j) 0
      go true = refl
      go false = put_there t p (cell_of (λ j. 0)) (has_cell s p h) j k ∙ number_cell (λ j. 0) j k

  cleared_elsewhere : (x q j : ℕ) → j < 5 → (p ≡ q → ⊥) → view_of (cleared t p x) q j ≡ view_of t q j
  unfolding cleared
  cleared_elsewhere x q j k d = go (eqb x 0)
    where
      go : (b : Bool) → view_of (cond b t (put_at t p (cell_of (λ j. 0)))) q j ≡ view_of t q j
      go true = refl
      go false = put_elsewhere t p (cell_of (λ j. 0)) (has_cell s p h) q j k d

-- ---- a walk goes on by one bin
module _ {most : ℕ} {g : Grid} {v : View} {p : ℕ} {t : Table} {l : List ℕ} {had : ℕ} (w : Walked most g v p t l had)
    (h : p < bins_of g) (lent : Sized t (bins_of g)) (list : length l ≡ bins_of g) where
  -- the bin at hand is as it was
  here : (j : ℕ) → j < 5 → view_of t p j ≡ v p j
  here j k = w.table p j h k ∙ ap (λ (b : Bool). cond b (rescued most g v p j) (v p j)) (le-ltb p p (omega arith))

  module _ {x : ℕ} (e : x ≡ reason_for most (keeps_bounds most g (view_of t) p) had (view_of t p 0)) where
    due : x ≡ reason_at most g v p
    unfolding reason_at
    due =
        e
        ∙ (λ i. reason_for most (keeps_same most g (view_of t) v p here i) (w.total i) (here 0 (omega arith) i))

    pub walked_next : Walked most g v (p + 1) (cleared t p x) (set l p x) (with_weight had (view_of t p 0) x)
    unfolding rescued
    walked_next =
        record {
          table = λ q j a k. in_table q j a k (ℕ_discrete p q);
          reasons = λ q a. in_list q a (ℕ_discrete q p);
          total = (λ i. with_weight (w.total i) (here 0 (omega arith) i) (due i)) ∙ sym (kept_next most g v p);
        }
      where
        before : (q : ℕ) → (p ≡ q → ⊥) → ltb q p ≡ ltb q (p + 1)
        before q d = go (ltb q p) refl
          where
            go : (b : Bool) → ltb q p ≡ b → ltb q p ≡ ltb q (p + 1)
            go true e = e ∙ sym (lt-ltb q (p + 1) (omega (arith, ltb-true q p e)))
            go false e = e ∙ sym (le-ltb q (p + 1) (omega (arith, ltb-false q p e)))

        in_table : (q j : ℕ) → q < bins_of g → j < 5 → Dec (p ≡ q)
            → view_of (cleared t p x) q j ≡ cond (ltb q (p + 1)) (rescued most g v q j) (v q j)
        in_table q j a k (yes z) =
            rw (← z)
            (cleared_there lent p h x j k
            ∙ (λ i. cond (eqb (due i) 0) (here j k i) 0)
            ∙ sym (ap (λ (b : Bool). cond b (rescued most g v p j) (v p j)) (lt-ltb p (p + 1) (omega arith))))
        in_table q j a k (no z) =
            cleared_elsewhere lent p h x q j k z
            ∙ w.table q j a k
            ∙ ap (λ (b : Bool). cond b (rescued most g v q j) (v q j)) (before q z)

        in_list : (q : ℕ) → q < p + 1 → Dec (q ≡ p) → get_or (set l p x) q 0 ≡ reason_at most g v q
        in_list q a (yes z) = rw z (get_or-set_same l p x 0 (omega (arith, h, list)) ∙ due)
        in_list q a (no z) = get_or-set_other l p q x 0 z ∙ w.reasons q (omega arith)

-- ---- a walk from a place to another, whatever the table held
module _ {most : ℕ} {g : Grid} {t : Table} {l : List ℕ} {had : ℕ} where
  pub onward_none : (p : ℕ) → Sized t (bins_of g) → length l ≡ bins_of g → had ≤ most → Onward most g p p t l had t l had
  onward_none p s e h = record { lent = s; list = e; under = h; goes = λ v w. w }

  module _ {p q : ℕ} {u : Table} {m : List ℕ} {total : ℕ} (o : Onward most g p q t l had u m total) where
    pub onward_next : q < bins_of g → {x : ℕ}
        → x ≡ reason_for most (keeps_bounds most g (view_of u) q) total (view_of u q 0)
        → Onward most g p (q + 1) t l had (cleared u q x) (set m q x) (with_weight total (view_of u q 0) x)
    onward_next h {x} e =
        record {
          lent = cleared_sized o.lent q h x;
          list = length-set m q x ∙ o.list;
          under = reason_room most (keeps_bounds most g (view_of u) q) total (view_of u q 0) o.under e;
          goes = λ v w. walked_next (o.goes v w) h o.lent o.list e;
        }

    pub onward_join : {r : ℕ} {t' : Table} {l' : List ℕ} {sum : ℕ} → Onward most g q r u m total t' l' sum
        → Onward most g p r t l had t' l' sum
    onward_join n =
        record { lent = n.lent; list = n.list; under = n.under; goes = λ v w. n.goes v (o.goes v w) }

    -- the places by other names
    pub onward_at : {p' q' : ℕ} → p ≡ p' → q ≡ q' → Onward most g p' q' t l had u m total
    onward_at e f = rw (← e, ← f) o

-- ---- where rows and planes end
module _ (g : Grid) (r : ℕ) where
  pub row_end : (gr : ℕ) → place_of g r gr g.size3 ≡ place_of g r (gr + 1) 0
  unfolding place_of
  row_end gr =
      omega (
        arith,
        add-mul (r * g.size2) gr g.size3,
        add-mul (r * g.size2) (gr + 1) g.size3,
        add-mul gr 1 g.size3,
        one-mul g.size3,
      )

  pub plane_end : place_of g r g.size2 0 ≡ place_of g (r + 1) 0 0
  unfolding place_of
  plane_end =
      ap (λ (n : ℕ). n * g.size3 + 0)
      (omega (arith, add-mul r 1 g.size2, one-mul g.size2))

pub first_place : (g : Grid) → place_of g 0 0 0 ≡ 0
first_place g = plane_start g 0 ∙ zero-add _ ∙ zero-mul _

pub last_place : (g : Grid) → place_of g g.size1 0 0 ≡ bins_of g
unfolding bins_of
last_place g = plane_start g g.size1 ∙ zero-add _ ∙ sym (mul_assoc g.size1 g.size2 g.size3)

-- ---- a walk over all bins
module _ {most : ℕ} {g : Grid} {t u : Table} {l m : List ℕ} {total : ℕ}
    (o : Onward most g 0 (bins_of g) t l 0 u m total) (s : Sized t (bins_of g)) where
  walked : Walked most g (view_of t) (bins_of g) u m total
  unfolding kept_before
  walked =
      o.goes (view_of t) (record {
        table = λ q j a k. ap (λ (b : Bool). cond b (rescued most g (view_of t) q j) (view_of t q j))
            (sym (le-ltb q 0 (omega arith)));
        reasons = λ q a. absurd (omega arith);
        total = refl;
      })

  pub all_rescued : u ≡ written (bins_of g) (rescued most g (view_of t))
  all_rescued =
      holds_list (record {
        lent = o.lent;
        at = λ q j a k. walked.table q j a k
            ∙ ap (λ (b : Bool). cond b (rescued most g (view_of t) q j) (view_of t q j)) (lt-ltb q (bins_of g) a);
      })

  pub all_reasons : m ≡ reasons_of most g (view_of t)
  unfolding reasons_of
  all_reasons = list_is (bins_of g) (reason_at most g (view_of t)) m 0 o.list (λ k a. walked.reasons k a)
