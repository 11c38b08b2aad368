-- Comparing two tables: in the other order, added up, of equal tables, and which bins it counts.
-- Assumes nothing.
use Rattle.std.specs.Prelude.{Some}
use mathlib.Core.Path.{◌≡◌, refl, sym, ap, ◌∙◌}
use mathlib.Core.Bool.{Bool, not, cond}
use mathlib.Core.List.{List, ◌∷◌, map}
use Prim.Native.Nat.{ℕ, zero, suc, ◌+◌, ◌*◌, ◌/◌, ◌%◌, ◌^◌, ◌<◌}
use native.Mathlib.Omega.{arith}
use lib.Dec.{eqb}
use lib.IntN.{ℤ, pos, neg_ℤ, nat_abs, ◌+ℤ◌}
use lib.ListN.{get_or}
use Rattle.basics.specs.Range.{list_from, sum_from}
use Rattle.basics.proofs.Range.{list_is, sum_same, all_same}
use Rattle.basics.proofs.Lists.{map_list}
use Rattle.grid.specs.declared.place.Grid.{Grid}
use Rattle.grid.specs.Grid.{grid_of, on_grid, bins_of}
use Rattle.grid.proofs.Places.{chose}
use Rattle.table.specs.Table.{Table, table_len, Sized, view_of}
use Rattle.table.proofs.Tables.{view_at, wide_len}
use Rattle.compare.specs.Compare.{difference, differs, differing, first_differing}
use Rattle.compare.specs.Compare.{compare_number, compare_record, compare_later}
use Rattle.compare.proofs.Differences.{differences_at, differences_are}
use Rattle.compare.proofs.Views.{difference_other, difference_added, differs_by, alike, first_high, first_holds}
use Rattle.compare.proofs.Views.{none_before, differing_never, first_never, none_differs, difference_small}
use Rattle.compare.proofs.Laws.{compare_answer, compare_says, record_other, later_other}
use Rattle.seluvava.specs.Sizes.{bins_for}
use Rattle.promises.specs.Compare.{plus_each, changed, IsFirst}

-- ---- lists
plus_list : (i n : ℕ) (f h : ℕ → ℤ) → plus_each (list_from i n f) (list_from i n h) ≡ list_from i n (λ k. f k +ℤ h k)
unfolding list_from plus_each
plus_list i zero f h = refl
plus_list i (suc n) f h = λ k. (f i +ℤ h i) ∷ plus_list (suc i) n f h k

-- a table by what it holds
number_at : (t : Table) (k : ℕ) → get_or t k 0 ≡ view_of t (k / 5) (k % 5)
number_at t k = ap (λ (i : ℕ). get_or t i 0) (split k) ∙ sym (view_at t (k / 5) (k % 5))
  where
    split : (k : ℕ) → k ≡ 5 * (k / 5) + k % 5
    split k = omega arith

table_list : {t : Table} {n : ℕ} → Sized t n → t ≡ list_from 0 (table_len n) (λ i. view_of t (i / 5) (i % 5))
table_list {t} {n} s =
    list_is (table_len n) (λ i. view_of t (i / 5) (i % 5)) t 0 s.numbers (λ k b. number_at t k)

signed_list : {t : Table} {n : ℕ} → Sized t n
    → map pos t ≡ list_from 0 (table_len n) (λ i. pos (view_of t (i / 5) (i % 5)))
signed_list {t} {n} s =
    ap (map pos) (table_list s) ∙ map_list pos 0 (table_len n) (λ i. view_of t (i / 5) (i % 5))

bins_are : (b1 b2 b3 : ℕ) {g : Grid} → grid_of b1 b2 b3 ≡ Some g → bins_for b1 b2 b3 ≡ bins_of g
unfolding bins_for on_grid
bins_are b1 b2 b3 e = rw e refl

module _ (b1 b2 b3 : ℕ) (t s : List ℕ) (l : List ℤ) where
  -- ---- the other order: the same answer, number and place, refused or done
  pub other_order : compare_record b1 b2 b3 s t l ≡ compare_record b1 b2 b3 t s l
  other_order = record_other b1 b2 b3 t s l

  module _ (done : compare_number b1 b2 b3 t s l ≡ 0) where
    -- and every difference negated
    pub other_differences : compare_later b1 b2 b3 s t l ≡ map neg_ℤ (compare_later b1 b2 b3 t s l)
    other_differences =
        let d = compare_says b1 b2 b3 t s l done in
        let n = bins_of d.g in
        let v = view_of t in
        let u = view_of s in
        later_other b1 b2 b3 t s l done d.chosen ∙ differences_are n u v
        ∙ (λ i. list_from 0 (table_len n) (λ k. difference_other v u (k / 5) (k % 5) i))
        ∙ sym (map_list neg_ℤ 0 (table_len n) (λ k. difference v u (k / 5) (k % 5)))
        ∙ ap (map neg_ℤ) (sym (d.written ∙ differences_are n v u))

    -- ---- added to the first table they give the second
    pub differences_added : plus_each (map pos t) (compare_later b1 b2 b3 t s l) ≡ map pos s
    differences_added =
        let d = compare_says b1 b2 b3 t s l done in
        let n = bins_of d.g in
        let v = view_of t in
        let u = view_of s in
        (λ i. plus_each (signed_list d.lent.0 i) ((d.written ∙ differences_are n v u) i))
        ∙ plus_list 0 (table_len n) (λ k. pos (v (k / 5) (k % 5))) (λ k. difference v u (k / 5) (k % 5))
        ∙ (λ i. list_from 0 (table_len n) (λ k. difference_added v u (k / 5) (k % 5) i))
        ∙ sym (signed_list d.lent.1)

    -- ---- tables that differ nowhere are the same
    pub differ_nowhere : (compare_record b1 b2 b3 t s l).differ ≡ 0 → t ≡ s
    differ_nowhere z =
        let d = compare_says b1 b2 b3 t s l done in
        let n = bins_of d.g in
        let v = view_of t in
        let u = view_of s in
        table_list d.lent.0
        ∙ sym
        (list_is (table_len n) (λ i. v (i / 5) (i % 5)) s 0 d.lent.1.numbers
        (λ k b. number_at s k
        ∙ sym
        (alike v u (k / 5)
        (none_differs n v u (sym d.differ ∙ z) (k / 5) (omega (arith, b, wide_len n))) (k % 5) (omega arith))))

    -- ---- which bins are counted
    told : (p : ℕ) → p < bins_for b1 b2 b3 → differs (view_of t) (view_of s) p ≡ changed (compare_later b1 b2 b3 t s l) p
    unfolding changed
    told p h =
        let d = compare_says b1 b2 b3 t s l done in
        let n = bins_of d.g in
        let v = view_of t in
        let u = view_of s in
        differs_by v u p
        ∙ ap not
        (all_same 0 5 _ _
        (λ j a b.
        ap (λ (z : ℤ). eqb (nat_abs z) 0)
        (sym (ap (λ (x : List ℤ). get_or x (5 * p + j) (pos 0)) d.written
        ∙ differences_at n v u p j (rw (bins_are b1 b2 b3 d.chosen) at h) (omega arith)))))

    -- as many as have a difference that is not 0
    pub counts_changed : (compare_record b1 b2 b3 t s l).differ
        ≡ sum_from 0 (bins_for b1 b2 b3) (λ p. cond (changed (compare_later b1 b2 b3 t s l) p) 1 0)
    unfolding differing
    counts_changed =
        let d = compare_says b1 b2 b3 t s l done in
        d.differ ∙ ap (λ (n : ℕ). differing n (view_of t) (view_of s)) (sym (bins_are b1 b2 b3 d.chosen))
        ∙ sum_same 0 (bins_for b1 b2 b3) _ _ (λ p a b. ap (λ (c : Bool). cond c 1 0) (told p (omega arith)))

    -- and the place is the first of them
    pub first_changed :
        IsFirst (bins_for b1 b2 b3) (changed (compare_later b1 b2 b3 t s l)) (compare_record b1 b2 b3 t s l).first
    unfolding first_differing
    first_changed =
        let d = compare_says b1 b2 b3 t s l done in
        let n = bins_of d.g in
        let f = differs (view_of t) (view_of s) in
        let bins = bins_are b1 b2 b3 d.chosen in
        let high = first_high 0 n f in
        record {
          within = omega (arith, d.first, high, bins);
          here = λ h. sym (told (compare_record b1 b2 b3 t s l).first h)
              ∙ ap f d.first
              ∙ first_holds 0 n f (omega (arith, h, d.first, bins));
          none_before = λ p h. sym (told p (omega (arith, h, d.first, high, bins)))
              ∙ none_before 0 n f p (omega arith) (omega (arith, h, d.first));
        }

    -- ---- no difference is 2^50 or more in size
    pub differences_small : (p j : ℕ) → p < bins_for b1 b2 b3 → j < 5
        → nat_abs (get_or (compare_later b1 b2 b3 t s l) (5 * p + j) (pos 0)) < 2 ^ 50
    differences_small p j h k =
        let d = compare_says b1 b2 b3 t s l done in
        let n = bins_of d.g in
        let inside : p < n = rw (bins_are b1 b2 b3 d.chosen) at h in
        rw (ap (λ (x : List ℤ). get_or x (5 * p + j) (pos 0)) d.written
        ∙ differences_at n (view_of t) (view_of s) p j inside k)
        (difference_small (chose b1 b2 b3 d.g d.chosen).accepted d.are_sound.0 d.are_sound.1 p inside j
        k)

-- ---- equal tables differ nowhere, and the place is the number of bins
pub equal_tables : (b1 b2 b3 : ℕ) (t : List ℕ) (l : List ℤ) → compare_number b1 b2 b3 t t l ≡ 0
    → compare_record b1 b2 b3 t t l ≡ record { number = 0; differ = 0; first = bins_for b1 b2 b3 }
equal_tables b1 b2 b3 t l done =
    let d = compare_says b1 b2 b3 t t l done in
    let n = bins_of d.g in
    λ i. record {
      number = (compare_answer b1 b2 b3 t t l ∙ done) i;
      differ = (d.differ ∙ differing_never n (view_of t)) i;
      first = (d.first ∙ first_never n (view_of t) ∙ sym (bins_are b1 b2 b3 d.chosen)) i;
    }
