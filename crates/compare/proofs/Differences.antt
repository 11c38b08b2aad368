-- Laws of differences: their size, and a list that they are written into, five at a place.
-- Assumes nothing.
use mathlib.Core.Path.{◌≡◌, refl, ap, ◌∙◌}
use mathlib.Core.Bool.{Bool, true, false, not, cond, ◌&&◌}
use mathlib.Core.List.{List}
use Prim.Native.Nat.{ℕ, zero, suc, ◌+◌, ◌-◌, ◌*◌, ◌/◌, ◌%◌, ◌≤◌, ◌<◌}
use native.Mathlib.Nat.{add-zero}
use native.Mathlib.Decide.{ℕ_discrete}
use native.Mathlib.Omega.{arith}
use lib.Dec.{eqb, ltb, lit<}
use lib.IntN.{ℤ, pos, negsuc, nat_abs, ◌-ℤ◌}
use lib.ListN.{length, get_or, set, length-set}
use lib.Seq.{get_or-set_same, get_or-set_other}
use lib.Signed.{mag}
use Rattle.basics.specs.Range.{list_from, all_from}
use Rattle.basics.proofs.Range.{length_list, list_at, list_is}
use Rattle.grid.specs.declared.place.Grid.{Grid}
use Rattle.grid.specs.Grid.{Accepted, bins_of}
use Rattle.table.specs.declared.cell.Cell.{Cell}
use Rattle.table.specs.Cell.{View, cell_of}
use Rattle.table.specs.Table.{table_len}
use Rattle.table.specs.Sound.{limit, sound}
use Rattle.table.proofs.Cells.{cell_fields}
use Rattle.table.proofs.Tables.{wide_len}
use Rattle.table.proofs.Soundness.{number_below}
use Rattle.compare.specs.Compare.{difference, differs, differences_of}
use Rattle.compare.specs.Inner.{less, with_differences, Small}

-- ---- the size of a difference
pub less_small : (most x y : ℕ) → x < most → y < most → nat_abs (pos y -ℤ pos x) < most
less_small most zero y h k = omega arith
less_small most (suc x) y h k = by_sign (ltb y (suc x)) (suc x - suc y) (y - suc x) (omega arith) (omega arith)
  where
    by_sign : (b : Bool) (m n : ℕ) → suc m < most → n < most → nat_abs (cond b (negsuc m) (pos n)) < most
    by_sign true m n h k = h
    by_sign false m n h k = k

-- as the machine measures it
pub mag_small : (most : ℕ) (z : ℤ) → nat_abs z < most → mag z < most
mag_small most (pos n) h = h
mag_small most (negsuc n) h = omega arith

-- no number of a sound table is 2^50 or more
pub cell_small : {g : Grid} (v : View) → Accepted g → sound limit g v ≡ true → (p : ℕ) → p < bins_of g
    → {c : Cell} → c ≡ cell_of (v p) → Small c
cell_small v a s p h e =
    let below = number_below a (record { holds = s }) p h (omega arith) in
    let f = cell_fields (v p) e in
    record {
      weight = rw f.weight (below 0 (lit< tt));
      sum1 = rw f.sum1 (below 1 (lit< tt));
      sum2 = rw f.sum2 (below 2 (lit< tt));
      sum3 = rw f.sum3 (below 3 (lit< tt));
      squares = rw f.squares (below 4 (lit< tt));
    }

-- ---- five differences written at a place
pub with_length : (l : List ℤ) (p : ℕ) (f : ℕ → ℤ) → length (with_differences l p f) ≡ length l
unfolding with_differences
with_length l p f = simp length-set

module _ (l : List ℤ) (p : ℕ) (f : ℕ → ℤ) (has : 5 * p + 5 ≤ length l) where
  l1 : List ℤ
  l1 = set l (5 * p) (f 0)

  l2 : List ℤ
  l2 = set l1 (5 * p + 1) (f 1)

  l3 : List ℤ
  l3 = set l2 (5 * p + 2) (f 2)

  l4 : List ℤ
  l4 = set l3 (5 * p + 3) (f 3)

  -- what stands at k is what stood there before the differences that are written elsewhere
  past : (x : List ℤ) (i : ℕ) (d : ℤ) (k : ℕ) → (k ≡ i → ⊥) → get_or (set x i d) k (pos 0) ≡ get_or x k (pos 0)
  past x i d k n = get_or-set_other x i k d (pos 0) n

  with_there : (j : ℕ) → j < 5 → get_or (with_differences l p f) (5 * p + j) (pos 0) ≡ f j
  unfolding with_differences l1 l2 l3 l4
  with_there zero h =
      ap (λ (k : ℕ). get_or (with_differences l p f) k (pos 0)) (add-zero (5 * p))
      ∙ past l4 (5 * p + 4) (f 4) (5 * p) (λ e. omega arith)
      ∙ past l3 (5 * p + 3) (f 3) (5 * p) (λ e. omega arith)
      ∙ past l2 (5 * p + 2) (f 2) (5 * p) (λ e. omega arith)
      ∙ past l1 (5 * p + 1) (f 1) (5 * p) (λ e. omega arith)
      ∙ get_or-set_same l (5 * p) (f 0) (pos 0) (omega (arith, has))
  with_there (suc zero) h =
      past l4 (5 * p + 4) (f 4) (5 * p + 1) (λ e. omega arith)
      ∙ past l3 (5 * p + 3) (f 3) (5 * p + 1) (λ e. omega arith)
      ∙ past l2 (5 * p + 2) (f 2) (5 * p + 1) (λ e. omega arith)
      ∙ get_or-set_same l1 (5 * p + 1) (f 1) (pos 0) (simp length-set (omega (arith, has)))
  with_there (suc (suc zero)) h =
      past l4 (5 * p + 4) (f 4) (5 * p + 2) (λ e. omega arith)
      ∙ past l3 (5 * p + 3) (f 3) (5 * p + 2) (λ e. omega arith)
      ∙ get_or-set_same l2 (5 * p + 2) (f 2) (pos 0) (simp length-set (omega (arith, has)))
  with_there (suc (suc (suc zero))) h =
      past l4 (5 * p + 4) (f 4) (5 * p + 3) (λ e. omega arith)
      ∙ get_or-set_same l3 (5 * p + 3) (f 3) (pos 0) (simp length-set (omega (arith, has)))
  with_there (suc (suc (suc (suc zero)))) h =
      get_or-set_same l4 (5 * p + 4) (f 4) (pos 0) (simp length-set (omega (arith, has)))
  with_there (suc (suc (suc (suc (suc j))))) h = absurd (omega arith)

  with_elsewhere : (q j : ℕ) → j < 5 → (q ≡ p → ⊥)
      → get_or (with_differences l p f) (5 * q + j) (pos 0) ≡ get_or l (5 * q + j) (pos 0)
  unfolding with_differences l1 l2 l3 l4
  with_elsewhere q j h n =
      past l4 (5 * p + 4) (f 4) (5 * q + j) (λ e. n (omega arith))
      ∙ past l3 (5 * p + 3) (f 3) (5 * q + j) (λ e. n (omega arith))
      ∙ past l2 (5 * p + 2) (f 2) (5 * q + j) (λ e. n (omega arith))
      ∙ past l1 (5 * p + 1) (f 1) (5 * q + j) (λ e. n (omega arith))
      ∙ past l (5 * p) (f 0) (5 * q + j) (λ e. n (omega arith))

-- whether two cells differ, as the code compares them
abbrev pub cells_differ : Cell → Cell → Bool
cells_differ a b =
    not
    (eqb a.weight b.weight
    && (eqb a.sum1 b.sum1
    && (eqb a.sum2 b.sum2 && (eqb a.sum3 b.sum3 && eqb a.squares b.squares))))

-- ---- the list of n bins, with the differences of the first p of them written
pub record Written (n : ℕ) (v u : View) (p : ℕ) (l : List ℤ) : Type 0 where
  pub lent : length l ≡ table_len n
  pub at : (q j : ℕ) → q < p → j < 5 → get_or l (5 * q + j) (pos 0) ≡ difference v u q j

pub none_written : (n : ℕ) (v u : View) (l : List ℤ) → length l ≡ table_len n → Written n v u 0 l
none_written n v u l e = record { lent = e; at = λ q j h k. absurd (omega arith) }

module _ {n : ℕ} (v u : View) (p : ℕ) {l : List ℤ} (w : Written n v u p l) (h : p < n) where
  pub has_place : 5 * p + 5 ≤ length l
  has_place = omega (arith, w.lent, wide_len n)

  module _ {a b : Cell} (d : a ≡ cell_of (v p)) (e : b ≡ cell_of (u p)) where
    these : (j : ℕ) → j < 5 → less a b j ≡ difference v u p j
    unfolding less difference
    these zero k = λ i. pos ((cell_fields (u p) e).weight i) -ℤ pos ((cell_fields (v p) d).weight i)
    these (suc zero) k = λ i. pos ((cell_fields (u p) e).sum1 i) -ℤ pos ((cell_fields (v p) d).sum1 i)
    these (suc (suc zero)) k = λ i. pos ((cell_fields (u p) e).sum2 i) -ℤ pos ((cell_fields (v p) d).sum2 i)
    these (suc (suc (suc zero))) k = λ i. pos ((cell_fields (u p) e).sum3 i) -ℤ pos ((cell_fields (v p) d).sum3 i)
    these (suc (suc (suc (suc zero)))) k =
        λ i. pos ((cell_fields (u p) e).squares i) -ℤ pos ((cell_fields (v p) d).squares i)
    these (suc (suc (suc (suc (suc j))))) k = absurd (omega arith)

    pub one_written : Written n v u (p + 1) (with_differences l p (less a b))
    one_written =
        record {
          lent = with_length l p (less a b) ∙ w.lent;
          at = λ q j s k. go q j s k (ℕ_discrete q p);
        }
      where
        go : (q j : ℕ) → q < p + 1 → j < 5 → Dec (q ≡ p)
            → get_or (with_differences l p (less a b)) (5 * q + j) (pos 0) ≡ difference v u q j
        go q j s k (yes z) = rw z (with_there l p (less a b) has_place j k ∙ these j k)
        go q j s k (no z) = with_elsewhere l p (less a b) has_place q j k z ∙ w.at q j (omega arith) k

    -- and whether the bin differs
    pub cells_tell : cells_differ a b ≡ differs v u p
    unfolding differs all_from
    cells_tell =
        let f = cell_fields (v p) d in
        let h = cell_fields (u p) e in
        (λ i. not
        (eqb (f.weight i) (h.weight i)
        && (eqb (f.sum1 i) (h.sum1 i)
        && (eqb (f.sum2 i) (h.sum2 i)
        && (eqb (f.sum3 i) (h.sum3 i) && last (eqb (f.squares i) (h.squares i)) i)))))
      where
        last : (b : Bool) → b ≡ (b && true)
        last true = refl
        last false = refl

pub all_written : {n : ℕ} (v u : View) {l : List ℤ} → Written n v u n l → l ≡ differences_of n v u
unfolding differences_of
all_written {n} v u {l} w =
    list_is (table_len n) (λ i. difference v u (i / 5) (i % 5)) l (pos 0) w.lent
    (λ k b. ap (λ (i : ℕ). get_or l i (pos 0)) (split k)
    ∙ w.at (k / 5) (k % 5) (omega (arith, b, wide_len n)) (omega arith))
  where
    split : (k : ℕ) → k ≡ 5 * (k / 5) + k % 5
    split k = omega arith

-- ---- the list of differences
pub differences_at : (n : ℕ) (v u : View) (p j : ℕ) → p < n → j < 5
    → get_or (differences_of n v u) (5 * p + j) (pos 0) ≡ difference v u p j
unfolding differences_of
differences_at n v u p j h k =
    list_at 0 (table_len n) (λ i. difference v u (i / 5) (i % 5)) (5 * p + j) (pos 0) (omega (arith, wide_len n))
    ∙ (λ i. difference v u (quotient i) (rest i))
  where
    quotient : (0 + (5 * p + j)) / 5 ≡ p
    quotient = omega arith

    rest : (0 + (5 * p + j)) % 5 ≡ j
    rest = omega arith

pub differences_length : (n : ℕ) (v u : View) → length (differences_of n v u) ≡ table_len n
unfolding differences_of
differences_length n v u = length_list 0 (table_len n) (λ i. difference v u (i / 5) (i % 5))

-- in the order of a table's numbers
pub differences_are : (n : ℕ) (v u : View)
    → differences_of n v u ≡ list_from 0 (table_len n) (λ i. difference v u (i / 5) (i % 5))
unfolding differences_of
differences_are n v u = refl
