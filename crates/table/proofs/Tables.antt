-- Laws of a lent table: its size, the view that it holds, and a cell that is written into it. What stands above needs
-- no inside of them.
-- Assumes nothing.
use Rattle.std.proofs.Common.{◌≡◌, ℕ, zero, suc, ◌+◌, ◌*◌, ◌/◌, ◌%◌, ◌<◌, true, false, eqb, length, get_or, set, replicate, sym, refl, ap, ◌∙◌, add-zero, arith, length-set, get_or-set_other, get_or-set_same, eq-eqb, ne_eqb, eqb-true}
use lib.ListN.{length-replicate, get_or-replicate}
use Rattle.basics.proofs.Range.{length_list, list_at, list_is}
use Rattle.table.specs.declared.cell.Cell.{Cell}
use Rattle.table.specs.Layouts.{Layout}
use Rattle.table.specs.Layouts.{Wide}
use Rattle.table.specs.Cell.{View, zeros, number_of}
use Rattle.table.specs.Layout.{TableIn, SizedIn, view_in}
use Rattle.table.specs.Table.{Table, table_len, Sized, is_sized, view_of, written, empty_of, put_at, HasCell}

-- ---- size
-- what the test compares
pub sized_is : (t : Table) (n : ℕ) → is_sized t n ≡ eqb (length t) (table_len n)
unfolding is_sized
sized_is t n = refl

module _ {t : Table} {n : ℕ} where
  -- by its numbers, as the code counts them
  pub sized_by : length t ≡ table_len n → Sized t n
  sized_by e = record { numbers = e }

  pub not_sized_by : (length t ≡ table_len n → ⊥) → Sized t n → ⊥
  not_sized_by d s = d s.numbers

  -- the test of it
  pub sized_test : Sized t n → is_sized t n ≡ true
  unfolding is_sized
  sized_test s = eq-eqb (length t) (table_len n) s.numbers

  pub not_sized_test : (Sized t n → ⊥) → is_sized t n ≡ false
  unfolding is_sized
  not_sized_test d = ne_eqb (length t) (table_len n) (λ e. d (sized_by e))

  pub test_sized : is_sized t n ≡ true → Sized t n
  unfolding is_sized
  test_sized e = sized_by (eqb-true (length t) (table_len n) e)

  -- it has a cell at each of its places
  pub has_cell : Sized t n → (p : ℕ) → p < n → HasCell t p
  unfolding table_len
  has_cell s p h = record { fits = omega (arith, s.numbers) }

-- in the wide layout, for who lends a table of a known length
pub wide_len : (n : ℕ) → table_len n ≡ 5 * n
unfolding table_len
wide_len n = refl

pub wide_empty : (n : ℕ) → empty_of n ≡ replicate (5 * n) 0
unfolding empty_of table_len
wide_empty n = refl

-- tables of as many bins are as long
pub same_size : {t u : Table} {n : ℕ} → Sized t n → Sized u n → length t ≡ length u
same_size a b = a.numbers ∙ sym b.numbers

-- ---- the view
-- where a table has a number
pub view_at : (t : Table) (p j : ℕ) → view_of t p j ≡ get_or t (5 * p + j) 0
unfolding view_of
view_at t p j = refl

-- ---- a table of n bins holds a view
pub record HoldsIn (l : Layout) (n : ℕ) (t : TableIn l) (v : View) : Type 0 where
  pub lent : SizedIn l t n
  pub at : (p j : ℕ) → p < n → j < 5 → view_in l t p j ≡ v p j

abbrev pub Holds : ℕ → Table → View → Type 0
Holds n t v = HoldsIn Wide n t v

pub list_holds : (n : ℕ) (v : View) → Holds n (written n v) v
unfolding view_of written table_len
list_holds n v =
    record {
      lent = sized_by (length_list 0 (5 * n) (λ i. v (i / 5) (i % 5)));
      at = λ p j h k.
          list_at 0 (5 * n) (λ i. v (i / 5) (i % 5)) (5 * p + j) 0 (omega arith)
          ∙ (λ i. v (quotient p j k i) (rest p j k i));
    }
  where
    quotient : (p j : ℕ) → j < 5 → (0 + (5 * p + j)) / 5 ≡ p
    quotient p j k = omega arith

    rest : (p j : ℕ) → j < 5 → (0 + (5 * p + j)) % 5 ≡ j
    rest p j k = omega arith

pub holds_list : {n : ℕ} {t : Table} {v : View} → Holds n t v → t ≡ written n v
unfolding view_of written table_len
holds_list {n} {t} {v} h =
    list_is (5 * n) (λ i. v (i / 5) (i % 5)) t 0 h.lent.numbers
    (λ k b. ap (λ (i : ℕ). get_or t i 0) (split k) ∙ h.at (k / 5) (k % 5) (omega arith) (omega arith))
  where
    split : (k : ℕ) → k ≡ 5 * (k / 5) + k % 5
    split k = omega arith

pub holds_itself : (n : ℕ) (t : Table) → Sized t n → Holds n t (view_of t)
holds_itself n t e = record { lent = e; at = λ p j h k. refl }

-- a table that holds a view holds each view that agrees with it
pub holds_same : {n : ℕ} {t : Table} {v u : View} → Holds n t v → ((p j : ℕ) → p < n → j < 5 → v p j ≡ u p j)
    → Holds n t u
holds_same h e = record { lent = h.lent; at = λ p j a b. h.at p j a b ∙ e p j a b }

-- zeros, as a caller lends them
pub empty_holds : (n : ℕ) → Holds n (empty_of n) zeros
unfolding view_of empty_of table_len
empty_holds n =
    record {
      lent = sized_by (length-replicate (5 * n) 0);
      at = λ p j h k. get_or-replicate (5 * n) (5 * p + j) 0 0 (omega arith);
    }

-- ---- a cell written at a place
pub put_sized : {t : Table} {n : ℕ} → Sized t n → (p : ℕ) (c : Cell) → Sized (put_at t p c) n
unfolding put_at
put_sized s p c = record { numbers = simp length-set s.numbers }

module _ (t : Table) (p : ℕ) (c : Cell) (has : HasCell t p) where
  t1 : Table
  t1 = set t (5 * p) c.weight

  t2 : Table
  t2 = set t1 (5 * p + 1) c.sum1

  t3 : Table
  t3 = set t2 (5 * p + 2) c.sum2

  t4 : Table
  t4 = set t3 (5 * p + 3) c.sum3

  -- what stands at k is what stood there before the numbers that are written elsewhere
  past : (l : Table) (i x k : ℕ) → (k ≡ i → ⊥) → get_or (set l i x) k 0 ≡ get_or l k 0
  past l i x k n = get_or-set_other l i k x 0 n

  pub put_there : (j : ℕ) → j < 5 → view_of (put_at t p c) p j ≡ number_of c j
  unfolding view_of put_at number_of t1 t2 t3 t4
  put_there zero h =
      ap (λ (k : ℕ). get_or (put_at t p c) k 0) (add-zero (5 * p))
      ∙ past t4 (5 * p + 4) c.squares (5 * p) (λ e. omega arith)
      ∙ past t3 (5 * p + 3) c.sum3 (5 * p) (λ e. omega arith)
      ∙ past t2 (5 * p + 2) c.sum2 (5 * p) (λ e. omega arith)
      ∙ past t1 (5 * p + 1) c.sum1 (5 * p) (λ e. omega arith)
      ∙ get_or-set_same t (5 * p) c.weight 0 (omega (arith, has.fits))
  put_there (suc zero) h =
      past t4 (5 * p + 4) c.squares (5 * p + 1) (λ e. omega arith)
      ∙ past t3 (5 * p + 3) c.sum3 (5 * p + 1) (λ e. omega arith)
      ∙ past t2 (5 * p + 2) c.sum2 (5 * p + 1) (λ e. omega arith)
      ∙ get_or-set_same t1 (5 * p + 1) c.sum1 0 (simp length-set (omega (arith, has.fits)))
  put_there (suc (suc zero)) h =
      past t4 (5 * p + 4) c.squares (5 * p + 2) (λ e. omega arith)
      ∙ past t3 (5 * p + 3) c.sum3 (5 * p + 2) (λ e. omega arith)
      ∙ get_or-set_same t2 (5 * p + 2) c.sum2 0 (simp length-set (omega (arith, has.fits)))
  put_there (suc (suc (suc zero))) h =
      past t4 (5 * p + 4) c.squares (5 * p + 3) (λ e. omega arith)
      ∙ get_or-set_same t3 (5 * p + 3) c.sum3 0 (simp length-set (omega (arith, has.fits)))
  put_there (suc (suc (suc (suc zero)))) h =
      get_or-set_same t4 (5 * p + 4) c.squares 0 (simp length-set (omega (arith, has.fits)))
  put_there (suc (suc (suc (suc (suc j))))) h = absurd (omega arith)

  pub put_elsewhere : (q j : ℕ) → j < 5 → (p ≡ q → ⊥) → view_of (put_at t p c) q j ≡ view_of t q j
  unfolding view_of put_at t1 t2 t3 t4
  put_elsewhere q j h n =
      past t4 (5 * p + 4) c.squares (5 * q + j) (λ e. n (omega arith))
      ∙ past t3 (5 * p + 3) c.sum3 (5 * q + j) (λ e. n (omega arith))
      ∙ past t2 (5 * p + 2) c.sum2 (5 * q + j) (λ e. n (omega arith))
      ∙ past t1 (5 * p + 1) c.sum1 (5 * q + j) (λ e. n (omega arith))
      ∙ past t (5 * p) c.weight (5 * q + j) (λ e. n (omega arith))
