-- Laws of a table in the narrow layout: its size, the view that it holds, and a cell that is written into it.
-- Assumes nothing.
use Rattle.std.proofs.Common.{◌≡◌, ℕ, zero, suc, ◌+◌, ◌*◌, ◌/◌, ◌%◌, ◌<◌, ◌≤◌, Bool, true, false, cond, ◌&&◌, eqb, ltb, List, [], ◌∷◌, set, sym, refl, ap, ◌∙◌, add-zero, arith, lit<, length-set, get_or-set_other, get_or-set_same, le-ltb, lt-ltb, eq-eqb, eqb-true}
use native.Mathlib.Decide.{dec_le}
use lib.ListN.{length, get_or, length-replicate, get_or-replicate}
use Rattle.basics.specs.Range.{list_from}
use Rattle.basics.proofs.Range.{length_list, list_at, list_is, and_left, and_right}
use Rattle.table.specs.declared.cell.Cell.{Cell}
use Rattle.table.specs.Cell.{View, zeros, number_of}
use Rattle.table.specs.Table.{table_len, view_of, written}
use Rattle.table.specs.Narrow.{NarrowTable, narrow_table, NarrowSized, narrow_fit, narrow_number, narrow_view}
use Rattle.table.specs.Narrow.{narrow_written, narrow_empty, narrow_put, NarrowCell}

-- ---- size
module _ {t : NarrowTable} {n : ℕ} where
  pub narrow_test : NarrowSized t n → narrow_fit (length t.sums) (length t.squares) n ≡ true
  unfolding narrow_fit
  narrow_test s =
      λ i. eq-eqb (length t.sums) (4 * n) s.sums i && eq-eqb (length t.squares) n s.squares i

  pub test_narrow : narrow_fit (length t.sums) (length t.squares) n ≡ true → NarrowSized t n
  unfolding narrow_fit
  test_narrow e =
      let a = eqb (length t.sums) (4 * n) in
      let b = eqb (length t.squares) n in
      record {
        sums = eqb-true (length t.sums) (4 * n) (and_left a b e);
        squares = eqb-true (length t.squares) n (and_right a b e);
      }

  -- it has a cell at each of its places
  pub narrow_cell : NarrowSized t n → (p : ℕ) → p < n → NarrowCell t p
  narrow_cell s p h = record { sums = omega (arith, s.sums); squares = omega (arith, s.squares) }

-- ---- the view
-- number j at place p, also past the fifth
pub narrow_view_at : (t : NarrowTable) (p j : ℕ)
    → narrow_view t p j
    ≡ cond (ltb ((5 * p + j) % 5) 4) (get_or t.sums (4 * ((5 * p + j) / 5) + (5 * p + j) % 5) 0)
    (get_or t.squares ((5 * p + j) / 5) 0)
unfolding narrow_view narrow_number
narrow_view_at t p j = refl

-- weight and sums, and the squares
module _ (t : NarrowTable) (p j : ℕ) (h : j < 5) where
  place_is : (5 * p + j) / 5 ≡ p
  place_is = omega arith

  which_is : (5 * p + j) % 5 ≡ j
  which_is = omega arith

  narrow_is : narrow_view t p j ≡ cond (ltb j 4) (get_or t.sums (4 * p + j) 0) (get_or t.squares p 0)
  narrow_is =
      narrow_view_at t p j
      ∙ (λ i. cond (ltb (which_is i) 4) (get_or t.sums (4 * place_is i + which_is i) 0)
      (get_or t.squares (place_is i) 0))

  pub narrow_sums : j < 4 → narrow_view t p j ≡ get_or t.sums (4 * p + j) 0
  narrow_sums l = narrow_is ∙ rw (lt-ltb j 4 l) refl

  pub narrow_squares : 4 ≤ j → narrow_view t p j ≡ get_or t.squares p 0
  narrow_squares l = narrow_is ∙ rw (le-ltb j 4 l) refl

-- ---- a view written out
pub narrow_sized : (n : ℕ) (v : View) → NarrowSized (narrow_written n v) n
unfolding narrow_written
narrow_sized n v =
    record { sums = length_list 0 (4 * n) (λ i. v (i / 4) (i % 4)); squares = length_list 0 n (λ p. v p 4) }

pub narrow_at : (n : ℕ) (v : View) (p j : ℕ) → p < n → j < 5 → narrow_view (narrow_written n v) p j ≡ v p j
unfolding narrow_written
narrow_at n v p j h k = go (dec_le 4 j)
  where
    go : Dec (4 ≤ j) → narrow_view (narrow_written n v) p j ≡ v p j
    go (yes l) =
        narrow_squares (narrow_written n v) p j k l ∙ list_at 0 n (λ q. v q 4) p 0 h ∙ (λ i. v (same i) (four i))
      where
        same : 0 + p ≡ p
        same = omega arith

        four : 4 ≡ j
        four = omega arith
    go (no l) =
        narrow_sums (narrow_written n v) p j k (omega arith)
        ∙ list_at 0 (4 * n) (λ i. v (i / 4) (i % 4)) (4 * p + j) 0 (omega arith)
        ∙ (λ i. v (bin i) (rest i))
      where
        bin : (0 + (4 * p + j)) / 4 ≡ p
        bin = omega arith

        rest : (0 + (4 * p + j)) % 4 ≡ j
        rest = omega arith

-- a table of so many bins that holds a view is that view written out
pub narrow_written_lem : (n : ℕ) (t : NarrowTable) (v : View) → NarrowSized t n
    → ((p j : ℕ) → p < n → j < 5 → narrow_view t p j ≡ v p j) → t ≡ narrow_written n v
unfolding narrow_written
narrow_written_lem n t v s at = λ i. narrow_table (sums_are i) (squares_are i)
  where
    split : (k : ℕ) → k ≡ 4 * (k / 4) + k % 4
    split k = omega arith

    sums_are : t.sums ≡ list_from 0 (4 * n) (λ k. v (k / 4) (k % 4))
    sums_are =
        list_is (4 * n) (λ k. v (k / 4) (k % 4)) t.sums 0 s.sums
        (λ k b. ap (λ (m : ℕ). get_or t.sums m 0) (split k) ∙ sym (narrow_sums t (k / 4) (k % 4) (omega arith) (omega arith))
        ∙ at (k / 4) (k % 4) (omega arith) (omega arith))

    squares_are : t.squares ≡ list_from 0 n (λ p. v p 4)
    squares_are =
        list_is n (λ p. v p 4) t.squares 0 s.squares
        (λ k b. sym (narrow_squares t k 4 (lit< tt) (omega arith)) ∙ at k 4 b (lit< tt))

-- ---- zeros, as a caller lends them
pub narrow_empty_sized : (n : ℕ) → NarrowSized (narrow_empty n) n
unfolding narrow_empty
narrow_empty_sized n = record { sums = length-replicate (4 * n) 0; squares = length-replicate n 0 }

pub narrow_empty_at : (n p j : ℕ) → p < n → j < 5 → narrow_view (narrow_empty n) p j ≡ zeros p j
unfolding narrow_empty
narrow_empty_at n p j h k = go (dec_le 4 j)
  where
    go : Dec (4 ≤ j) → narrow_view (narrow_empty n) p j ≡ 0
    go (yes l) = narrow_squares (narrow_empty n) p j k l ∙ get_or-replicate n p 0 0 h
    go (no l) =
        narrow_sums (narrow_empty n) p j k (omega arith) ∙ get_or-replicate (4 * n) (4 * p + j) 0 0 (omega arith)

-- ---- a cell written at a place
pub narrow_put_sized : {t : NarrowTable} {n : ℕ} → NarrowSized t n → (p : ℕ) (c : Cell) → NarrowSized (narrow_put t p c) n
unfolding narrow_put
narrow_put_sized s p c = record { sums = simp length-set s.sums; squares = simp length-set s.squares }

-- what stands at k is what stood there before a number that is written elsewhere
past : (l : List ℕ) (i x k : ℕ) → (k ≡ i → ⊥) → get_or (set l i x) k 0 ≡ get_or l k 0
past l i x k n = get_or-set_other l i k x 0 n

module _ (t : NarrowTable) (p : ℕ) (c : Cell) where
  s1 : List ℕ
  s1 = set t.sums (4 * p) c.weight

  s2 : List ℕ
  s2 = set s1 (4 * p + 1) c.sum1

  s3 : List ℕ
  s3 = set s2 (4 * p + 2) c.sum2

  sums_there : NarrowCell t p → (j : ℕ) → j < 4 → get_or (narrow_put t p c).sums (4 * p + j) 0 ≡ number_of c j
  unfolding narrow_put number_of s1 s2 s3
  sums_there has zero h =
      ap (λ (k : ℕ). get_or (narrow_put t p c).sums k 0) (add-zero (4 * p))
      ∙ past s3 (4 * p + 3) c.sum3 (4 * p) (λ e. omega arith)
      ∙ past s2 (4 * p + 2) c.sum2 (4 * p) (λ e. omega arith)
      ∙ past s1 (4 * p + 1) c.sum1 (4 * p) (λ e. omega arith)
      ∙ get_or-set_same t.sums (4 * p) c.weight 0 (omega (arith, has.sums))
  sums_there has (suc zero) h =
      past s3 (4 * p + 3) c.sum3 (4 * p + 1) (λ e. omega arith)
      ∙ past s2 (4 * p + 2) c.sum2 (4 * p + 1) (λ e. omega arith)
      ∙ get_or-set_same s1 (4 * p + 1) c.sum1 0 (simp length-set (omega (arith, has.sums)))
  sums_there has (suc (suc zero)) h =
      past s3 (4 * p + 3) c.sum3 (4 * p + 2) (λ e. omega arith)
      ∙ get_or-set_same s2 (4 * p + 2) c.sum2 0 (simp length-set (omega (arith, has.sums)))
  sums_there has (suc (suc (suc zero))) h =
      get_or-set_same s3 (4 * p + 3) c.sum3 0 (simp length-set (omega (arith, has.sums)))
  sums_there has (suc (suc (suc (suc j)))) h = absurd (omega arith)

  squares_there : NarrowCell t p → get_or (narrow_put t p c).squares p 0 ≡ c.squares
  unfolding narrow_put
  squares_there has = get_or-set_same t.squares p c.squares 0 has.squares

  pub narrow_there : NarrowCell t p → (j : ℕ) → j < 5 → narrow_view (narrow_put t p c) p j ≡ number_of c j
  unfolding number_of
  narrow_there has zero h =
      narrow_sums (narrow_put t p c) p 0 (lit< tt) (lit< tt) ∙ sums_there has 0 (lit< tt)
  narrow_there has (suc zero) h =
      narrow_sums (narrow_put t p c) p 1 (lit< tt) (lit< tt) ∙ sums_there has 1 (lit< tt)
  narrow_there has (suc (suc zero)) h =
      narrow_sums (narrow_put t p c) p 2 (lit< tt) (lit< tt) ∙ sums_there has 2 (lit< tt)
  narrow_there has (suc (suc (suc zero))) h =
      narrow_sums (narrow_put t p c) p 3 (lit< tt) (lit< tt) ∙ sums_there has 3 (lit< tt)
  narrow_there has (suc (suc (suc (suc zero)))) h =
      narrow_squares (narrow_put t p c) p 4 (lit< tt) (omega arith) ∙ squares_there has
  narrow_there has (suc (suc (suc (suc (suc j))))) h = absurd (omega arith)

  pub narrow_elsewhere : (q j : ℕ) → j < 5 → (p ≡ q → ⊥) → narrow_view (narrow_put t p c) q j ≡ narrow_view t q j
  unfolding narrow_put s1 s2 s3
  narrow_elsewhere q j k n = go (dec_le 4 j)
    where
      sums_stay : j < 4 → get_or (narrow_put t p c).sums (4 * q + j) 0 ≡ get_or t.sums (4 * q + j) 0
      sums_stay h =
          past s3 (4 * p + 3) c.sum3 (4 * q + j) (λ e. n (omega arith))
          ∙ past s2 (4 * p + 2) c.sum2 (4 * q + j) (λ e. n (omega arith))
          ∙ past s1 (4 * p + 1) c.sum1 (4 * q + j) (λ e. n (omega arith))
          ∙ past t.sums (4 * p) c.weight (4 * q + j) (λ e. n (omega arith))

      squares_stay : get_or (narrow_put t p c).squares q 0 ≡ get_or t.squares q 0
      squares_stay = past t.squares p c.squares q (λ e. n (omega arith))

      go : Dec (4 ≤ j) → narrow_view (narrow_put t p c) q j ≡ narrow_view t q j
      go (yes h) = narrow_squares (narrow_put t p c) q j k h ∙ squares_stay ∙ sym (narrow_squares t q j k h)
      go (no h) =
          narrow_sums (narrow_put t p c) q j k (omega arith) ∙ sums_stay (omega arith)
          ∙ sym (narrow_sums t q j k (omega arith))

-- ---- the wide table of a narrow one
-- nothing stands past the end of a list
past_end : (l : List ℕ) (i : ℕ) → length l ≤ i → get_or l i 0 ≡ 0
unfolding length get_or
past_end [] i h = refl
past_end (x ∷ xs) zero h = absurd (omega arith)
past_end (x ∷ xs) (suc i) h = past_end xs i (omega arith)

-- written out in the wide layout it holds the same view, past its numbers too
pub wide_view : {t : NarrowTable} {n : ℕ} → NarrowSized t n → view_of (written n (narrow_view t)) ≡ narrow_view t
unfolding view_of written table_len narrow_view narrow_number
wide_view {t} {n} s = λ i p j. go (5 * p + j) (dec_le (5 * n) (5 * p + j)) i
  where
    number : ℕ → ℕ
    number k = cond (ltb (k % 5) 4) (get_or t.sums (4 * (k / 5) + k % 5) 0) (get_or t.squares (k / 5) 0)

    split : (k : ℕ) → 5 * ((0 + k) / 5) + (0 + k) % 5 ≡ k
    split k = omega arith

    past_all : (k : ℕ) → 5 * n ≤ k → number k ≡ 0
    past_all k h =
        (λ i. cond (ltb (k % 5) 4) (past_end t.sums (4 * (k / 5) + k % 5) (omega (arith, s.sums)) i)
        (past_end t.squares (k / 5) (omega (arith, s.squares)) i))
        ∙ both (ltb (k % 5) 4)
      where
        both : (b : Bool) → ◌≡◌ {A = ℕ} (cond b 0 0) 0
        both true = refl
        both false = refl

    go : (k : ℕ) → Dec (5 * n ≤ k) → get_or (list_from 0 (5 * n) (λ i. number (5 * (i / 5) + i % 5))) k 0 ≡ number k
    go k (yes h) =
        past_end (list_from 0 (5 * n) (λ i. number (5 * (i / 5) + i % 5))) k
        (omega (arith, length_list 0 (5 * n) (λ i. number (5 * (i / 5) + i % 5)))) ∙ sym (past_all k h)
    go k (no h) =
        list_at 0 (5 * n) (λ i. number (5 * (i / 5) + i % 5)) k 0 (omega arith) ∙ ap number (split k)
