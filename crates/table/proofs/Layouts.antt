-- Laws of a table in either layout: its size, the view that it holds, a cell that is written into it, and what fits. What
-- stands above needs no layout's own.
-- Assumes nothing.
use Rattle.std.proofs.Common.{◌≡◌, ℕ, zero, suc, ◌+◌, ◌*◌, ◌^◌, ◌<◌, ◌≤◌, true, cond, eqb, List, length, sym, refl, ap, ◌∙◌, subst, le_trans, lt_trans, add-zero, arith, lit<, eq-eqb, ne_eqb}
use native.Mathlib.Decide.{ℕ_discrete}
use Rattle.grid.specs.declared.place.Grid.{Grid}
use Rattle.grid.specs.Grid.{Accepted, bins_of}
use Rattle.table.specs.declared.cell.Cell.{Cell}
use Rattle.table.specs.Layouts.{Layout}
use Rattle.table.specs.Layouts.{Wide, Narrow}
use Rattle.table.specs.Cell.{View, zeros, number_of, cell_of, plus_cell}
use Rattle.table.specs.Table.{table_len, is_sized, view_of, written}
use Rattle.table.specs.Narrow.{narrow_view, narrow_written}
use Rattle.table.specs.Layout.{TableIn, laid, SizedIn, lengths_fit, is_sized_in, view_in, written_in, empty_in, put_in}
use Rattle.table.specs.Layout.{CellIn, HeldIn, TableOfIn}
use Rattle.table.specs.Sound.{limit_of}
use Rattle.table.proofs.Cells.{number_cell, number_plus}
pub use Rattle.table.proofs.Tables.{HoldsIn}
use Rattle.table.proofs.Tables.{sized_test, test_sized, has_cell, list_holds, holds_list, empty_holds}
use Rattle.table.proofs.Tables.{put_sized, put_there, put_elsewhere}
use Rattle.table.proofs.NarrowTables.{narrow_test, test_narrow, narrow_cell, narrow_sized, narrow_at}
use Rattle.table.proofs.NarrowTables.{narrow_written_lem, narrow_empty_sized, narrow_empty_at, narrow_put_sized}
use Rattle.table.proofs.NarrowTables.{narrow_there, narrow_elsewhere, wide_view}
use Rattle.table.proofs.Soundness.{Sound, total_high, weight_high, sums_high, number_below, limit_high}

-- ---- size
-- the lengths of two lists are those of the table that they make
pub lengths_are : (l : Layout) (small large : List ℕ) (n : ℕ)
    → lengths_fit l (length small) (length large) n ≡ is_sized_in l (laid l small large) n
unfolding lengths_fit is_sized
lengths_are Wide small large n = refl
lengths_are Narrow small large n = refl

pub sized_in : (l : Layout) (t : TableIn l) (n : ℕ) → is_sized_in l t n ≡ true → SizedIn l t n
sized_in Wide t n e = test_sized e
sized_in Narrow t n e = test_narrow e

pub in_sized : (l : Layout) (t : TableIn l) (n : ℕ) → SizedIn l t n → is_sized_in l t n ≡ true
in_sized Wide t n s = sized_test s
in_sized Narrow t n s = narrow_test s

-- it is one of so many bins only
pub sized_once : (l : Layout) (t : TableIn l) (n m : ℕ) → SizedIn l t n → SizedIn l t m → n ≡ m
unfolding table_len
sized_once Wide t n m s r = omega (arith, s.numbers, r.numbers)
sized_once Narrow t n m s r = sym s.squares ∙ r.squares

-- it has a cell at each of its places
pub cell_in : (l : Layout) (t : TableIn l) (n : ℕ) → SizedIn l t n → (p : ℕ) → p < n → CellIn l t p
cell_in Wide t n s p h = has_cell s p h
cell_in Narrow t n s p h = narrow_cell s p h

pub cell_of_lem : {l : Layout} {g : Grid} {t : TableIn l} → TableOfIn l g t → (p : ℕ) → p < bins_of g → CellIn l t p
cell_of_lem {l} {g} {t} s p h = cell_in l t (bins_of g) s.lent p h

-- ---- where the layout is known
module _ {l k : Layout} (e : l ≡ k) where
  pub cell_as : (small large : List ℕ) (p : ℕ) → CellIn l (laid l small large) p → CellIn k (laid k small large) p
  cell_as small large p h = subst (λ (x : Layout). CellIn x (laid x small large) p) e h

  pub held_as : (c : Cell) → HeldIn l c → HeldIn k c
  held_as c h = subst (λ (x : Layout). HeldIn x c) e h

  pub put_as : (small large : List ℕ) (p : ℕ) (c : Cell) (small' large' : List ℕ)
      → laid k small' large' ≡ put_in k (laid k small large) p c
      → laid l small' large' ≡ put_in l (laid l small large) p c
  put_as small large p c small' large' h =
      subst (λ (x : Layout). laid x small' large' ≡ put_in x (laid x small large) p c) (sym e) h

-- ---- a table of n bins holds a view
pub list_holds_in : (l : Layout) (n : ℕ) (v : View) → HoldsIn l n (written_in l n v) v
list_holds_in Wide n v = list_holds n v
list_holds_in Narrow n v = record { lent = narrow_sized n v; at = narrow_at n v }

pub holds_list_in : (l : Layout) {n : ℕ} {t : TableIn l} {v : View} → HoldsIn l n t v → t ≡ written_in l n v
holds_list_in Wide h = holds_list h
holds_list_in Narrow {n} {t} {v} h = narrow_written_lem n t v h.lent h.at

pub holds_itself_in : (l : Layout) (n : ℕ) (t : TableIn l) → SizedIn l t n → HoldsIn l n t (view_in l t)
holds_itself_in l n t e = record { lent = e; at = λ p j h k. refl }

-- a table that holds a view holds each view that agrees with it
pub holds_same_in : {l : Layout} {n : ℕ} {t : TableIn l} {v u : View} → HoldsIn l n t v
    → ((p j : ℕ) → p < n → j < 5 → v p j ≡ u p j) → HoldsIn l n t u
holds_same_in h e = record { lent = h.lent; at = λ p j a b. h.at p j a b ∙ e p j a b }

pub empty_holds_in : (l : Layout) (n : ℕ) → HoldsIn l n (empty_in l n) zeros
empty_holds_in Wide n = empty_holds n
empty_holds_in Narrow n = record { lent = narrow_empty_sized n; at = narrow_empty_at n }

-- ---- a cell written at a place
pub put_sized_in : (l : Layout) (t : TableIn l) (n : ℕ) → SizedIn l t n → (p : ℕ) (c : Cell)
    → SizedIn l (put_in l t p c) n
put_sized_in Wide t n s p c = put_sized s p c
put_sized_in Narrow t n s p c = narrow_put_sized s p c

pub put_there_in : (l : Layout) (t : TableIn l) (p : ℕ) (c : Cell) → CellIn l t p → (j : ℕ) → j < 5
    → view_in l (put_in l t p c) p j ≡ number_of c j
put_there_in Wide t p c has j h = put_there t p c has j h
put_there_in Narrow t p c has j h = narrow_there t p c has j h

pub put_elsewhere_in : (l : Layout) (t : TableIn l) (p : ℕ) (c : Cell) → CellIn l t p → (q j : ℕ) → j < 5
    → (p ≡ q → ⊥) → view_in l (put_in l t p c) q j ≡ view_in l t q j
put_elsewhere_in Wide t p c has q j h n = put_elsewhere t p c has q j h n
put_elsewhere_in Narrow t p c has q j h n = narrow_elsewhere t p c q j h n

-- a table that holds a view, with a cell written at a place
pub put_holds_in : {l : Layout} {n : ℕ} {t : TableIn l} {v : View} → HoldsIn l n t v → (p : ℕ) (c : Cell) → p < n
    → HoldsIn l n (put_in l t p c) (λ q j. cond (eqb p q) (number_of c j) (v q j))
put_holds_in {l} {n} {t} {v} h p c b =
    record { lent = put_sized_in l t n h.lent p c; at = λ q j a k. go q j a k (ℕ_discrete p q) }
  where
    has : CellIn l t p
    has = cell_in l t n h.lent p b

    go : (q j : ℕ) → q < n → j < 5 → Dec (p ≡ q)
        → view_in l (put_in l t p c) q j ≡ cond (eqb p q) (number_of c j) (v q j)
    go q j a k (yes e) = rw (eq-eqb p q e, ← e) (put_there_in l t p c has j k)
    go q j a k (no d) = rw (ne_eqb p q d) (put_elsewhere_in l t p c has q j k d ∙ h.at q j a k)

-- and with a cell added at a place
pub add_holds_in : {l : Layout} {n : ℕ} {t : TableIn l} {v : View} → HoldsIn l n t v → (p : ℕ) (c : Cell) → p < n
    → HoldsIn l n (put_in l t p (plus_cell (cell_of (view_in l t p)) c)) (λ q j. v q j + cond (eqb p q) (number_of c j) 0)
add_holds_in {l} {n} {t} {v} h p c b =
    holds_same_in (put_holds_in h p (plus_cell (cell_of (view_in l t p)) c) b) (λ q j a k. go q j a k (ℕ_discrete p q))
  where
    there : (j : ℕ) → j < 5 → number_of (plus_cell (cell_of (view_in l t p)) c) j ≡ v p j + number_of c j
    there j k =
        number_plus (cell_of (view_in l t p)) c j k
        ∙ ap (λ (x : ℕ). x + number_of c j) (number_cell (view_in l t p) j k ∙ h.at p j b k)

    go : (q j : ℕ) → q < n → j < 5 → Dec (p ≡ q)
        → cond (eqb p q) (number_of (plus_cell (cell_of (view_in l t p)) c) j) (v q j)
        ≡ v q j + cond (eqb p q) (number_of c j) 0
    go q j a k (yes e) = rw (eq-eqb p q e, ← e) (there j k)
    go q j a k (no d) = rw (ne_eqb p q d) (sym (add-zero (v q j)))

-- ---- what fits
-- "No weight, no component sum and no moment of these reaches 2^32": weight and sums at most 255 times a total within the limit
pub held_in : (l : Layout) (c : Cell) (n : ℕ) → n ≤ limit_of l → ((j : ℕ) → j < 4 → number_of c j ≤ 255 * n)
    → ((j : ℕ) → j < 5 → number_of c j < 2 ^ 64) → HeldIn l c
unfolding number_of
held_in Wide c n h few all = record { fits = all }
held_in Narrow c n h few all =
    record {
      weight = omega (arith, few 0 (lit< tt));
      sum1 = omega (arith, few 1 (lit< tt));
      sum2 = omega (arith, few 2 (lit< tt));
      sum3 = omega (arith, few 3 (lit< tt));
      squares = all 4 (lit< tt);
    }

-- so that a cell of a sound table, written, fits its place
sums_held : {most : ℕ} {g : Grid} {v : View} → Accepted g → Sound most g v → (p : ℕ) → p < bins_of g → (j : ℕ) → j < 4
    → v p j ≤ 255 * v p 0
sums_held a s p h zero l = omega arith
sums_held a s p h (suc zero) l = sums_high a s p h 0 (omega arith)
sums_held a s p h (suc (suc zero)) l = sums_high a s p h 1 (omega arith)
sums_held a s p h (suc (suc (suc zero))) l = sums_high a s p h 2 (omega arith)
sums_held a s p h (suc (suc (suc (suc j)))) l = absurd (omega arith)

pub sound_held_in : (l : Layout) {g : Grid} {v : View} → Accepted g → Sound (limit_of l) g v → (p : ℕ) → p < bins_of g
    → (c : Cell) → ((j : ℕ) → j < 5 → number_of c j ≡ v p j) → HeldIn l c
sound_held_in l {g} {v} a s p h c e =
    held_in l c (v p 0) (le_trans (weight_high g v p h) (total_high s))
    (λ j k. subst (λ (x : ℕ). x ≤ 255 * v p 0) (sym (e j (lt_trans k (lit< tt)))) (sums_held a s p h j k))
    (λ j k. subst (λ (x : ℕ). x < 2 ^ 64) (sym (e j k)) (lt_trans (number_below a s p h (limit_high l) j k) (lit< tt)))

-- ---- the wide table of a narrow one
-- a view written out in either layout is the same view
pub narrow_wide : (n : ℕ) (v : View) → view_of (written n v) ≡ narrow_view (narrow_written n v)
narrow_wide n v =
    ap view_of (holds_list (record {
      lent = (list_holds n v).lent;
      at = λ p j h k. (list_holds n v).at p j h k ∙ sym (narrow_at n v p j h k);
    })) ∙ wide_view (narrow_sized n v)
