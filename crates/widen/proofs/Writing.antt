-- A wide table over which the cells of a narrow one are written one after the other.
-- Assumes nothing.
use mathlib.Core.Path.{◌≡◌, refl, sym, ap, ◌∙◌}
use mathlib.Core.Bool.{Bool, cond}
use Prim.Native.Nat.{ℕ, ◌+◌, ◌≤◌, ◌<◌}
use native.Mathlib.Decide.{ℕ_discrete, dec_le}
use native.Mathlib.Omega.{arith}
use borrow.Author.Tests.{eq-eqb, ne_eqb, lt-ltb, le-ltb}
use lib.Dec.{eqb, ltb}
use Rattle.table.specs.declared.cell.Cell.{Cell}
use Rattle.table.specs.Cell.{View, number_of, cell_of}
use Rattle.table.specs.Table.{Table, Sized, view_of, written, put_at}
use Rattle.table.proofs.Tables.{Holds, holds_same, holds_list, holds_itself}
use Rattle.table.proofs.Layouts.{put_holds_in}
use Rattle.table.proofs.Cells.{number_cell}

-- the cells before place p are written
abbrev pub partly : ℕ → View → View → View
partly p v u q j = cond (ltb q p) (u q j) (v q j)

pub none_written : (n : ℕ) (t : Table) (u : View) → Sized t n → Holds n t (partly 0 (view_of t) u)
none_written n t u e =
    holds_same (holds_itself n t e)
    (λ q j h k. ap (λ (b : Bool). cond b (u q j) (view_of t q j)) (sym (le-ltb q 0 (omega arith))))

one_more : (p q x y : ℕ) → cond (eqb p q) y (cond (ltb q p) y x) ≡ cond (ltb q (p + 1)) y x
one_more p q x y = go (ℕ_discrete p q) (dec_le p q)
  where
    go : Dec (p ≡ q) → Dec (p ≤ q) → cond (eqb p q) y (cond (ltb q p) y x) ≡ cond (ltb q (p + 1)) y x
    go (yes e) d = rw (eq-eqb p q e, lt-ltb q (p + 1) (omega arith)) refl
    go (no e) (yes l) = rw (ne_eqb p q e, le-ltb q p l, le-ltb q (p + 1) (omega arith)) refl
    go (no e) (no l) = rw (ne_eqb p q e, lt-ltb q p (omega arith), lt-ltb q (p + 1) (omega arith)) refl

module _ {n : ℕ} {t : Table} (v u : View) (p : ℕ) (h : Holds n t (partly p v u)) (l : p < n) {c : Cell}
    (e : c ≡ cell_of (u p)) where
  number : (j : ℕ) → j < 5 → number_of c j ≡ u p j
  number j k = ap (λ (x : Cell). number_of x j) e ∙ number_cell (u p) j k

  hit_number : (q j : ℕ) → j < 5 → (x : ℕ) → cond (eqb p q) (number_of c j) x ≡ cond (eqb p q) (u q j) x
  hit_number q j k x = go (ℕ_discrete p q)
    where
      go : Dec (p ≡ q) → cond (eqb p q) (number_of c j) x ≡ cond (eqb p q) (u q j) x
      go (yes d) = rw (eq-eqb p q d, ← d) (number j k)
      go (no d) = rw (ne_eqb p q d) refl

  pub one_written : Holds n (put_at t p c) (partly (p + 1) v u)
  one_written =
      holds_same (put_holds_in h p c l)
      (λ q j a k. hit_number q j k (partly p v u q j) ∙ one_more p q (v q j) (u q j))

pub all_written : {n : ℕ} {t : Table} (v u : View) → Holds n t (partly n v u) → t ≡ written n u
all_written {n} v u h =
    holds_list (holds_same h (λ q j a k. ap (λ (b : Bool). cond b (u q j) (v q j)) (lt-ltb q n a)))
