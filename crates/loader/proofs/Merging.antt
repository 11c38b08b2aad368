-- A first table into which the cells of a second are added one after the other, and that a merge keeps tables sound.
-- Assumes nothing.
use mathlib.Core.Path.{◌≡◌, refl, sym, ap, ◌∙◌}
use mathlib.Core.Bool.{Bool, cond}
use Prim.Native.Nat.{ℕ, ◌+◌, ◌≤◌, ◌<◌}
use native.Mathlib.Nat.{add-zero, lt_trans}
use native.Mathlib.Decide.{ℕ_discrete, dec_le}
use native.Mathlib.Omega.{arith}
use borrow.Author.Tests.{eq-eqb, ne_eqb, lt-ltb, le-ltb}
use lib.Dec.{eqb, ltb, lit<}
use Rattle.grid.specs.declared.place.Grid.{Grid}
use Rattle.grid.specs.Grid.{Accepted, bins_of}
use Rattle.basics.proofs.Range.{sum_plus}
use Rattle.table.specs.declared.cell.Cell.{Cell}
use Rattle.table.specs.Cell.{View, number_of, cell_of, plus_cell}
use Rattle.table.specs.Layouts.{Layout}
use Rattle.table.specs.Layout.{TableIn, SizedIn, view_in, written_in, put_in}
use Rattle.table.specs.Sound.{limit_of, total}
use Rattle.adder.specs.Add.{CellFits}
use Rattle.loader.specs.Merge.{merged}
use Rattle.table.proofs.Layouts.{HoldsIn, cell_in, holds_same_in, holds_list_in, holds_itself_in, add_holds_in}
use Rattle.table.proofs.Layouts.{sound_held_in}
use Rattle.table.proofs.Cells.{number_cell, number_plus}
use Rattle.table.proofs.Soundness.{keeps_plus, Sound, sound_by, sound_keeps, total_is, number_below, limit_high}

-- the cells before place p are added
abbrev pub partly : ℕ → View → View → View
partly p v u q j = v q j + cond (ltb q p) (u q j) 0

pub none_added : (l : Layout) (n : ℕ) (t : TableIn l) (u : View) → SizedIn l t n
    → HoldsIn l n t (partly 0 (view_in l t) u)
none_added l n t u e =
    holds_same_in (holds_itself_in l n t e)
    (λ q j h k. sym (ap (λ (b : Bool). view_in l t q j + cond b (u q j) 0) (le-ltb q 0 (omega arith))
    ∙ add-zero (view_in l t q j)))

one_more : (p q x y : ℕ) → (x + cond (ltb q p) y 0) + cond (eqb p q) y 0 ≡ x + cond (ltb q (p + 1)) y 0
one_more p q x y = go (ℕ_discrete p q) (dec_le p q)
  where
    go : Dec (p ≡ q) → Dec (p ≤ q) → (x + cond (ltb q p) y 0) + cond (eqb p q) y 0 ≡ x + cond (ltb q (p + 1)) y 0
    go (yes e) d = rw (le-ltb q p (omega arith), eq-eqb p q e, lt-ltb q (p + 1) (omega arith)) (omega arith)
    go (no e) (yes l) = rw (le-ltb q p l, ne_eqb p q e, le-ltb q (p + 1) (omega arith)) (omega arith)
    go (no e) (no l) = rw (lt-ltb q p (omega arith), ne_eqb p q e, lt-ltb q (p + 1) (omega arith)) (omega arith)

module _ {l : Layout} {n : ℕ} {t : TableIn l} (v u : View) (p : ℕ) (h : HoldsIn l n t (partly p v u)) (i : p < n)
    {c : Cell} (e : c ≡ cell_of (u p)) where
  number : (j : ℕ) → j < 5 → number_of c j ≡ u p j
  number j k = ap (λ (x : Cell). number_of x j) e ∙ number_cell (u p) j k

  hit_number : (q j : ℕ) → j < 5 → cond (eqb p q) (number_of c j) 0 ≡ cond (eqb p q) (u q j) 0
  hit_number q j k = go (ℕ_discrete p q)
    where
      go : Dec (p ≡ q) → cond (eqb p q) (number_of c j) 0 ≡ cond (eqb p q) (u q j) 0
      go (yes d) = rw (eq-eqb p q d, ← d) (number j k)
      go (no d) = rw (ne_eqb p q d) refl

  pub one_added : HoldsIn l n (put_in l t p (plus_cell (cell_of (view_in l t p)) c)) (partly (p + 1) v u)
  one_added =
      holds_same_in (add_holds_in h p c i)
      (λ q j a k.
      ap (λ (x : ℕ). (v q j + cond (ltb q p) (u q j) 0) + x) (hit_number q j k) ∙ one_more p q (v q j) (u q j))

  -- a cell of it can be added where the tables merge to a sound one
  pub can_add : {g : Grid} → Accepted g → Sound (limit_of l) g (merged v u) → p < bins_of g → CellFits l t p c
  unfolding merged
  can_add a s b =
      record {
        cell = cell_in l t n h.lent p i;
        sums = record { fits = λ j k. rw (sum j k) (lt_trans (number_below a s p b (limit_high l) j k) (lit< tt)) };
        held =
            sound_held_in l a s p b (plus_cell (cell_of (view_in l t p)) c)
            (λ j k. number_plus (cell_of (view_in l t p)) c j k ∙ sum j k);
      }
    where
      old : (j : ℕ) → j < 5 → number_of (cell_of (view_in l t p)) j ≡ v p j
      old j k =
          number_cell (view_in l t p) j k
          ∙ h.at p j i k
          ∙ ap (λ (x : Bool). v p j + cond x (u p j) 0) (le-ltb p p (omega arith))
          ∙ add-zero (v p j)

      sum : (j : ℕ) → j < 5 → number_of (cell_of (view_in l t p)) j + number_of c j ≡ v p j + u p j
      sum j k = λ m. old j k m + number j k m

pub all_added : {l : Layout} {n : ℕ} {t : TableIn l} (v u : View) → HoldsIn l n t (partly n v u)
    → t ≡ written_in l n (merged v u)
unfolding merged
all_added {l} {n} v u h =
    holds_list_in l (holds_same_in h (λ q j a k. ap (λ (b : Bool). v q j + cond b (u q j) 0) (lt-ltb q n a)))

-- ---- soundness and total
pub merge_total : (g : Grid) (v u : View) → total g (merged v u) ≡ total g v + total g u
unfolding merged
merge_total g v u =
    total_is g (merged v u) ∙ sum_plus 0 (bins_of g) (λ p. v p 0) (λ p. u p 0)
    ∙ (λ i. sym (total_is g v) i + sym (total_is g u) i)

pub merge_sound : {most : ℕ} {g : Grid} {v u : View} → Sound most g v → Sound most g u → total g v + total g u ≤ most
    → Sound most g (merged v u)
unfolding merged
merge_sound {most} {g} {v} {u} s r l =
    sound_by most g (merged v u) (λ p h. keeps_plus (sound_keeps s p h) (sound_keeps r p h))
    (omega (arith, merge_total g v u))
