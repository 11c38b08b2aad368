-- The whole map: boxes filled one after the other, each bin in one of them.
-- Assumes nothing.
use mathlib.Core.Path.{◌≡◌, refl, sym, ap, ◌∙◌}
use mathlib.Core.Bool.{Bool, true, false, cond}
use mathlib.Core.List.{List, [], ◌∷◌, ◌++◌}
use Prim.Native.Nat.{ℕ, zero, suc, ◌+◌, ◌≤◌, ◌<◌}
use native.Mathlib.Nat.{zero-add, add-zero, add-suc, suc-add, le_of_lt}
use native.Mathlib.Numerals.{add-one}
use native.Mathlib.Omega.{arith}
use borrow.Author.Tests.{eq-eqb, eqb-true}
use lib.Dec.{eqb}
use lib.ListN.{length, get_or, take}
use lib.Seq.{length-take-le, take-suc}
use Rattle.grid.specs.declared.place.Grid.{Grid}
use Rattle.grid.specs.Grid.{bins_of}
use Rattle.basics.proofs.Range.{length_list, list_at, list_is}
use Rattle.boxes.specs.declared.sides.Bounds.{Bounds}
use Rattle.boxes.specs.Holds.{holds_at, holding, Tiles}
use Rattle.cutter.specs.Map.{index_from, map_of}
use Rattle.cutter.specs.Inner.{fill_where, fill_of, fill_from}
use Rattle.basics.proofs.Range.{tests_same}
use Rattle.cutter.proofs.Filled.{length_fill, fill_at_lem}

module _ (g : Grid) where
  pub map_length : (xs : List Bounds) → length (map_of g xs) ≡ bins_of g
  unfolding map_of
  map_length xs = length_list 0 (bins_of g) (index_from g 0 xs)

  pub map_at : (xs : List Bounds) (p : ℕ) → p < bins_of g → get_or (map_of g xs) p 0 ≡ index_from g 0 xs p
  unfolding map_of
  map_at xs p h = list_at 0 (bins_of g) (index_from g 0 xs) p 0 h ∙ ap (index_from g 0 xs) (zero-add p)

  pub length_filled : (i : ℕ) (xs : List Bounds) (old : List ℕ) → length (fill_from g i xs old) ≡ length old
  unfolding fill_from fill_of
  length_filled i [] old = refl
  length_filled i (x ∷ xs) old =
      length_filled (suc i) xs (fill_of g x i old) ∙ length_fill (holds_at g x) i old

  pub filled_none : (i : ℕ) (old : List ℕ) → fill_from g i [] old ≡ old
  unfolding fill_from
  filled_none i old = refl

  -- one box more
  pub filled_more : (i : ℕ) (xs : List Bounds) (x : Bounds) (old : List ℕ)
      → fill_from g i (xs ++ (x ∷ [])) old ≡ fill_of g x (i + length xs) (fill_from g i xs old)
  unfolding fill_from
  filled_more i [] x old = ap (λ (n : ℕ). fill_of g x n old) (sym (add-zero i))
  filled_more i (y ∷ xs) x old =
      filled_more (suc i) xs x (fill_of g y i old)
      ∙ ap (λ (n : ℕ). fill_of g x n (fill_from g (suc i) xs (fill_of g y i old)))
      (suc-add i (length xs) ∙ sym (add-suc i (length xs)))

  -- box i of a list after the first i
  pub filled_next : (xs : List Bounds) (i : ℕ) (none : Bounds) → i < length xs → (old : List ℕ) {before later : List ℕ}
      → before ≡ fill_from g 0 (take i xs) old → later ≡ fill_of g (get_or xs i none) i before
      → later ≡ fill_from g 0 (take (i + 1) xs) old
  filled_next xs i none h old e f =
      let x = get_or xs i none in
      let before-it : 0 + length (take i xs) ≡ i = zero-add (length (take i xs)) ∙ length-take-le i xs (le_of_lt h) in
      let more : take i xs ++ (x ∷ [])
      ≡ take (i + 1) xs = sym (ap (λ (n : ℕ). take n xs) (add-one i) ∙ take-suc xs i none h) in
      f
      ∙ (λ k. fill_of g x (sym before-it k) (e k))
      ∙ sym (filled_more 0 (take i xs) x old)
      ∙ ap (λ (ys : List Bounds). fill_from g 0 ys old) more

  -- what no box holds stays
  stays : (i : ℕ) (xs : List Bounds) (old : List ℕ) (p : ℕ) → p < length old → holding g xs p ≡ 0
      → get_or (fill_from g i xs old) p 0 ≡ get_or old p 0
  unfolding fill_from fill_of holding
  stays i [] old p h e = refl
  stays i (x ∷ xs) old p h e =
      stays (suc i) xs (fill_of g x i old) p (rw (length_fill (holds_at g x) i old) h) (go (holds_at g x p) e)
      ∙ fill_at_lem (holds_at g x) i old p h
      ∙ kept (holds_at g x p) e
    where
      go : (b : Bool) → cond b 1 0 + holding g xs p ≡ 0 → holding g xs p ≡ 0
      go b e = omega arith

      kept : (b : Bool) → cond b 1 0 + holding g xs p ≡ 0 → cond b i (get_or old p 0) ≡ get_or old p 0
      kept true e = absurd (omega arith)
      kept false e = refl

  -- what one box holds gets its index
  gets : (i : ℕ) (xs : List Bounds) (old : List ℕ) (p : ℕ) → p < length old → holding g xs p ≡ 1
      → get_or (fill_from g i xs old) p 0 ≡ index_from g i xs p
  unfolding fill_from fill_of holding index_from
  gets i [] old p h e = absurd (omega arith)
  gets i (x ∷ xs) old p h e = go (holds_at g x p) refl e (gets (suc i) xs (fill_where (holds_at g x) i old) p there)
    where
      there : p < length (fill_where (holds_at g x) i old)
      there = rw (length_fill (holds_at g x) i old) h

      go : (b : Bool) → holds_at g x p ≡ b → cond b 1 0 + holding g xs p ≡ 1
          → (holding g xs p ≡ 1
          → get_or (fill_from g (suc i) xs (fill_where (holds_at g x) i old)) p 0 ≡ index_from g (suc i) xs p)
          → get_or (fill_from g (suc i) xs (fill_where (holds_at g x) i old)) p 0 ≡ cond b i (index_from g (suc i) xs p)
      go true q e later =
          stays (suc i) xs (fill_where (holds_at g x) i old) p there (omega arith)
          ∙ fill_at_lem (holds_at g x) i old p h
          ∙ ap (λ (b : Bool). cond b i (get_or old p 0)) q
      go false q e later = later (omega arith)

  -- boxes that tile the grid, filled in order over any map of the grid
  pub filled_map : (xs : List Bounds) → Tiles g xs → (old : List ℕ) → length old ≡ bins_of g
      → fill_from g 0 xs old ≡ map_of g xs
  unfolding map_of
  filled_map xs t old e =
      list_is (bins_of g) (index_from g 0 xs) (fill_from g 0 xs old) 0 (length_filled 0 xs old ∙ e)
      (λ p h. gets 0 xs old p (rw e h) (t.once p h))

  -- "every bin of it gets index i in the map"
  holds_once : (xs : List Bounds) (i : ℕ) (none : Bounds) (p : ℕ) → i < length xs → holds_at g (get_or xs i none) p ≡ true
      → 1 ≤ holding g xs p
  unfolding holding
  holds_once [] i none p h e = absurd (omega arith)
  holds_once (x ∷ xs) zero none p h e = rw e (omega arith)
  holds_once (x ∷ xs) (suc i) none p h e = omega (arith, holds_once xs i none p (omega arith) e)

  index_is : (k : ℕ) (xs : List Bounds) (i : ℕ) (none : Bounds) (p : ℕ) → i < length xs → holding g xs p ≡ 1
      → holds_at g (get_or xs i none) p ≡ true → index_from g k xs p ≡ k + i
  unfolding holding index_from
  index_is k [] i none p h o e = absurd (omega arith)
  index_is k (x ∷ xs) zero none p h o e = rw e (sym (add-zero k))
  index_is k (x ∷ xs) (suc i) none p h o e = go (holds_at g x p) o (λ n. index_is (suc k) xs i none p (omega arith) n e)
    where
      go : (b : Bool) → cond b 1 0 + holding g xs p ≡ 1 → (holding g xs p ≡ 1 → index_from g (suc k) xs p ≡ suc k + i)
          → cond b k (index_from g (suc k) xs p) ≡ k + suc i
      go true o later = absurd (omega (arith, holds_once xs i none p (omega arith) e))
      go false o later = later (omega arith) ∙ suc-add k i ∙ sym (add-suc k i)

  pub index_of_box : (xs : List Bounds) → Tiles g xs → (i : ℕ) (none : Bounds) (p : ℕ) → i < length xs → p < bins_of g
      → holds_at g (get_or xs i none) p ≡ true → get_or (map_of g xs) p 0 ≡ i
  index_of_box xs t i none p h l e =
      map_at xs p l ∙ index_is 0 xs i none p h (t.once p l) e ∙ zero-add i

  -- and no other index stands in it
  index_below : (k : ℕ) (xs : List Bounds) (p : ℕ) → holding g xs p ≡ 1 → index_from g k xs p < k + length xs
  unfolding holding index_from
  index_below k [] p o = absurd (omega arith)
  index_below k (x ∷ xs) p o = go (holds_at g x p) o (index_below (suc k) xs p)
    where
      go : (b : Bool) → cond b 1 0 + holding g xs p ≡ 1
          → (holding g xs p ≡ 1 → index_from g (suc k) xs p < suc k + length xs)
          → cond b k (index_from g (suc k) xs p) < k + suc (length xs)
      go true o later = omega arith
      go false o later = omega (arith, later (omega arith))

  pub map_below : (xs : List Bounds) → Tiles g xs → (p : ℕ) → p < bins_of g → get_or (map_of g xs) p 0 < length xs
  map_below xs t p h = omega (arith, map_at xs p h, index_below 0 xs p (t.once p h))

  -- the bins with index i are those of box i
  index_from_lem : (k : ℕ) (xs : List Bounds) (p : ℕ) → holding g xs p ≡ 1 → k ≤ index_from g k xs p
  unfolding holding index_from
  index_from_lem k [] p o = absurd (omega arith)
  index_from_lem k (x ∷ xs) p o = go (holds_at g x p) o (index_from_lem (suc k) xs p)
    where
      go : (b : Bool) → cond b 1 0 + holding g xs p ≡ 1 → (holding g xs p ≡ 1 → suc k ≤ index_from g (suc k) xs p)
          → k ≤ cond b k (index_from g (suc k) xs p)
      go true o later = omega arith
      go false o later = omega (arith, later (omega arith))

  index_holds : (k : ℕ) (xs : List Bounds) (i : ℕ) (none : Bounds) (p : ℕ) → holding g xs p ≡ 1
      → index_from g k xs p ≡ k + i → holds_at g (get_or xs i none) p ≡ true
  unfolding holding index_from
  index_holds k [] i none p o e = absurd (omega arith)
  index_holds k (x ∷ xs) i none p o e = go (holds_at g x p) refl i o e (λ n m q. index_holds (suc k) xs m none p n q)
    where
      go : (b : Bool) → holds_at g x p ≡ b → (i : ℕ) → cond b 1 0 + holding g xs p ≡ 1
          → cond b k (index_from g (suc k) xs p) ≡ k + i
          → (holding g xs p ≡ 1 → (m : ℕ) → index_from g (suc k) xs p ≡ suc k + m → holds_at g (get_or xs m none) p ≡ true)
          → holds_at g (get_or (x ∷ xs) i none) p ≡ true
      go true h zero o e later = h
      go true h (suc i) o e later = absurd (omega arith)
      go false h zero o e later = absurd (omega (arith, index_from_lem (suc k) xs p (omega arith)))
      go false h (suc i) o e later = later (omega arith) i (e ∙ add-suc k i ∙ sym (suc-add k i))

  pub box_of_index : (xs : List Bounds) → Tiles g xs → (i : ℕ) (none : Bounds) (p : ℕ) → i < length xs → p < bins_of g
      → holds_at g (get_or xs i none) p ≡ eqb (get_or (map_of g xs) p 0) i
  box_of_index xs t i none p h l =
      tests_same _ _
      (λ e. eq-eqb _ _ (index_of_box xs t i none p h l e))
      (λ e. index_holds 0 xs i none p (t.once p l) (sym (map_at xs p l) ∙ eqb-true _ _ e ∙ sym (zero-add i)))
