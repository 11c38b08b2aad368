-- How the calls end: which answer they give and what they leave, case by case.
-- Assumes nothing.
use Rattle.std.specs.Prelude.{None, Some}
use mathlib.Core.Path.{◌≡◌, refl, ap}
use mathlib.Core.Bool.{Bool, true, false, not, ◌&&◌}
use mathlib.Core.List.{List}
use Prim.Native.Nat.{ℕ, ◌+◌, ◌/◌, ◌%◌, ◌≤◌, ◌<◌}
use borrow.Author.Tests.{eq-eqb, ne_eqb, lt-ltb, le-ltb}
use lib.Dec.{eqb}
use lib.ListN.{length}
use Rattle.grid.specs.declared.place.Grid.{Grid}
use Rattle.basics.specs.Answer.{refuse, when_done}
use Rattle.grid.specs.Grid.{grid_of, bins_of}
use Rattle.grid.proofs.Ends.{grid_refused, ends}
use Rattle.table.specs.Layouts.{Layout}
use Rattle.table.specs.Layouts.{Wide, Narrow}
use Rattle.table.specs.Table.{Table, Sized, view_of, written}
use Rattle.table.specs.Layout.{TableIn, SizedIn, is_sized_in, view_in, written_in}
use Rattle.table.specs.Sound.{limit, limit_of, total, sound}
use Rattle.table.proofs.Layouts.{in_sized}
use Rattle.adder.specs.Batch.{weight_of, batch_of, loaded}
use Rattle.table.specs.Sound.{passed_number}
use Rattle.loader.specs.Load.{load_number_on, load_number_in, load_later_in, load_number, load_later}
use Rattle.loader.specs.Merge.{merged, merge_number_on, merge_number_in, merge_later_in}

-- the answer beyond a layout's limit is a refusal
beyond_keeps : {A : Type 0} (l : Layout) (done kept : A) → kept ≡ when_done (passed_number l) done kept
unfolding when_done
beyond_keeps Wide done kept = refl
beyond_keeps Narrow done kept = refl

-- ---- merge
module _ (l : Layout) (b1 b2 b3 : ℕ) (t s : TableIn l) where
  abbrev MergeEnds : ℕ → TableIn l → Type 0
  MergeEnds n e = (n ≡ merge_number_in l b1 b2 b3 t s) × (e ≡ merge_later_in l b1 b2 b3 t s)

  -- the answer on a grid, and the table where it is 0
  abbrev pub merge_on : Grid → ℕ
  merge_on g =
      merge_number_on (limit_of l) (passed_number l) g (is_sized_in l t (bins_of g) && is_sized_in l s (bins_of g))
      (view_in l t) (view_in l s)

  abbrev pub merge_after : Grid → TableIn l
  merge_after g = written_in l (bins_of g) (merged (view_in l t) (view_in l s))

  pub merge_no_grid_in : grid_of b1 b2 b3 ≡ None → MergeEnds 1 t
  unfolding merge_number_in merge_later_in
  merge_no_grid_in e = grid_refused (grid_of b1 b2 b3) merge_on merge_after t e

  module _ {g : Grid} (e : grid_of b1 b2 b3 ≡ Some g) where
    merge_ends : {n : ℕ} → merge_on g ≡ n → {x : TableIn l} → x ≡ when_done n (merge_after g) t → MergeEnds n x
    unfolding merge_number_in merge_later_in
    merge_ends q r = ends (grid_of b1 b2 b3) merge_on merge_after t e q r

    pub merge_first_length : is_sized_in l t (bins_of g) ≡ false → MergeEnds 5 t
    unfolding merge_number_on refuse when_done
    merge_first_length n = merge_ends (simp (n)) refl

    module _ (h : SizedIn l t (bins_of g)) where
      pub merge_second_length : is_sized_in l s (bins_of g) ≡ false → MergeEnds 5 t
      unfolding merge_number_on refuse when_done
      merge_second_length n = merge_ends (simp (in_sized l t (bins_of g) h, n)) refl

      module _ (k : SizedIn l s (bins_of g)) where
        pub merge_first_unsound : sound (limit_of l) g (view_in l t) ≡ false → MergeEnds 6 t
        unfolding merge_number_on refuse when_done
        merge_first_unsound u = merge_ends (simp (in_sized l t (bins_of g) h, in_sized l s (bins_of g) k, u)) refl

        module _ (v : sound (limit_of l) g (view_in l t) ≡ true) where
          pub merge_second_unsound : sound (limit_of l) g (view_in l s) ≡ false → MergeEnds 6 t
          unfolding merge_number_on refuse when_done
          merge_second_unsound u = merge_ends (simp (in_sized l t (bins_of g) h, in_sized l s (bins_of g) k, v, u)) refl

          module _ (w : sound (limit_of l) g (view_in l s) ≡ true) where
            pub merge_over : limit_of l < total g (view_in l t) + total g (view_in l s) → MergeEnds (passed_number l) t
            unfolding merge_number_on refuse when_done
            merge_over o =
                merge_ends (simp (in_sized l t (bins_of g) h, in_sized l s (bins_of g) k, v, w, lt-ltb _ _ o))
                (beyond_keeps l (merge_after g) t)

            pub merge_done : total g (view_in l t) + total g (view_in l s) ≤ limit_of l → {x : TableIn l}
                → x ≡ merge_after g
                → MergeEnds 0 x
            unfolding merge_number_on refuse when_done
            merge_done o r =
                merge_ends (simp (in_sized l t (bins_of g) h, in_sized l s (bins_of g) k, v, w, le-ltb _ _ o)) r

-- ---- load
-- as many weights as colours where they are given is no 4
pub pairs : (weighted : Bool) (n m : ℕ) → (weighted ≡ true → n ≡ m) → (weighted && not (eqb n m)) ≡ false
pairs true n m e = ap not (eq-eqb n m (e refl))
pairs false n m e = refl

module _ (l : Layout) (b1 b2 b3 : ℕ) (t : TableIn l) (colours : List ℕ) (weighted : Bool) (weights : List ℕ) where
  abbrev LoadEnds : ℕ → TableIn l → Type 0
  LoadEnds n e =
      (n ≡ load_number_in l b1 b2 b3 t colours weighted weights) × (e ≡ load_later_in l b1 b2 b3 t colours weighted weights)

  abbrev pub load_on : Grid → ℕ
  load_on g =
      load_number_on (limit_of l) (passed_number l) g (is_sized_in l t (bins_of g)) (view_in l t) colours weighted weights

  abbrev pub load_after : Grid → TableIn l
  load_after g = written_in l (bins_of g) (loaded g (batch_of colours weighted weights) (view_in l t))

  pub load_no_grid_in : grid_of b1 b2 b3 ≡ None → LoadEnds 1 t
  unfolding load_number_in load_later_in
  load_no_grid_in e = grid_refused (grid_of b1 b2 b3) load_on load_after t e

  module _ {g : Grid} (e : grid_of b1 b2 b3 ≡ Some g) where
    load_ends : {n : ℕ} → load_on g ≡ n → {x : TableIn l} → x ≡ when_done n (load_after g) t → LoadEnds n x
    unfolding load_number_in load_later_in
    load_ends q r = ends (grid_of b1 b2 b3) load_on load_after t e q r

    pub load_not_threes : (length colours % 3 ≡ 0 → ⊥) → LoadEnds 3 t
    unfolding load_number_on refuse when_done
    load_not_threes n = load_ends (simp (ne_eqb _ _ n)) refl

    module _ (h : length colours % 3 ≡ 0) where
      pub load_not_paired : weighted ≡ true → (length weights ≡ length colours / 3 → ⊥) → LoadEnds 4 t
      unfolding load_number_on refuse when_done
      load_not_paired y n = load_ends (simp (eq-eqb _ _ h, y, ne_eqb _ _ n)) refl

      module _ (k : (weighted && not (eqb (length weights) (length colours / 3))) ≡ false) where
        pub load_length : is_sized_in l t (bins_of g) ≡ false → LoadEnds 5 t
        unfolding load_number_on refuse when_done
        load_length n = load_ends (simp (eq-eqb _ _ h, k, n)) refl

        module _ (f : SizedIn l t (bins_of g)) where
          pub load_unsound : sound (limit_of l) g (view_in l t) ≡ false → LoadEnds 6 t
          unfolding load_number_on refuse when_done
          load_unsound u = load_ends (simp (eq-eqb _ _ h, k, in_sized l t (bins_of g) f, u)) refl

          module _ (v : sound (limit_of l) g (view_in l t) ≡ true) where
            pub load_over : limit_of l < total g (view_in l t) + weight_of (batch_of colours weighted weights)
                → LoadEnds (passed_number l) t
            unfolding load_number_on refuse when_done
            load_over o = load_ends (simp (eq-eqb _ _ h, k, in_sized l t (bins_of g) f, v, lt-ltb _ _ o))
                (beyond_keeps l (load_after g) t)

            pub load_done_in : total g (view_in l t) + weight_of (batch_of colours weighted weights) ≤ limit_of l
                → {x : TableIn l} → x ≡ load_after g → LoadEnds 0 x
            unfolding load_number_on refuse when_done
            load_done_in o r = load_ends (simp (eq-eqb _ _ h, k, in_sized l t (bins_of g) f, v, le-ltb _ _ o)) r

-- ---- in the wide layout
module _ (b1 b2 b3 : ℕ) (t : Table) (colours : List ℕ) (weighted : Bool) (weights : List ℕ) where
  pub load_no_grid : grid_of b1 b2 b3 ≡ None
      → (1 ≡ load_number b1 b2 b3 t colours weighted weights) × (t ≡ load_later b1 b2 b3 t colours weighted weights)
  load_no_grid = load_no_grid_in Wide b1 b2 b3 t colours weighted weights

  pub load_done : {g : Grid} → grid_of b1 b2 b3 ≡ Some g → length colours % 3 ≡ 0
      → (weighted && not (eqb (length weights) (length colours / 3))) ≡ false → Sized t (bins_of g)
      → sound limit g (view_of t) ≡ true → total g (view_of t) + weight_of (batch_of colours weighted weights) ≤ limit
      → {x : Table} → x ≡ written (bins_of g) (loaded g (batch_of colours weighted weights) (view_of t))
      → (0 ≡ load_number b1 b2 b3 t colours weighted weights) × (x ≡ load_later b1 b2 b3 t colours weighted weights)
  load_done = load_done_in Wide b1 b2 b3 t colours weighted weights
