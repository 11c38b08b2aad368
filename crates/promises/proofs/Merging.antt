-- Merging is commutative and associative, an empty table changes nothing, and a tree of merges tells nothing but which
-- tables stand in it (Rules, Merge). In either layout.
-- Assumes nothing.
use Rattle.std.specs.Prelude.{Some}
use mathlib.Core.Path.{◌≡◌, sym, ◌∙◌}
use mathlib.Core.List.{Perm}
use Prim.Native.Nat.{ℕ, ◌+◌, ◌*◌, ◌≤◌}
use native.Mathlib.Omega.{arith}
use Rattle.grid.specs.declared.place.Grid.{Grid}
use Rattle.grid.specs.Grid.{grid_of}
use Rattle.table.specs.Layouts.{Layout}
use Rattle.table.specs.Layout.{TableIn, view_in, empty_in}
use Rattle.table.specs.Sound.{limit_of, total}
use Rattle.loader.specs.Merge.{merge_number_in, merge_later_in}
use Rattle.loader.specs.Tree.{SoundTable, Tree, one, both, tree_ends, tables_in, AllSound, all_merged}
use Rattle.loader.proofs.Plans.{same_table}
use Rattle.loader.proofs.Trees.{merge_turned, merge_zeros, zeros_become, zeros_taken, ends_merged, same_tables}
use Rattle.loader.proofs.Trees.{two_done, two_weigh, two_sound, two_end, left_end, right_end, tree_turned}
use Rattle.loader.proofs.Trees.{tree_regrouped}
use Rattle.promises.specs.Merging.{Commutes, Associates}

module _ (l : Layout) (b1 b2 b3 : ℕ) where
  -- any two tables, sound or not, of any lengths and on any grid
  pub either_order : (t s : TableIn l) → merge_number_in l b1 b2 b3 t s ≡ merge_number_in l b1 b2 b3 s t
  either_order t s = merge_turned l b1 b2 b3 t s

  -- "an empty table changes nothing": merged into any table, sound or not, of any lengths, it leaves that as it was
  pub zeros_merged : (t : TableIn l) → merge_later_in l b1 b2 b3 t (empty_in l (b1 * b2 * b3)) ≡ t
  zeros_merged t = merge_zeros l b1 b2 b3 t

  -- and where a table is merged into it, it becomes that table
  pub into_zeros : (t : TableIn l) → merge_number_in l b1 b2 b3 (empty_in l (b1 * b2 * b3)) t ≡ 0
      → merge_later_in l b1 b2 b3 (empty_in l (b1 * b2 * b3)) t ≡ t
  into_zeros t = zeros_become l b1 b2 b3 t

  module _ {g : Grid} (e : grid_of b1 b2 b3 ≡ Some g) where
    -- which is done for every sound table
    pub zeros_accepted : (t : TableIn l) → SoundTable l g t
        → merge_number_in l b1 b2 b3 (empty_in l (b1 * b2 * b3)) t ≡ 0
    zeros_accepted t s = zeros_taken l b1 b2 b3 e t s

    -- either way round
    pub zeros_add_nothing : (t : TableIn l) → SoundTable l g t
        → merge_number_in l b1 b2 b3 t (empty_in l (b1 * b2 * b3)) ≡ 0
    zeros_add_nothing t s = either_order t (empty_in l (b1 * b2 * b3)) ∙ zeros_accepted t s

    -- ---- trees
    -- a tree of sound tables ends with one table that holds what they hold together, or with the answer of the limit
    pub tree_ends_lem : (p : Tree l) → AllSound l g p → tree_ends l b1 b2 b3 p ≡ all_merged l g (tables_in l p)
    tree_ends_lem p s = ends_merged l b1 b2 b3 e p s

    -- so neither its shape nor the order of its tables changes how it ends
    pub any_tree : (p q : Tree l) → AllSound l g p → AllSound l g q → Perm (tables_in l p) (tables_in l q)
        → tree_ends l b1 b2 b3 p ≡ tree_ends l b1 b2 b3 q
    any_tree p q s r π = same_tables l b1 b2 b3 e p q s r π

    -- ---- two tables
    module _ (t s : TableIn l) (a : SoundTable l g t) (b : SoundTable l g s) where
      -- whether their total fits or not
      pub merge_commutes : tree_ends l b1 b2 b3 (both (one t) (one s)) ≡ tree_ends l b1 b2 b3 (both (one s) (one t))
      merge_commutes = tree_turned l b1 b2 b3 e t s a b

      -- and wherever it fits
      pub two_fit : total g (view_in l t) + total g (view_in l s) ≤ limit_of l → Commutes l b1 b2 b3 t s
      two_fit h =
          let done = two_done l b1 b2 b3 e t s a b h in
          let turned = sym (either_order t s) ∙ done in
          record {
            second_into_first = done;
            first_into_second = turned;
            same = same_table (sym (two_end l b1 b2 b3 e t s done) ∙ merge_commutes ∙ two_end l b1 b2 b3 e s t turned);
          }

    -- ---- three
    module _ (t s u : TableIn l) (a : SoundTable l g t) (b : SoundTable l g s) (c : SoundTable l g u) where
      pub merge_associates : tree_ends l b1 b2 b3 (both (both (one t) (one s)) (one u))
          ≡ tree_ends l b1 b2 b3 (both (one t) (both (one s) (one u)))
      merge_associates = tree_regrouped l b1 b2 b3 e t s a b u c

      pub three_fit : total g (view_in l t) + total g (view_in l s) + total g (view_in l u) ≤ limit_of l
          → Associates l b1 b2 b3 t s u
      three_fit h =
          let left : total g (view_in l t) + total g (view_in l s) ≤ limit_of l = omega arith in
          let right : total g (view_in l s) + total g (view_in l u) ≤ limit_of l = omega arith in
          let ts = merge_later_in l b1 b2 b3 t s in
          let su = merge_later_in l b1 b2 b3 s u in
          let ts-done = two_done l b1 b2 b3 e t s a b left in
          let su-done = two_done l b1 b2 b3 e s u b c right in
          let ts-u = two_done l b1 b2 b3 e ts u (two_sound l b1 b2 b3 e t s a b left) c
          (omega (arith, two_weigh l b1 b2 b3 e t s a b left)) in
          let t-su = two_done l b1 b2 b3 e t su a (two_sound l b1 b2 b3 e s u b c right)
          (omega (arith, two_weigh l b1 b2 b3 e s u b c right)) in
          record {
            first_two = ts-done;
            then_third = ts-u;
            last_two = su-done;
            into_first = t-su;
            same = same_table
                (sym (left_end l b1 b2 b3 e t s u ts-done ts-u) ∙ merge_associates
                ∙ right_end l b1 b2 b3 e t s u su-done t-su);
          }
