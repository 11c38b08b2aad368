-- Loading colours: none, some after others, and in any order.
-- Assumes nothing.
use mathlib.Core.Path.{◌≡◌, sym, ap, ◌∙◌}
use mathlib.Core.Bool.{false}
use mathlib.Core.List.{List, [], ◌++◌, Perm}
use Prim.Native.Nat.{ℕ, ◌+◌}
use native.Mathlib.Nat.{add-zero, add_assoc}
use Rattle.grid.specs.declared.place.Grid.{Grid}
use Rattle.grid.specs.Grid.{bins_of}
use Rattle.table.specs.Cell.{View}
use Rattle.table.specs.Table.{Table, Sized, view_of, written}
use Rattle.table.proofs.Tables.{list_holds, holds_list, holds_itself, holds_same}
use Rattle.adder.specs.Batch.{Weighted, adds, sum_over, weight_of, loaded}
use Rattle.adder.proofs.Loading.{over_none, over_append, over_perm, loaded_at}
use Rattle.loader.proofs.Weightless.{empty_weight}
use Rattle.loader.proofs.Batches.{batch_none}

-- nothing loaded, and more loaded after some
module _ (g : Grid) where
  pub load_none : {t : Table} → Sized t (bins_of g) → t ≡ written (bins_of g) (loaded g [] (view_of t))
  load_none {t} s =
      holds_list
      (holds_same (holds_itself (bins_of g) t s)
      (λ p j h k. sym
      (loaded_at g [] (view_of t) p j
      ∙ ap (λ (x : ℕ). view_of t p j + x) (over_none (λ c. adds g c p j))
      ∙ add-zero (view_of t p j))))

  pub load_more : (cs ds : List Weighted) (v : View)
      → written (bins_of g) (loaded g ds (view_of (written (bins_of g) (loaded g cs v))))
      ≡ written (bins_of g) (loaded g (cs ++ ds) v)
  load_more cs ds v =
      let once = written (bins_of g) (loaded g cs v) in
      holds_list
      (holds_same (list_holds (bins_of g) (loaded g ds (view_of once)))
      (λ p j h k.
      loaded_at g ds (view_of once) p j
      ∙ ap (λ (x : ℕ). x + sum_over ds (λ c. adds g c p j))
      ((list_holds (bins_of g) (loaded g cs v)).at p j h k ∙ loaded_at g cs v p j)
      ∙ add_assoc (v p j) (sum_over cs (λ c. adds g c p j)) (sum_over ds (λ c. adds g c p j))
      ∙ ap (λ (x : ℕ). v p j + x) (sym (over_append cs ds (λ c. adds g c p j)))
      ∙ sym (loaded_at g (cs ++ ds) v p j)))

  -- the order of what is loaded does not matter
  pub load_perm : {cs ds : List Weighted} → Perm cs ds → (v : View)
      → written (bins_of g) (loaded g cs v) ≡ written (bins_of g) (loaded g ds v)
  load_perm {cs} {ds} π v =
      holds_list
      (holds_same (list_holds (bins_of g) (loaded g cs v))
      (λ p j h k.
      loaded_at g cs v p j
      ∙ ap (λ (x : ℕ). v p j + x) (over_perm (λ c. adds g c p j) π)
      ∙ sym (loaded_at g ds v p j)))

-- no colours weigh nothing
pub weight_none : weight_of [] ≡ 0
weight_none = ap weight_of (sym (batch_none [])) ∙ empty_weight false []
