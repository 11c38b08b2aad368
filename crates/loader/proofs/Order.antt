-- Demand 3, the table's half: loaded in any order, in any batches, into one table or several merged in any order, a
-- list of weighted colours gives the same table.
-- Assumes nothing.
use Rattle.std.specs.Prelude.{Some}
use mathlib.Core.Path.{◌≡◌, refl, sym, ap, ◌∙◌}
use mathlib.Core.Bool.{true, ◌&&◌}
use mathlib.Core.List.{List, [], ◌∷◌, ◌++◌, Perm}
use Prim.Native.Nat.{ℕ, zero, suc, ◌+◌, ◌*◌, ◌≤◌}
use native.Mathlib.Nat.{zero-add}
use native.Mathlib.Omega.{arith}
use borrow.Author.Tests.{le-ltb}
use Rattle.grid.specs.declared.place.Grid.{Grid}
use Rattle.basics.specs.Answer.{refuse, when_done}
use Rattle.grid.specs.Grid.{grid_of, Accepted, bins_of, on_grid, number_on}
use Rattle.grid.proofs.Places.{chose}
use Rattle.table.specs.Cell.{zeros}
use Rattle.table.specs.Layouts.{Layout}
use Rattle.table.specs.Layouts.{Wide}
use Rattle.table.specs.Table.{view_of, written, empty_of}
use Rattle.table.specs.Layout.{TableIn, is_sized_in, view_in, written_in, empty_in}
use Rattle.table.specs.Sound.{limit, limit_of, total, sound}
use Rattle.adder.specs.Batch.{Weighted, sum_over, adds, weight_of, loaded, batch_of}
use Rattle.table.specs.Sound.{passed_number}
use Rattle.loader.specs.Load.{table_in, table_of, load_number_on, load_number_in, load_later_in}
use Rattle.loader.specs.Merge.{merged, merge_number_on, merge_number_in, merge_later_in}
use Rattle.loader.specs.Plan.{Batch, Plan, empty, load, merge, EndedIn, Stopped, Filled, ended_of_in, ended_of}
use Rattle.loader.specs.Plan.{then_load_in, then_merge_in, ends_in, ends, leaves, malformed, first_of, first_malformed}
use Rattle.loader.specs.Plan.{BytesIn}
use Rattle.table.proofs.Tables.{Holds}
use Rattle.table.proofs.Layouts.{in_sized, HoldsIn, list_holds_in, holds_list_in, holds_same_in, empty_holds_in}
use Rattle.table.proofs.Soundness.{zeros_sound, zeros_total, sound_same, total_same}
use Rattle.adder.proofs.Loading.{AllBytes, over_append, over_perm, load_total, load_sound}
use Rattle.adder.proofs.Parts.{all_bytes_of}

pub bytes_append : (cs ds : List Weighted) → AllBytes cs → AllBytes ds → AllBytes (cs ++ ds)
bytes_append [] ds b c = c
bytes_append (x ∷ cs) ds b c = (b.0, bytes_append cs ds b.1 c)

pub weight_append : (cs ds : List Weighted) → weight_of (cs ++ ds) ≡ weight_of cs + weight_of ds
unfolding weight_of
weight_append cs ds = over_append cs ds (λ c. c.weight)

module _ (l : Layout) (g : Grid) where
  pub table_holds_in : (cs : List Weighted) → HoldsIn l (bins_of g) (table_in l g cs) (loaded g cs zeros)
  unfolding table_in
  table_holds_in cs = list_holds_in l (bins_of g) (loaded g cs zeros)

  append_at : (cs ds : List Weighted) (p j : ℕ)
      → (0 + sum_over cs (λ c. adds g c p j)) + sum_over ds (λ c. adds g c p j)
      ≡ 0 + sum_over (cs ++ ds) (λ c. adds g c p j)
  append_at cs ds p j = omega (arith, over_append cs ds (λ c. adds g c p j))

  -- a batch loaded into the table of some colours, and two such tables merged
  pub load_table_in : (cs ds : List Weighted)
      → written_in l (bins_of g) (loaded g ds (view_in l (table_in l g cs))) ≡ table_in l g (cs ++ ds)
  unfolding table_in loaded
  load_table_in cs ds =
      holds_list_in l
      (holds_same_in (list_holds_in l (bins_of g) (loaded g ds (view_in l (table_in l g cs))))
      (λ p j h k. ap (λ (x : ℕ). x + sum_over ds (λ c. adds g c p j)) ((table_holds_in cs).at p j h k)
      ∙ append_at cs ds p j))

  merge_table : (cs ds : List Weighted)
      → written_in l (bins_of g) (merged (view_in l (table_in l g cs)) (view_in l (table_in l g ds))) ≡ table_in l g (cs ++ ds)
  unfolding table_in loaded merged
  merge_table cs ds =
      holds_list_in l
      (holds_same_in (list_holds_in l (bins_of g) (merged (view_in l (table_in l g cs)) (view_in l (table_in l g ds))))
      (λ p j h k.
      (λ i. (table_holds_in cs).at p j h k i
      + ((table_holds_in ds).at p j h k ∙ zero-add (sum_over ds (λ c. adds g c p j))) i)
      ∙ append_at cs ds p j))

  -- the order of the colours does not change it
  pub table_perm_in : {cs ds : List Weighted} → Perm cs ds → table_in l g cs ≡ table_in l g ds
  unfolding table_in loaded
  table_perm_in {cs} {ds} π =
      holds_list_in l
      (holds_same_in (list_holds_in l (bins_of g) (loaded g cs zeros))
      (λ p j h k. ap (λ (x : ℕ). 0 + x) (over_perm (λ c. adds g c p j) π)))

  module _ (a : Accepted g) (cs : List Weighted) (b : AllBytes cs) where
    pub table_total_in : total g (view_in l (table_in l g cs)) ≡ weight_of cs
    table_total_in =
        total_same g (view_in l (table_in l g cs)) (loaded g cs zeros) (table_holds_in cs).at
        ∙ load_total a cs b zeros
        ∙ ap (λ (x : ℕ). x + weight_of cs) (zeros_total g)
        ∙ zero-add (weight_of cs)

    pub table_sound_in : weight_of cs ≤ limit_of l → sound (limit_of l) g (view_in l (table_in l g cs)) ≡ true
    table_sound_in h =
        sound_same g (view_in l (table_in l g cs)) (loaded g cs zeros) (table_holds_in cs).at (limit_of l)
        ∙ (load_sound a cs b (zeros_sound (limit_of l) g) (omega (arith, zeros_total g))).holds

pub leaves_bytes : (p : Plan) → BytesIn p → AllBytes (leaves p)
unfolding leaves
leaves_bytes empty y = tt
leaves_bytes (load p b) y =
    bytes_append (leaves p) _ (leaves_bytes p y.0) (all_bytes_of b.colours b.weighted b.weights y.1)
leaves_bytes (merge p q) y = bytes_append (leaves p) (leaves q) (leaves_bytes p y.0) (leaves_bytes q y.1)

-- ---- a plan, step by step
ended_done : (l : Layout) (n : ℕ) (x t : TableIn l) → ended_of_in l n (when_done n x t) ≡ ended_of_in l n x
unfolding ended_of_in when_done
ended_done l zero x t = refl
ended_done l (suc n) x t = refl

module _ (l : Layout) (b1 b2 b3 : ℕ) {g : Grid} (e : grid_of b1 b2 b3 ≡ Some g) where
  a : Accepted g
  a = (chose b1 b2 b3 g e).accepted

  bins_are : bins_of g ≡ b1 * b2 * b3
  unfolding bins_of
  bins_are = let c = chose b1 b2 b3 g e in λ i. c.one i * c.two i * c.three i

  -- zeros, as a caller lends them
  pub empty_table_in : empty_in l (b1 * b2 * b3) ≡ table_in l g []
  unfolding table_in loaded sum_over
  empty_table_in =
      ap (λ (n : ℕ). empty_in l n) (sym bins_are)
      ∙ holds_list_in l (holds_same_in (empty_holds_in l (bins_of g)) (λ p j h k. refl))

  load_number_lem : (cs : List Weighted) → AllBytes cs → (b : Batch)
      → weight_of (cs ++ batch_of b.colours b.weighted b.weights) ≤ limit_of l
      → load_number_on (limit_of l) (passed_number l) g (is_sized_in l (table_in l g cs) (bins_of g))
      (view_in l (table_in l g cs)) b.colours b.weighted
      b.weights ≡ malformed b
  unfolding load_number_on malformed refuse
  load_number_lem cs y b h =
      let ds = batch_of b.colours b.weighted b.weights in
      simp (
        in_sized l (table_in l g cs) (bins_of g) (table_holds_in l g cs).lent,
        table_sound_in l g a cs y (omega (arith, weight_append cs ds)),
        le-ltb (limit_of l) (total g (view_in l (table_in l g cs)) + weight_of ds)
            (omega (arith, table_total_in l g a cs y, weight_append cs ds)),
      )

  step_load : (cs : List Weighted) → AllBytes cs → (b : Batch)
      → weight_of (cs ++ batch_of b.colours b.weighted b.weights) ≤ limit_of l
      → then_load_in l b1 b2 b3 (Filled (table_in l g cs)) b
      ≡ ended_of_in l (malformed b) (table_in l g (cs ++ batch_of b.colours b.weighted b.weights))
  unfolding then_load_in load_number_in load_later_in number_on on_grid
  step_load cs y b h =
      let ds = batch_of b.colours b.weighted b.weights in
      rw (e, load_number_lem cs y b h)
      (ended_done l (malformed b) (written_in l (bins_of g) (loaded g ds (view_in l (table_in l g cs)))) (table_in l g cs)
      ∙ ap (ended_of_in l (malformed b)) (load_table_in l g cs ds))

  merge_number_lem : (cs ds : List Weighted) → AllBytes cs → AllBytes ds → weight_of (cs ++ ds) ≤ limit_of l
      → merge_number_on (limit_of l) (passed_number l) g
      (is_sized_in l (table_in l g cs) (bins_of g) && is_sized_in l (table_in l g ds) (bins_of g))
      (view_in l (table_in l g cs)) (view_in l (table_in l g ds)) ≡ 0
  unfolding merge_number_on refuse
  merge_number_lem cs ds y z h =
      simp (
        in_sized l (table_in l g cs) (bins_of g) (table_holds_in l g cs).lent,
        in_sized l (table_in l g ds) (bins_of g) (table_holds_in l g ds).lent,
        table_sound_in l g a cs y (omega (arith, weight_append cs ds)),
        table_sound_in l g a ds z (omega (arith, weight_append cs ds)),
        le-ltb (limit_of l) (total g (view_in l (table_in l g cs)) + total g (view_in l (table_in l g ds)))
            (omega (arith, table_total_in l g a cs y, table_total_in l g a ds z, weight_append cs ds)),
      )

  step_merge : (cs ds : List Weighted) → AllBytes cs → AllBytes ds → weight_of (cs ++ ds) ≤ limit_of l
      → then_merge_in l b1 b2 b3 (Filled (table_in l g cs)) (Filled (table_in l g ds)) ≡ Filled (table_in l g (cs ++ ds))
  unfolding then_merge_in merge_number_in merge_later_in number_on on_grid ended_of_in when_done
  step_merge cs ds y z h = rw (e, merge_number_lem cs ds y z h) (ap Filled (merge_table l g cs ds))

  -- how a load, and a merge, goes on from what its parts gave
  on_load : (n : ℕ) (cs : List Weighted) → AllBytes cs → (b : Batch)
      → weight_of (cs ++ batch_of b.colours b.weighted b.weights) ≤ limit_of l
      → then_load_in l b1 b2 b3 (ended_of_in l n (table_in l g cs)) b
      ≡ ended_of_in l (first_of n (malformed b)) (table_in l g (cs ++ batch_of b.colours b.weighted b.weights))
  unfolding ended_of_in first_of then_load_in
  on_load zero cs y b h = step_load cs y b h
  on_load (suc n) cs y b h = refl

  on_merge : (n m : ℕ) (cs ds : List Weighted) → AllBytes cs → AllBytes ds → weight_of (cs ++ ds) ≤ limit_of l
      → then_merge_in l b1 b2 b3 (ended_of_in l n (table_in l g cs)) (ended_of_in l m (table_in l g ds))
      ≡ ended_of_in l (first_of n m) (table_in l g (cs ++ ds))
  unfolding ended_of_in first_of then_merge_in
  on_merge zero zero cs ds y z h = step_merge cs ds y z h
  on_merge zero (suc m) cs ds y z h = refl
  on_merge (suc n) m cs ds y z h = refl

  -- A plan whose total fits is refused with the answer to its first malformed batch, and otherwise gives the table of
  -- its colours.
  pub ends_is_in : (p : Plan) → BytesIn p → weight_of (leaves p) ≤ limit_of l
      → ends_in l b1 b2 b3 p ≡ ended_of_in l (first_malformed p) (table_in l g (leaves p))
  unfolding ends_in leaves first_malformed ended_of_in
  ends_is_in empty y h = ap Filled empty_table_in
  ends_is_in (load p b) y h =
      ap (λ (r : EndedIn l). then_load_in l b1 b2 b3 r b)
      (ends_is_in p y.0 (omega (arith, weight_append (leaves p) (batch_of b.colours b.weighted b.weights))))
      ∙ on_load (first_malformed p) (leaves p) (leaves_bytes p y.0) b h
  ends_is_in (merge p q) y h =
      (λ i.
      then_merge_in l b1 b2 b3
      (ends_is_in p y.0 (omega (arith, weight_append (leaves p) (leaves q))) i)
      (ends_is_in q y.1 (omega (arith, weight_append (leaves p) (leaves q))) i))
      ∙ on_merge (first_malformed p) (first_malformed q) (leaves p) (leaves q) (leaves_bytes p y.0)
      (leaves_bytes q y.1) h

  -- Two plans whose weighted colours are the same list but for order, with no malformed batch and a total that fits,
  -- end without a refusal with the same table.
  pub any_order_in : (p q : Plan) → BytesIn p → BytesIn q → first_malformed p ≡ 0 → first_malformed q ≡ 0
      → Perm (leaves p) (leaves q) → weight_of (leaves p) ≤ limit_of l
      → (ends_in l b1 b2 b3 p ≡ Filled (table_in l g (leaves p))) × (ends_in l b1 b2 b3 q ≡ ends_in l b1 b2 b3 p)
  unfolding ended_of_in weight_of
  any_order_in p q y z m n π h =
      let first : ends_in l b1 b2 b3 p ≡ Filled (table_in l g (leaves p)) = ends_is_in p y h
      ∙ ap (λ (k : ℕ). ended_of_in l k (table_in l g (leaves p))) m in
      let second : ends_in l b1 b2 b3 q ≡ Filled (table_in l g (leaves q)) =
      ends_is_in q z (omega (arith, over_perm (λ c. c.weight) π))
      ∙ ap (λ (k : ℕ). ended_of_in l k (table_in l g (leaves q))) n in
      (first, second ∙ ap Filled (sym (table_perm_in l g π)) ∙ sym first)

  -- A plan with a malformed batch is refused with that batch's answer.
  pub malformed_refused_in : (p : Plan) → BytesIn p → weight_of (leaves p) ≤ limit_of l → {n : ℕ}
      → first_malformed p ≡ suc n
      → ends_in l b1 b2 b3 p ≡ Stopped (suc n)
  unfolding ended_of_in
  malformed_refused_in p y h m = ends_is_in p y h ∙ ap (λ (k : ℕ). ended_of_in l k (table_in l g (leaves p))) m

-- ---- in the wide layout
module _ (g : Grid) where
  pub table_holds : (cs : List Weighted) → Holds (bins_of g) (table_of g cs) (loaded g cs zeros)
  table_holds = table_holds_in Wide g

  pub load_table : (cs ds : List Weighted)
      → written (bins_of g) (loaded g ds (view_of (table_of g cs))) ≡ table_of g (cs ++ ds)
  load_table = load_table_in Wide g

  pub table_perm : {cs ds : List Weighted} → Perm cs ds → table_of g cs ≡ table_of g ds
  table_perm = table_perm_in Wide g

  module _ (a : Accepted g) (cs : List Weighted) (b : AllBytes cs) where
    pub table_total : total g (view_of (table_of g cs)) ≡ weight_of cs
    table_total = table_total_in Wide g a cs b

    pub table_sound : weight_of cs ≤ limit → sound limit g (view_of (table_of g cs)) ≡ true
    table_sound = table_sound_in Wide g a cs b

module _ (b1 b2 b3 : ℕ) {g : Grid} (e : grid_of b1 b2 b3 ≡ Some g) where
  pub empty_table_lem : empty_of (b1 * b2 * b3) ≡ table_of g []
  empty_table_lem = empty_table_in Wide b1 b2 b3 e

  pub ends_is : (p : Plan) → BytesIn p → weight_of (leaves p) ≤ limit
      → ends b1 b2 b3 p ≡ ended_of (first_malformed p) (table_of g (leaves p))
  ends_is = ends_is_in Wide b1 b2 b3 e

  pub any_order : (p q : Plan) → BytesIn p → BytesIn q → first_malformed p ≡ 0 → first_malformed q ≡ 0
      → Perm (leaves p) (leaves q) → weight_of (leaves p) ≤ limit
      → (ends b1 b2 b3 p ≡ Filled (table_of g (leaves p))) × (ends b1 b2 b3 q ≡ ends b1 b2 b3 p)
  any_order = any_order_in Wide b1 b2 b3 e

  pub malformed_refused : (p : Plan) → BytesIn p → weight_of (leaves p) ≤ limit → {n : ℕ} → first_malformed p ≡ suc n
      → ends b1 b2 b3 p ≡ Stopped (suc n)
  malformed_refused = malformed_refused_in Wide b1 b2 b3 e
