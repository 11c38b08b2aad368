-- A plan that ends with a table: the weights of its colours total at most the limit, and the table is that of its
-- colours.
-- Assumes nothing.
use Rattle.std.specs.Prelude.{Option, Some}
use mathlib.Core.Path.{◌≡◌, refl, sym, ap, subst, ◌∙◌}
use mathlib.Core.Bool.{Bool, true, false, true≢false}
use mathlib.Core.List.{List, ◌++◌}
use Prim.Native.Nat.{ℕ, zero, suc, ◌+◌, ◌≤◌}
use native.Mathlib.Omega.{arith}
use Rattle.grid.specs.declared.place.Grid.{Grid}
use Rattle.grid.specs.Grid.{grid_of, on_grid}
use Rattle.grid.proofs.Places.{chose}
use Rattle.table.specs.Layouts.{Layout}
use Rattle.table.specs.Layout.{TableIn, view_in}
use Rattle.table.specs.Sound.{limit_of, total}
use Rattle.adder.specs.Batch.{Weighted, weight_of, sum_over, batch_of}
use Rattle.loader.specs.Load.{table_in}
use Rattle.loader.specs.Plan.{Plan, empty, load, merge, EndedIn, Stopped, Filled, ended_of_in, then_load_in}
use Rattle.loader.specs.Plan.{then_merge_in, ends_in, leaves, first_malformed, BytesIn}
use Rattle.loader.proofs.Laws.{load_says_in, merge_says_in}
use Rattle.loader.proofs.Order.{table_total_in, weight_append, leaves_bytes, ends_is_in}

-- ---- how a plan ended
module _ {l : Layout} where
  filled_in : EndedIn l → TableIn l → TableIn l
  filled_in (Stopped n) none = none
  filled_in (Filled t) none = t

  is_filled : EndedIn l → Bool
  is_filled (Stopped n) = false
  is_filled (Filled t) = true

  pub same_table : {t s : TableIn l} → ◌≡◌ {A = EndedIn l} (Filled t) (Filled s) → t ≡ s
  unfolding filled_in
  same_table {t} {s} e = ap (λ (r : EndedIn l). filled_in r t) e

  stopped_not : {n : ℕ} {t : TableIn l} → ◌≡◌ {A = EndedIn l} (Stopped n) (Filled t) → ⊥
  unfolding is_filled
  stopped_not e = true≢false (sym (ap is_filled e))

  -- the answer 0, and a table
  pub ended_filled : {n : ℕ} {x t : TableIn l} → n ≡ 0 → x ≡ t → ended_of_in l n x ≡ Filled t
  unfolding ended_of_in
  ended_filled e f = λ i. ended_of_in l (e i) (f i)

  -- a table came out where the answer is 0
  filled_done : (n : ℕ) (x : TableIn l) {t : TableIn l} → ended_of_in l n x ≡ Filled t → n ≡ 0
  unfolding ended_of_in
  filled_done zero x e = refl
  filled_done (suc n) x e = absurd (stopped_not e)

  filled_is : (n : ℕ) (x : TableIn l) {t : TableIn l} → ended_of_in l n x ≡ Filled t → t ≡ x
  unfolding ended_of_in
  filled_is zero x e = sym (same_table e)
  filled_is (suc n) x e = absurd (stopped_not e)

same_grid : {g h : Grid} → ◌≡◌ {A = Option Grid} (Some g) (Some h) → g ≡ h
unfolding on_grid
same_grid {g} e = ap (λ (c : Option Grid). on_grid c g (λ x. x)) e

module _ {l : Layout} (b1 b2 b3 : ℕ) {g : Grid} (e : grid_of b1 b2 b3 ≡ Some g) where
  table_is : (p : Plan) → BytesIn p → weight_of (leaves p) ≤ limit_of l → {t : TableIn l} → ends_in l b1 b2 b3 p ≡ Filled t
      → t ≡ table_in l g (leaves p)
  table_is p y h r = filled_is (first_malformed p) (table_in l g (leaves p)) (sym (ends_is_in l b1 b2 b3 e p y h) ∙ r)

  -- the total of a plan's table
  its_total : (p : Plan) → BytesIn p → weight_of (leaves p) ≤ limit_of l → {s : TableIn l}
      → ends_in l b1 b2 b3 p ≡ Filled s
      → total g (view_in l s) ≡ weight_of (leaves p)
  its_total p y h r =
      ap (λ (s : TableIn l). total g (view_in l s)) (table_is p y h r)
      ∙ table_total_in l g (chose b1 b2 b3 g e).accepted (leaves p) (leaves_bytes p y)

  filled_fits : (p : Plan) → BytesIn p → {t : TableIn l} → ends_in l b1 b2 b3 p ≡ Filled t
      → weight_of (leaves p) ≤ limit_of l
  unfolding ends_in leaves then_load_in then_merge_in weight_of sum_over
  filled_fits empty y r = omega arith
  filled_fits (load p b) y {t} r = go (ends_in l b1 b2 b3 p) refl r (λ s q. filled_fits p y.0 q)
    where
      ds : List Weighted
      ds = batch_of b.colours b.weighted b.weights

      go : (x : EndedIn l) → ends_in l b1 b2 b3 p ≡ x → then_load_in l b1 b2 b3 x b ≡ Filled t
          → ((s : TableIn l) → ends_in l b1 b2 b3 p ≡ Filled s → weight_of (leaves p) ≤ limit_of l)
          → weight_of (leaves p ++ ds) ≤ limit_of l
      go (Stopped n) q r before = absurd (stopped_not r)
      go (Filled s) q r before =
          let d = load_says_in l b1 b2 b3 s b.colours b.weighted b.weights (filled_done _ _ r) in
          let under : total g (view_in l s) + weight_of ds ≤ limit_of l =
          subst (λ (h : Grid). total h (view_in l s) + weight_of ds ≤ limit_of l) (same_grid (sym d.chosen ∙ e))
          d.under in
          omega (arith, under, its_total p y.0 (before s q) q, weight_append (leaves p) ds)
  filled_fits (merge p q) y {t} r =
      go (ends_in l b1 b2 b3 p) refl (ends_in l b1 b2 b3 q) refl r (λ s z. filled_fits p y.0 z)
      (λ s z. filled_fits q y.1 z)
    where
      go : (x : EndedIn l) → ends_in l b1 b2 b3 p ≡ x → (z : EndedIn l) → ends_in l b1 b2 b3 q ≡ z
          → then_merge_in l b1 b2 b3 x z ≡ Filled t
          → ((s : TableIn l) → ends_in l b1 b2 b3 p ≡ Filled s → weight_of (leaves p) ≤ limit_of l)
          → ((s : TableIn l) → ends_in l b1 b2 b3 q ≡ Filled s → weight_of (leaves q) ≤ limit_of l)
          → weight_of (leaves p ++ leaves q) ≤ limit_of l
      go (Stopped n) k z m r first second = absurd (stopped_not r)
      go (Filled s) k (Stopped n) m r first second = absurd (stopped_not r)
      go (Filled s) k (Filled u) m r first second =
          let d = merge_says_in l b1 b2 b3 s u (filled_done _ _ r) in
          let under : total g (view_in l s) + total g (view_in l u) ≤ limit_of l =
          subst (λ (h : Grid). total h (view_in l s) + total h (view_in l u) ≤ limit_of l)
          (same_grid (sym d.chosen ∙ e))
          d.under in
          omega (
            arith,
            under,
            its_total p y.0 (first s k) k,
            its_total q y.1 (second u m) m,
            weight_append (leaves p) (leaves q),
          )

  pub filled_table : (p : Plan) → BytesIn p → {t : TableIn l} → ends_in l b1 b2 b3 p ≡ Filled t
      → (weight_of (leaves p) ≤ limit_of l) × (t ≡ table_in l g (leaves p))
  filled_table p y r = (filled_fits p y r, table_is p y (filled_fits p y r) r)

  -- and none of its batches is malformed
  pub filled_formed : (p : Plan) → BytesIn p → {t : TableIn l} → ends_in l b1 b2 b3 p ≡ Filled t → first_malformed p ≡ 0
  filled_formed p y r =
      filled_done (first_malformed p) (table_in l g (leaves p))
      (sym (ends_is_in l b1 b2 b3 e p y (filled_fits p y r)) ∙ r)
