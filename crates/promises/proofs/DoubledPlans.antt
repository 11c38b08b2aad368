-- Doubling (Rules, Doubling), where a table comes from: a plan of loads and merges whose weights are all multiplied by
-- a power of two runs to the multiplied table. In either layout.
-- Assumes nothing.
use Rattle.std.specs.Prelude.{Some}
use mathlib.Core.Path.{◌≡◌, sym, ap, ◌∙◌}
use mathlib.Core.List.{List, map}
use Prim.Native.Nat.{ℕ, ◌*◌, ◌^◌, ◌≤◌}
use native.Mathlib.Nat.{mul_comm, le_trans, le_of_eq}
use Rattle.grid.specs.declared.place.Grid.{Grid}
use Rattle.grid.specs.Grid.{grid_of, bins_of}
use Rattle.grid.proofs.Places.{chose}
use Rattle.table.specs.Layouts.{Layout}
use Rattle.table.specs.Layout.{TableIn, view_in}
use Rattle.table.specs.Sound.{limit_of, total}
use Rattle.table.proofs.Layouts.{holds_list_in, holds_same_in}
use Rattle.adder.specs.Batch.{Weighted, scaled_colour, weight_of}
use Rattle.adder.proofs.Scaled.{weight_scaled}
use Rattle.loader.specs.Load.{table_in}
use Rattle.loader.specs.Plan.{Plan, Filled, ends_in, leaves, BytesIn}
use Rattle.loader.specs.Doubled.{doubled_plan}
use Rattle.loader.proofs.Order.{table_holds_in, table_total_in, leaves_bytes, ends_is_in}
use Rattle.loader.proofs.Plans.{ended_filled, filled_table, filled_formed}
use Rattle.loader.proofs.Doubled.{leaves_doubled, bytes_doubled, formed_doubled, table_scaled}
use Rattle.doubling.specs.Grow.{doubled}
use Rattle.promises.specs.Doubling.{doubled_in}
use Rattle.promises.proofs.Doubling.{view_doubled, doubled_lent}

table_doubled : (l : Layout) (g : Grid) (e : ℕ) (cs : List Weighted)
    → table_in l g (map (scaled_colour (2 ^ e)) cs) ≡ doubled_in l e (table_in l g cs)
unfolding doubled
table_doubled l g e cs =
    let t = table_in l g cs in
    holds_list_in l (holds_same_in (table_scaled (2 ^ e) l g cs) (λ p j h k. mul_comm (2 ^ e) (view_in l t p j)))
    ∙ sym (holds_list_in l (record {
      lent = doubled_lent e l t (bins_of g) (table_holds_in l g cs).lent;
      at = λ p j h k i. view_doubled e l t i p j;
    }))

-- "is what loading with multiplied weights gives"
pub plan_doubles : (l : Layout) (b1 b2 b3 : ℕ) {g : Grid} → grid_of b1 b2 b3 ≡ Some g → (p : Plan)
    → BytesIn p → {t : TableIn l} → ends_in l b1 b2 b3 p ≡ Filled t → (e : ℕ)
    → total g (view_in l t) * 2 ^ e ≤ limit_of l → ends_in l b1 b2 b3 (doubled_plan e p) ≡ Filled (doubled_in l e t)
plan_doubles l b1 b2 b3 {g} grid p y {t} r e fits =
    let came = filled_table b1 b2 b3 grid p y r in
    let weighs : weight_of (leaves (doubled_plan e p)) ≡ 2 ^ e * weight_of (leaves p) =
    ap weight_of (leaves_doubled e p) ∙ weight_scaled (2 ^ e) (leaves p) in
    let had : total g (view_in l t) ≡ weight_of (leaves p) =
    ap (λ (s : TableIn l). total g (view_in l s)) came.1
    ∙ table_total_in l g (chose b1 b2 b3 g grid).accepted (leaves p) (leaves_bytes p y) in
    let same : 2 ^ e * weight_of (leaves p) ≡ total g (view_in l t) * 2 ^ e =
    mul_comm (2 ^ e) (weight_of (leaves p)) ∙ ap (λ (n : ℕ). n * 2 ^ e) (sym had) in
    ends_is_in l b1 b2 b3 grid (doubled_plan e p) (bytes_doubled e p y) (le_trans (le_of_eq (weighs ∙ same)) fits)
    ∙ ended_filled (formed_doubled e p ∙ filled_formed b1 b2 b3 grid p y r)
    (ap (table_in l g) (leaves_doubled e p) ∙ table_doubled l g e (leaves p) ∙ ap (doubled_in l e) (sym came.1))
