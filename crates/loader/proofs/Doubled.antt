-- A plan with every weight multiplied by a power of two: its colours are those of the plan with their weights
-- multiplied, the same batches of it are malformed, and what the table of its colours holds is multiplied.
-- Assumes nothing.
use mathlib.Core.Path.{◌≡◌, refl, sym, ap, ◌∙◌}
use mathlib.Core.Bool.{Bool, not}
use mathlib.Core.List.{List, map, ◌++◌, map-append}
use Prim.Native.Nat.{ℕ, ◌*◌, ◌%◌, ◌^◌}
use lib.Dec.{eqb}
use lib.ListN.{length}
use Rattle.basics.specs.Answer.{refuse}
use Rattle.grid.specs.declared.place.Grid.{Grid}
use Rattle.grid.specs.Grid.{bins_of}
use Rattle.table.specs.Layouts.{Layout}
use Rattle.table.specs.Layout.{view_in}
use Rattle.table.proofs.Layouts.{HoldsIn, holds_same_in}
use Rattle.adder.specs.Batch.{Weighted, scaled_colour, batch_of}
use Rattle.adder.proofs.Scaled.{scaled_pairs, scaled_colours, loaded_scaled}
use Rattle.loader.specs.Load.{table_in}
use Rattle.loader.specs.Plan.{Batch, Plan, empty, load, merge, leaves, malformed, first_of, first_malformed}
use Rattle.loader.specs.Plan.{BytesIn}
use Rattle.loader.specs.Doubled.{doubled_batch, doubled_plan}
use Rattle.loader.proofs.Order.{table_holds_in}

module _ (e : ℕ) where
  abbrev heavier : Weighted → Weighted
  heavier = scaled_colour (2 ^ e)

  pub leaves_doubled : (p : Plan) → leaves (doubled_plan e p) ≡ map (scaled_colour (2 ^ e)) (leaves p)
  unfolding leaves doubled_plan doubled_batch
  leaves_doubled empty = refl
  leaves_doubled (load p b) =
      (λ i. leaves_doubled p i ++ scaled_colours (2 ^ e) b.colours b.weighted b.weights i)
      ∙ sym (map-append heavier (leaves p) (batch_of b.colours b.weighted b.weights))
  leaves_doubled (merge p q) =
      (λ i. leaves_doubled p i ++ leaves_doubled q i) ∙ sym (map-append heavier (leaves p) (leaves q))

  pub bytes_doubled : (p : Plan) → BytesIn p → BytesIn (doubled_plan e p)
  unfolding doubled_plan doubled_batch
  bytes_doubled empty y = y
  bytes_doubled (load p b) y = (bytes_doubled p y.0, y.1)
  bytes_doubled (merge p q) y = (bytes_doubled p y.0, bytes_doubled q y.1)

  batch_formed : (b : Batch) → malformed (doubled_batch e b) ≡ malformed b
  unfolding malformed doubled_batch
  batch_formed b =
      ap (λ (c : Bool). refuse (not (eqb (length b.colours % 3) 0)) 3 (refuse c 4 0))
      (scaled_pairs (2 ^ e) b.colours b.weighted b.weights)

  pub formed_doubled : (p : Plan) → first_malformed (doubled_plan e p) ≡ first_malformed p
  unfolding first_malformed doubled_plan
  formed_doubled empty = refl
  formed_doubled (load p b) = λ i. first_of (formed_doubled p i) (batch_formed b i)
  formed_doubled (merge p q) = λ i. first_of (formed_doubled p i) (formed_doubled q i)

-- the table of multiplied colours
pub table_scaled : (scale : ℕ) (l : Layout) (g : Grid) (cs : List Weighted)
    → HoldsIn l (bins_of g) (table_in l g (map (scaled_colour scale) cs)) (λ p j. scale * view_in l (table_in l g cs) p j)
table_scaled scale l g cs =
    holds_same_in (table_holds_in l g (map (scaled_colour scale) cs))
    (λ p j h k. loaded_scaled scale g cs p j ∙ ap (λ (x : ℕ). scale * x) (sym ((table_holds_in l g cs).at p j h k)))
