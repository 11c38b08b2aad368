-- How many rounds (Rules, Results): the record of a cut that is done has those of the loop's definition, a refusal has
-- none, and whatever is given, they are no more than `most_rounds k`, so none at k = 1.
-- Assumes nothing.
use Rattle.std.specs.Prelude.{Some}
use mathlib.Core.Path.{◌≡◌, refl, ap}
use mathlib.Core.List.{List}
use Prim.Native.Nat.{ℕ, zero, suc, ◌-◌, ◌*◌, ◌≤◌}
use native.Mathlib.Omega.{arith}
use Rattle.grid.specs.declared.place.Grid.{Grid}
use Rattle.grid.specs.Grid.{grid_of}
use Rattle.table.specs.Layouts.{Wide}
use Rattle.table.specs.Table.{view_of}
use Rattle.rounds.specs.Loop.{heap_of, boxes_of}
use Rattle.rounds.proofs.Fuel.{few_rounds}
use Rattle.sums.specs.declared.source.Source.{Source}
use Rattle.cutter.specs.Record.{CutRecord}
use Rattle.cutter.specs.Cut.{Buffers, cut_number, refused_record, done_record, cut_record}
use Rattle.cutter.proofs.Laws.{cut_says, cut_refuses}
use Rattle.promises.specs.Rounds.{most_rounds}
use Rattle.promises.proofs.Numbers.{cut_exactly}

module _ (source : Source) (b1 b2 b3 k : ℕ) (t : List ℕ) (b : Buffers) where
  pub loop_rounds : {g : Grid} → grid_of b1 b2 b3 ≡ Some g → cut_number source b1 b2 b3 k t b ≡ 0
      → (cut_record source b1 b2 b3 k t b).rounds ≡ (heap_of g (view_of t) k).rounds
  unfolding done_record boxes_of
  loop_rounds e n = ap (λ (r : CutRecord). r.rounds) (cut_says Wide source b1 b2 b3 k t b e n).hands

  -- "A refused cut hands back its answer, zero boxes, zero rounds"
  pub no_rounds : {n : ℕ} → cut_number source b1 b2 b3 k t b ≡ suc n → (cut_record source b1 b2 b3 k t b).rounds ≡ 0
  unfolding refused_record
  no_rounds e = ap (λ (r : CutRecord). r.rounds) (cut_refuses Wide source b1 b2 b3 k t b e).0

  pub most_rounds_lem : (cut_record source b1 b2 b3 k t b).rounds ≤ most_rounds k
  unfolding most_rounds
  most_rounds_lem = go (cut_number source b1 b2 b3 k t b) refl
    where
      go : (n : ℕ) → cut_number source b1 b2 b3 k t b ≡ n → (cut_record source b1 b2 b3 k t b).rounds ≤ 2 * k - 2
      go zero e =
          let o = (cut_exactly b1 b2 b3 Wide source k t b).0 e in
          omega (arith, loop_rounds o.chosen e, few_rounds o.g (view_of t) k o.can.0.most)
      go (suc n) e = omega (arith, no_rounds e)
