-- Any order (Rules, Demands), of the accepted batches of a replay with their scaled weights: loaded in any other order
-- they give the same table, and so the same cut for every k.
-- Assumes nothing.
use Rattle.std.specs.Prelude.{Some}
use mathlib.Core.Path.{◌≡◌, sym, ap, ◌∙◌}
use mathlib.Core.List.Perm
use mathlib.Core.List.{List, ◌++◌, Perm}
use Prim.Native.Nat.{ℕ, ◌+◌, ◌≤◌}
use native.Mathlib.Omega.{arith}
use Rattle.grid.specs.declared.place.Grid.{Grid}
use Rattle.grid.specs.Grid.{grid_of, bins_of}
use Rattle.grid.proofs.Places.{chose}
use Rattle.table.specs.Layouts.{Wide}
use Rattle.table.specs.Table.{Table, view_of, written}
use Rattle.table.specs.Sound.{limit, total}
use Rattle.adder.specs.Batch.{Weighted, weight_of, loaded}
use Rattle.loader.specs.Load.{table_of}
use Rattle.loader.specs.Plan.{Plan, Filled, ends, leaves, first_malformed, BytesIn}
use Rattle.loader.proofs.Order.{load_table, table_perm, table_total, leaves_bytes, any_order}
use Rattle.loader.proofs.Plans.{filled_table}
use Rattle.sums.specs.declared.source.Source.{Source}
use Rattle.cutter.specs.Cut.{Buffers}
use Rattle.recorder.specs.Replay.{Recorded, replay_number, replay_table}
use Rattle.promises.specs.Order.{SameCut}
use Rattle.promises.specs.Recorder.{ColourBytes, taken, PlanAlike}
use Rattle.promises.proofs.Order.{same_cut}
use Rattle.promises.proofs.RecorderColours.{load_perm}
use Rattle.promises.proofs.Recorder.{replay_table_lem, replay_total, replay_fits}

module _ (first b1 b2 b3 : ℕ) (t : Table) (r : Recorded) (bytes : ColourBytes r)
    (done : replay_number first b1 b2 b3 t r ≡ 0) {g : Grid} (e : grid_of b1 b2 b3 ≡ Some g) where
  -- what was taken, loaded into the first table in any order
  pub taken_in_any_order : {ds : List Weighted} → Perm (taken first b1 b2 b3 t r) ds
      → replay_table first b1 b2 b3 t r ≡ written (bins_of g) (loaded g ds (view_of t))
  taken_in_any_order π = replay_table_lem first b1 b2 b3 t r bytes done e ∙ load_perm g π (view_of t)

  -- by calls: the first table was that of a plan, and another plan has its colours and what was taken, in any order, in
  -- any batches, with any merges
  pub replay_any_order : (p q : Plan) → BytesIn p → BytesIn q → ends b1 b2 b3 p ≡ Filled t → first_malformed q ≡ 0
      → Perm (leaves p ++ taken first b1 b2 b3 t r) (leaves q) → PlanAlike g b1 b2 b3 (replay_table first b1 b2 b3 t r) q
  replay_any_order p q y z ran whole π =
      let a = (chose b1 b2 b3 g e).accepted in
      let was = filled_table b1 b2 b3 e p y ran in
      let mine = taken first b1 b2 b3 t r in
      let same : replay_table first b1 b2 b3 t r ≡ table_of g (leaves q) = replay_table_lem first b1 b2 b3 t r bytes done e
      ∙ ap (λ (x : Table). written (bins_of g) (loaded g mine (view_of x))) was.1
      ∙ load_table g (leaves p) mine
      ∙ table_perm g π in
      let weighs : total g (view_of t) + weight_of mine ≡ weight_of (leaves q) =
      sym (replay_total first b1 b2 b3 t r bytes done e)
      ∙ ap (λ (x : Table). total g (view_of x)) same
      ∙ table_total g a (leaves q) (leaves_bytes q z) in
      let fits : weight_of (leaves q) ≤ limit = omega (arith, weighs, replay_fits first b1 b2 b3 t r bytes done e) in
      record {
        second = table_of g (leaves q);
        ran = (any_order b1 b2 b3 e q q z z whole whole (Perm.refl (leaves q)) fits).0;
        same = same;
        alike = λ source k b. same_cut Wide source g b1 b2 b3 k b _ _ same;
      }

  -- two replays that took the same colours in another order leave the same table
  pub replays_same : (second : ℕ) (s : Recorded) → ColourBytes s → replay_number second b1 b2 b3 t s ≡ 0
      → Perm (taken first b1 b2 b3 t r) (taken second b1 b2 b3 t s)
      → replay_table first b1 b2 b3 t r ≡ replay_table second b1 b2 b3 t s
  replays_same second s its also π =
      taken_in_any_order π ∙ sym (replay_table_lem second b1 b2 b3 t s its also e)

  pub replays_alike : (second : ℕ) (s : Recorded) → ColourBytes s → replay_number second b1 b2 b3 t s ≡ 0
      → Perm (taken first b1 b2 b3 t r) (taken second b1 b2 b3 t s)
      → (source : Source) (k : ℕ) (b : Buffers)
      → SameCut Wide source g b1 b2 b3 k b (replay_table first b1 b2 b3 t r) (replay_table second b1 b2 b3 t s)
  replays_alike second s its also π source k b =
      same_cut Wide source g b1 b2 b3 k b _ _ (replays_same second s its also π)
