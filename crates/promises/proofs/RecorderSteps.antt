-- A replay is its entries one by one, each through reload or batch: it stands after each as that call leaves it, and
-- the answer byte is that call's.
-- Assumes nothing.
use mathlib.Core.Path.{◌≡◌, refl, ◌∙◌}
use mathlib.Core.Logic.{◌⊎◌, inl, inr}
use mathlib.Core.List.{List, [], ◌∷◌}
use Prim.Native.Nat.{ℕ, suc, ◌*◌, ◌<◌}
use native.Mathlib.Omega.{arith}
use borrow.Author.Tests.{eq-eqb, ne_eqb}
use lib.ListN.{get_or, take}
use lib.Seq.{take_all}
use Rattle.basics.specs.Range.{list_from, sum_from}
use Rattle.table.specs.Table.{Table}
use Rattle.recorder.specs.Replay.{kind_at, interval_at, count_at, colours_before, entries_in, Entry, entry_at, entries_of}
use Rattle.recorder.specs.Replay.{Standing, standing, entry_number, entry_later, stands_after, answers_to, Recorded}
use Rattle.recorder.specs.Replay.{recorded, replay_number, replay_answer, replay_table, replay_bytes}
use Rattle.recorder.proofs.Stands.{stands_none, stands_next, entry_says}
use Rattle.recorder.proofs.Laws.{stands_at, replay_grid, replay_says}
use Rattle.promises.specs.Recorder.{entry_of, stands_before, Step, reload_step, batch_step, OneByOne, IsStep}

-- an entry is a reload, or a batch with its weights
module _ (b1 b2 b3 : ℕ) (s : Standing) (e : Entry) where
  abbrev step : Step
  step = record { answer = entry_number b1 b2 b3 s e; then = entry_later b1 b2 b3 s e }

  reload_entry : e.kind ≡ 0 → step ≡ reload_step s e.interval
  unfolding entry_number entry_later reload_step
  reload_entry k = rw (eq-eqb e.kind 0 k) refl

  batch_entry : e.kind ≡ 1 → step ≡ batch_step b1 b2 b3 s e.interval e.colours e.weights
  unfolding entry_number entry_later batch_step
  batch_entry k = rw (ne_eqb e.kind 0 (λ z. omega (arith, k, z))) refl

pub one_by_one : (first b1 b2 b3 : ℕ) (t : Table) (r : Recorded) → replay_number first b1 b2 b3 t r ≡ 0
    → OneByOne first b1 b2 b3 t r
unfolding entry_at stands_before
one_by_one first b1 b2 b3 t r done =
    let d = replay_says first b1 b2 b3 t r (replay_grid first b1 b2 b3 t r done).chosen done in
    let at = stands_at first b1 b2 b3 t r in
    let told : (i : ℕ) → i < entries_in r.entries
    → ◌≡◌ {A = Step} (record { answer = get_or (replay_bytes first b1 b2 b3 t r) i 0; then = at (suc i) })
    (step b1 b2 b3 (at i) (entry_of r i)) =
    λ i h j. record { answer = d.byte i h j; then = stands_next b1 b2 b3 (standing first t) (entry_of r) i j } in
    record {
      begins = stands_none b1 b2 b3 (standing first t) (entry_of r);
      reload = λ i h k. told i h ∙ reload_entry b1 b2 b3 (at i) (entry_of r i) k;
      batch = λ i h k. told i h ∙ batch_entry b1 b2 b3 (at i) (entry_of r i) k;
      no_other = λ i h. kinds i (entry_says r.entries i (d.fits.each i h));
      ends = d.stands;
    }
  where
    kinds : (i : ℕ) → ((kind_at r.entries i ≡ 0) × (count_at r.entries i ≡ 0)) ⊎ (kind_at r.entries i ≡ 1)
        → (kind_at r.entries i ≡ 0) ⊎ (kind_at r.entries i ≡ 1)
    kinds i (inl k) = inl k.0
    kinds i (inr k) = inr k

module _ (first b1 b2 b3 : ℕ) (t : Table) (i x : ℕ) (rest : List ℕ) where
  -- a list of one reload is that reload
  pub one_reload : replay_number first b1 b2 b3 t (recorded (0 ∷ i ∷ 0 ∷ []) [] [] (x ∷ rest)) ≡ 0
      → IsStep first b1 b2 b3 t (recorded (0 ∷ i ∷ 0 ∷ []) [] [] (x ∷ rest)) (reload_step (standing first t) i) rest
  unfolding replay_answer replay_table entries_of list_from stands_after answers_to entry_at kind_at interval_at entry_number
      entry_later reload_step
  one_reload done =
      let r = recorded (0 ∷ i ∷ 0 ∷ []) [] [] (x ∷ rest) in
      let d = replay_says first b1 b2 b3 t r (replay_grid first b1 b2 b3 t r done).chosen done in
      record {
        answer = λ j. record { number = done j; session = (d.stands j).session };
        table = λ j. (d.stands j).table;
        bytes = d.written;
      }

  -- a list of one batch is that batch, with its weights
  pub one_batch : (n : ℕ) (colours weights : List ℕ)
      → replay_number first b1 b2 b3 t (recorded (1 ∷ i ∷ n ∷ []) colours weights (x ∷ rest)) ≡ 0
      → IsStep first b1 b2 b3 t (recorded (1 ∷ i ∷ n ∷ []) colours weights (x ∷ rest))
      (batch_step b1 b2 b3 (standing first t) i colours weights) rest
  unfolding replay_answer replay_table entries_of list_from stands_after answers_to entry_at kind_at interval_at count_at
      colours_before sum_from entry_number entry_later batch_step
  one_batch n colours weights done =
      let r = recorded (1 ∷ i ∷ n ∷ []) colours weights (x ∷ rest) in
      let d = replay_says first b1 b2 b3 t r (replay_grid first b1 b2 b3 t r done).chosen done in
      let its_colours : take (3 * n) colours ≡ colours = take_all (3 * n) colours (omega (arith, d.fits.bytes)) in
      let its_weights : take n weights ≡ weights = take_all n weights (omega (arith, d.fits.pairs)) in
      let called : (j : 𝕀) → Step = λ j. batch_step b1 b2 b3 (standing first t) i (its_colours j) (its_weights j) in
      record {
        answer = λ j. record { number = done j; session = (d.stands j).session };
        table = (λ j. (d.stands j).table) ∙ (λ j. (called j).then.table);
        bytes = d.written ∙ (λ j. (called j).answer ∷ rest);
      }
