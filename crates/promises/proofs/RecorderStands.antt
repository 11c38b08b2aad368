-- How a replay stands before each of its entries: the session has the interval that the reloads set, and the table is
-- the first one with the scaled colours loaded that were taken before.
-- Assumes nothing.
use Rattle.std.specs.Prelude.{Some}
use mathlib.Core.Path.{◌≡◌, refl, sym, ap, ◌∙◌}
use mathlib.Core.Logic.{◌⊎◌, inl, inr}
use mathlib.Core.Bool.{Bool, true, false, not, ◌&&◌, cond}
use mathlib.Core.List.{List, [], ◌++◌}
use Prim.Native.Nat.{ℕ, zero, suc, ◌+◌, ◌/◌, ◌%◌, ◌≤◌, ◌<◌}
use native.Mathlib.Omega.{arith}
use borrow.Author.Tests.{eq-eqb, ne_eqb}
use lib.Dec.{eqb, ltb}
use lib.ListN.{length, get_or}
use Rattle.basics.specs.Answer.{refuse}
use Rattle.grid.specs.declared.place.Grid.{Grid}
use Rattle.grid.specs.Grid.{grid_of, bins_of}
use Rattle.grid.proofs.Places.{chose}
use Rattle.table.specs.Table.{Table, view_of, written}
use Rattle.table.specs.Sound.{limit, total, sound}
use Rattle.table.proofs.Tables.{Holds, list_holds}
use Rattle.table.proofs.Soundness.{total_high}
use Rattle.adder.specs.Batch.{Weighted, weight_of, loaded}
use Rattle.adder.proofs.Loading.{AllBytes, held_sound, held_total}
use Rattle.adder.proofs.Scaled.{scaled_bytes}
use Rattle.loader.proofs.Order.{bytes_append, weight_append}
use Rattle.recorder.specs.declared.session.SessionAnswer.{SessionAnswer}
use Rattle.recorder.specs.Session.{is_interval, interval_number, reloaded}
use Rattle.recorder.specs.Batch.{in_force, batch_number, batch_later}
use Rattle.recorder.specs.Replay.{kind_at, interval_at, entries_in, Entry, entry_at, Standing}
use Rattle.recorder.specs.Replay.{Recorded, replay_number}
use Rattle.recorder.specs.Replay.{replay_bytes}
use Rattle.recorder.proofs.Stands.{colours_length, weights_length, entry_bytes}
use Rattle.recorder.proofs.Sessions.{reload_sets, reload_leaves}
use Rattle.recorder.proofs.Batches.{batch_kept, batch_number_lem, batch_table}
use Rattle.recorder.proofs.Laws.{ReplayDone, replay_says}
use Rattle.promises.specs.Recorder.{ColourBytes, entry_of, scaled_of, taken_at, taken_before}
use Rattle.promises.specs.Recorder.{stands_before, set_before, total_before, batch_due, entry_due}
use Rattle.promises.specs.Recorder.{Step, reload_step, batch_step, OneByOne}
use Rattle.promises.proofs.RecorderSteps.{one_by_one}
use Rattle.promises.proofs.RecorderColours.{load_none, load_more, weight_none}

module _ (first b1 b2 b3 : ℕ) (t : Table) (r : Recorded) (bytes : ColourBytes r)
    (done : replay_number first b1 b2 b3 t r ≡ 0) {g : Grid} (e : grid_of b1 b2 b3 ≡ Some g) where
  abbrev answers : List ℕ
  answers = replay_bytes first b1 b2 b3 t r

  abbrev n : ℕ
  n = entries_in r.entries

  says : ReplayDone first b1 b2 b3 t r g
  says = replay_says first b1 b2 b3 t r e done

  steps : OneByOne first b1 b2 b3 t r
  steps = one_by_one first b1 b2 b3 t r done

  -- how a replay stands before entry i
  record Stood (i : ℕ) : Type 0 where
    in_force_lem : (stands_before first b1 b2 b3 t r i).session.interval ≡ set_before first r.entries i
    holds : (stands_before first b1 b2 b3 t r i).table
        ≡ written (bins_of g) (loaded g (taken_before r answers i) (view_of t))
    of_bytes : AllBytes (taken_before r answers i)
    under : total_before g t r answers i ≤ limit

  module _ (i : ℕ) (s : Stood i) where
    abbrev here : Standing
    here = stands_before first b1 b2 b3 t r i

    now_holds : Holds (bins_of g) here.table (loaded g (taken_before r answers i) (view_of t))
    now_holds = rw s.holds (list_holds (bins_of g) (loaded g (taken_before r answers i) (view_of t)))

    sound_at : sound limit g (view_of here.table) ≡ true
    unfolding total_before
    sound_at =
        (held_sound (chose b1 b2 b3 g e).accepted (taken_before r answers i) s.of_bytes (view_of t) now_holds
        (record { holds = says.is_sound }) s.under).holds

    total_at : total g (view_of here.table) ≡ total_before g t r answers i
    unfolding total_before
    total_at = held_total (chose b1 b2 b3 g e).accepted (taken_before r answers i) s.of_bytes (view_of t) now_holds

    -- one entry on: what it took is loaded
    next : (ds : List Weighted) → taken_at r answers i ≡ ds
        → (stands_before first b1 b2 b3 t r (suc i)).session.interval ≡ set_before first r.entries (suc i)
        → (stands_before first b1 b2 b3 t r (suc i)).table ≡ written (bins_of g) (loaded g ds (view_of here.table))
        → AllBytes ds → total g (view_of here.table) + weight_of ds ≤ limit → Stood (suc i)
    unfolding taken_before total_before
    next ds took in_force_lem table of_bytes under =
        record {
          in_force_lem = in_force_lem;
          holds = table
              ∙ ap (λ (x : Table). written (bins_of g) (loaded g ds (view_of x))) s.holds
              ∙ load_more g (taken_before r answers i) ds (view_of t)
              ∙ ap (λ (x : List Weighted). written (bins_of g) (loaded g (taken_before r answers i ++ x) (view_of t)))
              (sym took);
          of_bytes = bytes_append (taken_before r answers i) (taken_at r answers i) s.of_bytes (rw took of_bytes);
          under =
              omega (
                arith,
                under,
                total_at,
                weight_append (taken_before r answers i) (taken_at r answers i),
                ap weight_of took,
              );
        }

    -- one entry on, with nothing taken
    same : taken_at r answers i ≡ []
        → (stands_before first b1 b2 b3 t r (suc i)).session.interval ≡ set_before first r.entries (suc i)
        → (stands_before first b1 b2 b3 t r (suc i)).table ≡ here.table → Stood (suc i)
    same took in_force_lem table =
        next [] took in_force_lem (table ∙ load_none g now_holds.lent) tt
        (omega (arith, total_at, s.under, weight_none))

    -- ---- a batch
    module _ (h : i < entries_in r.entries) (k : kind_at r.entries i ≡ 1) where
      abbrev its : Entry
      its = entry_of r i

      threes : length its.colours % 3 ≡ 0
      threes = omega (arith, colours_length r says.fits i h)

      paired : length its.weights ≡ length its.colours / 3
      paired = omega (arith, colours_length r says.fits i h, weights_length r says.fits i h)

      answers_batch : get_or answers i 0
          ≡ batch_number here.session its.interval b1 b2 b3 here.table its.colours true its.weights
      unfolding batch_step entry_at
      answers_batch = ap (λ (x : Step). x.answer) (steps.batch i h k)

      batch_due_lem : get_or answers i 0 ≡ batch_due first g t r answers i
      unfolding batch_due in_force entry_at scaled_of
      batch_due_lem =
          answers_batch
          ∙ batch_number_lem here.session its.interval b1 b2 b3 here.table its.colours true its.weights e
          threes (λ y. paired) now_holds.lent sound_at
          ∙ (λ j.
          refuse (not (is_interval its.interval)) 13
          (refuse (not (eqb its.interval (s.in_force_lem j))) 14
          (refuse (ltb limit (total_at j + weight_of (scaled_of its))) 7 0)))

      later_batch : stands_before first b1 b2 b3 t r (suc i)
          ≡ record {
            session = here.session;
            table =
                batch_later here.session its.interval b1 b2 b3 here.table its.colours true its.weights;
          }
      unfolding batch_step entry_at
      later_batch = ap (λ (x : Step). x.then) (steps.batch i h k)

      -- a batch sets no interval
      still : (stands_before first b1 b2 b3 t r (suc i)).session.interval ≡ set_before first r.entries (suc i)
      unfolding set_before
      still =
          ap (λ (x : Standing). x.session.interval) later_batch
          ∙ s.in_force_lem
          ∙ rw (ne_eqb (kind_at r.entries i) 0 (λ z. omega (arith, k, z))) refl

      after_batch_lem : Stood (suc i)
      unfolding taken_at scaled_of
      after_batch_lem = go (get_or answers i 0) refl
        where
          go : (m : ℕ) → get_or answers i 0 ≡ m → Stood (suc i)
          go zero z =
              let ended =
              batch_table here.session its.interval b1 b2 b3 here.table its.colours true its.weights e
              threes (λ y. paired) now_holds.lent sound_at (sym answers_batch ∙ z) in
              next (scaled_of its) (simp (eq-eqb (kind_at r.entries i) 1 k, eq-eqb (get_or answers i 0) 0 z)) still
              (ap (λ (x : Standing). x.table) later_batch ∙ ended.1)
              (scaled_bytes its.interval its.colours true its.weights (entry_bytes r says.fits i h bytes))
              ended.0
          go (suc m) z =
              same (simp (eq-eqb (kind_at r.entries i) 1 k, ne_eqb (get_or answers i 0) 0 (λ y. omega (arith, y, z))))
              still
              (ap (λ (x : Standing). x.table) later_batch
              ∙ batch_kept here.session its.interval b1 b2 b3 here.table its.colours true its.weights
              (sym answers_batch ∙ z))

    -- ---- a reload
    module _ (h : i < entries_in r.entries) (k : kind_at r.entries i ≡ 0) where
      answers_reload : get_or answers i 0 ≡ (reloaded here.session (interval_at r.entries i)).number
      unfolding reload_step
      answers_reload = ap (λ (x : Step). x.answer) (steps.reload i h k)

      reload_due : get_or answers i 0 ≡ refuse (not (is_interval (interval_at r.entries i))) 13 0
      unfolding reloaded interval_number
      reload_due = answers_reload

      later_reload : stands_before first b1 b2 b3 t r (suc i)
          ≡ record {
            session = (reloaded here.session (interval_at r.entries i)).session;
            table = here.table;
          }
      unfolding reload_step
      later_reload = ap (λ (x : Step). x.then) (steps.reload i h k)

      after_reload : Stood (suc i)
      unfolding taken_at set_before
      after_reload =
          same (rw (ne_eqb (kind_at r.entries i) 1 (λ z. omega (arith, k, z))) refl)
          (ap (λ (x : Standing). x.session.interval) later_reload ∙ go (is_interval iv) refl)
          (ap (λ (x : Standing). x.table) later_reload)
        where
          iv : ℕ
          iv = interval_at r.entries i

          go : (b : Bool) → is_interval iv ≡ b
              → (reloaded here.session iv).session.interval
              ≡ cond (eqb (kind_at r.entries i) 0 && is_interval iv) iv (set_before first r.entries i)
          go true z =
              ap (λ (x : SessionAnswer). x.session.interval) (reload_sets here.session iv z)
              ∙ rw (eq-eqb (kind_at r.entries i) 0 k, z) refl
          go false z =
              ap (λ (x : SessionAnswer). x.session.interval) (reload_leaves here.session iv z)
              ∙ s.in_force_lem
              ∙ rw (eq-eqb (kind_at r.entries i) 0 k, z) refl

  stood : (i : ℕ) → i ≤ n → Stood i
  unfolding taken_before set_before total_before
  stood zero h =
      record {
        in_force_lem = ap (λ (x : Standing). x.session.interval) steps.begins;
        holds = ap (λ (x : Standing). x.table) steps.begins ∙ load_none g says.lent;
        of_bytes = tt;
        under =
            omega (
              arith,
              total_high {most = limit} {g = g} {v = view_of t} (record { holds = says.is_sound }),
              weight_none,
            );
      }
  stood (suc i) h = go (steps.no_other i h) (stood i (omega arith))
    where
      go : (kind_at r.entries i ≡ 0) ⊎ (kind_at r.entries i ≡ 1) → Stood i → Stood (suc i)
      go (inl k) s = after_reload i s h k
      go (inr k) s = after_batch_lem i s h k

  -- ---- before each entry, and after the last: the interval in force, the table, that it is sound, and its total
  pub stands_interval : (i : ℕ) → i ≤ entries_in r.entries
      → (stands_before first b1 b2 b3 t r i).session.interval ≡ set_before first r.entries i
  stands_interval i h = (stood i h).in_force_lem

  pub stands_table : (i : ℕ) → i ≤ entries_in r.entries
      → (stands_before first b1 b2 b3 t r i).table
      ≡ written (bins_of g) (loaded g (taken_before r (replay_bytes first b1 b2 b3 t r) i) (view_of t))
  stands_table i h = (stood i h).holds

  pub stands_sound : (i : ℕ) → i ≤ entries_in r.entries
      → sound limit g (view_of (stands_before first b1 b2 b3 t r i).table) ≡ true
  stands_sound i h = sound_at i (stood i h)

  pub stands_total : (i : ℕ) → i ≤ entries_in r.entries
      → total g (view_of (stands_before first b1 b2 b3 t r i).table)
      ≡ total_before g t r (replay_bytes first b1 b2 b3 t r) i
  stands_total i h = total_at i (stood i h)

  pub stands_fits : (i : ℕ) → i ≤ entries_in r.entries
      → total_before g t r (replay_bytes first b1 b2 b3 t r) i ≤ limit
  stands_fits i h = (stood i h).under

  -- ---- and the answer to an entry is due by these
  pub answer_due : (i : ℕ) → i < entries_in r.entries
      → get_or (replay_bytes first b1 b2 b3 t r) i 0 ≡ entry_due first g t r (replay_bytes first b1 b2 b3 t r) i
  unfolding entry_due
  answer_due i h = go (steps.no_other i h)
    where
      s : Stood i
      s = stood i (omega arith)

      go : (kind_at r.entries i ≡ 0) ⊎ (kind_at r.entries i ≡ 1) → get_or answers i 0
          ≡ cond (eqb (kind_at r.entries i) 0) (refuse (not (is_interval (interval_at r.entries i))) 13 0)
          (batch_due first g t r answers i)
      go (inl k) = reload_due i s h k ∙ rw (eq-eqb (kind_at r.entries i) 0 k) refl
      go (inr k) = batch_due_lem i s h k ∙ rw (ne_eqb (kind_at r.entries i) 0 (λ z. omega (arith, k, z))) refl
