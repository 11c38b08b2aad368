-- The calls of the recorder: what each is given where it is done, what it leaves then, and that a refusal leaves all as
-- it was.
-- Assumes nothing.
use mathlib.Core.Path.{◌≡◌, refl, sym, ap, ◌∙◌}
use mathlib.Core.Logic.{◌↔◌, ◌⊎◌, inl, inr}
use mathlib.Core.Bool.{Bool, true, false, not}
use mathlib.Core.List.{List}
use Prim.Native.Nat.{ℕ, suc, ◌+◌, ◌/◌}
use native.Mathlib.Omega.{arith}
use borrow.Author.Tests.{eq-eqb, ne_eqb, le-ltb, not-false}
use lib.Dec.{eqb}
use lib.ListN.{length}
use Rattle.basics.specs.Answer.{refuse}
use Rattle.basics.proofs.Ends.{passed}
use Rattle.grid.specs.Grid.{bins_of}
use Rattle.table.specs.Table.{Table, view_of, written}
use Rattle.table.specs.Sound.{limit, total}
use Rattle.adder.specs.Batch.{weight_of, loaded, scaled_weights}
use Rattle.adder.specs.Add.{scaled_batch}
use Rattle.loader.specs.Load.{load_number}
use Rattle.adder.proofs.Scaled.{given_length, scaled_weight}
use Rattle.loader.proofs.Laws.{load_says}
use Rattle.recorder.specs.declared.session.Session.{Session}
use Rattle.recorder.specs.declared.session.SessionAnswer.{SessionAnswer}
use Rattle.recorder.specs.Session.{is_interval, interval_number, begun, reloaded}
use Rattle.recorder.specs.Batch.{in_force, batch_number, batch_later}
use Rattle.recorder.specs.Replay.{kind_at, count_at, is_entry, Recorded}
use Rattle.recorder.specs.Replay.{replay_number, replay_answer, replay_table, replay_bytes}
use Rattle.recorder.proofs.Stands.{entry_says, fits_by}
use Rattle.recorder.proofs.Sessions.{interval_says, interval_by, reload_sets, reload_leaves, force_passed}
use Rattle.recorder.proofs.Batches.{batch_kept, batch_number_lem, batch_table}
use Rattle.recorder.proofs.Laws.{replay_refused, replay_grid, replay_says, replay_accepts}
use Rattle.promises.specs.Numbers.{OnGrid}
use Rattle.promises.specs.RecorderNumbers.{batch_weighs}
use Rattle.promises.specs.RecorderNumbers.{InRange, CanBatch, CanReplay}

-- ---- an entry by its kind
module _ (entries : List ℕ) (i : ℕ) where
  abbrev kind : ℕ
  kind = kind_at entries i

  abbrev count : ℕ
  count = count_at entries i

  kinds : ((kind ≡ 0) × (count ≡ 0)) ⊎ (kind ≡ 1) → (kind ≡ 0) ⊎ (kind ≡ 1)
  kinds (inl k) = inl k.0
  kinds (inr k) = inr k

  reloads : ((kind ≡ 0) × (count ≡ 0)) ⊎ (kind ≡ 1) → kind ≡ 0 → count ≡ 0
  reloads (inl k) z = k.1
  reloads (inr k) z = absurd (omega (arith, k, z))

  entry : (kind ≡ 0) ⊎ (kind ≡ 1) → (kind ≡ 0 → count ≡ 0) → is_entry entries i ≡ true
  unfolding is_entry
  entry (inl k) z = rw (eq-eqb kind 0 k, eq-eqb count 0 (z k)) refl
  entry (inr k) z = rw (ne_eqb kind 0 (λ q. omega (arith, k, q)), eq-eqb kind 1 k) refl

-- ---- a call is done exactly where it is given this
module _ (b1 b2 b3 : ℕ) (t : Table) where
  pub batch_exactly : (s : Session) (i : ℕ) (colours : List ℕ) (weighted : Bool) (weights : List ℕ)
      → (batch_number s i b1 b2 b3 t colours weighted weights ≡ 0)
      ↔ OnGrid b1 b2 b3 (CanBatch s i t colours weighted weights)
  unfolding batch_number in_force batch_weighs refuse
  batch_exactly s i colours weighted weights = (
    λ e.
        let force = force_passed s i e in
        let d = load_says b1 b2 b3 t colours true (scaled_weights i (length colours / 3) weighted weights) force.2 in
        let range = interval_says i force.0 in
        record {
          g = d.g;
          chosen = d.chosen;
          can = record {
            range = record { least = range.0; most = range.1 };
            in_force_lem = force.1;
            threes = d.threes;
            paired = λ y. sym (given_length i colours weighted weights y) ∙ d.paired refl;
            lent = d.lent;
            is_sound = d.sound_before.holds;
            fits = rw (sym (scaled_weight i colours weighted weights)) d.under;
          };
        },
    λ o. let c = o.can in
        batch_number_lem s i b1 b2 b3 t colours weighted weights o.chosen c.threes c.paired c.lent c.is_sound
        ∙ simp (
          interval_by i c.range.least c.range.most,
          eq-eqb i s.interval c.in_force_lem,
          le-ltb limit (total o.g (view_of t) + weight_of (scaled_batch i colours weighted weights))
              (rw (scaled_weight i colours weighted weights) c.fits),
        ),
  )

  pub replay_exactly : (first : ℕ) (r : Recorded)
      → (replay_number first b1 b2 b3 t r ≡ 0) ↔ OnGrid b1 b2 b3 (CanReplay first t r)
  replay_exactly first r = (
    λ e.
        let found = replay_grid first b1 b2 b3 t r e in
        let d = replay_says first b1 b2 b3 t r found.chosen e in
        let range = interval_says first d.first_in in
        record {
          g = found.g;
          chosen = found.chosen;
          can = record {
            range = record { least = range.0; most = range.1 };
            lent = d.lent;
            threes = d.fits.threes;
            kinds = λ i h. kinds r.entries i (entry_says r.entries i (d.fits.each i h));
            reloads = λ i h. reloads r.entries i (entry_says r.entries i (d.fits.each i h));
            all_colours = d.fits.bytes;
            all_weights_lem = d.fits.pairs;
            room = d.fits.room;
            is_sound = d.is_sound;
          };
        },
    λ o. let c = o.can in
        replay_accepts first b1 b2 b3 t r (interval_by first c.range.least c.range.most) o.chosen c.lent
        (fits_by r
        (record {
          threes = c.threes;
          each = λ i h. entry r.entries i (c.kinds i h) (c.reloads i h);
          bytes = c.all_colours;
          pairs = c.all_weights_lem;
          room = c.room;
        }))
        c.is_sound,
  )

  -- and then a batch has loaded its colours with scaled weights
  pub batch_loads : (s : Session) (i : ℕ) (colours : List ℕ) (weighted : Bool) (weights : List ℕ)
      → (o : OnGrid b1 b2 b3 (CanBatch s i t colours weighted weights))
      → batch_later s i b1 b2 b3 t colours weighted weights
      ≡ written (bins_of o.g) (loaded o.g (scaled_batch i colours weighted weights) (view_of t))
  batch_loads s i colours weighted weights o =
      let c = o.can in
      (batch_table s i b1 b2 b3 t colours weighted weights o.chosen c.threes c.paired c.lent c.is_sound
      ((batch_exactly s i colours weighted weights).1 o)).1

  -- ---- a refusal writes nothing
  module _ {n : ℕ} where
    pub refused_batch : (s : Session) (i : ℕ) (colours : List ℕ) (weighted : Bool) (weights : List ℕ)
        → batch_number s i b1 b2 b3 t colours weighted weights ≡ suc n
        → batch_later s i b1 b2 b3 t colours weighted weights ≡ t
    refused_batch s i colours weighted weights e = batch_kept s i b1 b2 b3 t colours weighted weights e

    pub refused_replay : (first : ℕ) (r : Recorded) → replay_number first b1 b2 b3 t r ≡ suc n
        → (replay_answer first b1 b2 b3 t r ≡ record { number = suc n; session = record { interval = 0 } })
        × (replay_table first b1 b2 b3 t r ≡ t)
        × (replay_bytes first b1 b2 b3 t r ≡ r.answers)
    refused_replay first r e = replay_refused first b1 b2 b3 t r e

  -- under interval 0, that of a refused begin, every batch is refused
  pub none_under_0 : (i : ℕ) (colours : List ℕ) (weighted : Bool) (weights : List ℕ)
      → batch_number (record { interval = 0 }) i b1 b2 b3 t colours weighted weights
      ≡ refuse (not (is_interval i)) 13 14
  unfolding batch_number in_force refuse
  none_under_0 i colours weighted weights = go (is_interval i) refl
    where
      load : ℕ
      load = load_number b1 b2 b3 t colours true (scaled_weights i (length colours / 3) weighted weights)

      go : (b : Bool) → is_interval i ≡ b
          → refuse (not b) 13 (refuse (not (eqb i 0)) 14 load) ≡ refuse (not b) 13 14
      go true e = rw (ne_eqb i 0 (λ z. omega (arith, (interval_says i e).0, z))) refl
      go false e = refl

-- ---- begin and reload: done, they set the interval; refused, it is 0, or the old one
module _ (s : Session) (i : ℕ) where
  pub reload_exactly : ((reloaded s i).number ≡ 0) ↔ InRange i
  unfolding reloaded interval_number
  reload_exactly = (
    λ e.
        let range = interval_says i (not-false _ (passed (not (is_interval i)) 12 0 e).0) in
        record { least = range.0; most = range.1 },
    λ c. ap (λ (x : SessionAnswer). x.number) (reload_sets s i (interval_by i c.least c.most)),
  )

  pub done_reload : InRange i → reloaded s i ≡ record { number = 0; session = record { interval = i } }
  done_reload c = reload_sets s i (interval_by i c.least c.most)

  pub refused_reload : {n : ℕ} → (reloaded s i).number ≡ suc n → reloaded s i ≡ record { number = 13; session = s }
  refused_reload {n} e = go (is_interval i) refl
    where
      go : (b : Bool) → is_interval i ≡ b → reloaded s i ≡ record { number = 13; session = s }
      go true q = absurd (omega (arith, e, ap (λ (x : SessionAnswer). x.number) (reload_sets s i q)))
      go false q = reload_leaves s i q

module _ (i : ℕ) where
  pub begin_exactly : ((begun i).number ≡ 0) ↔ InRange i
  unfolding begun
  begin_exactly = reload_exactly (record { interval = 0 }) i

  pub done_begin : InRange i → begun i ≡ record { number = 0; session = record { interval = i } }
  unfolding begun
  done_begin c = done_reload (record { interval = 0 }) i c

  pub refused_begin : {n : ℕ} → (begun i).number ≡ suc n
      → begun i ≡ record { number = 13; session = record { interval = 0 } }
  unfolding begun
  refused_begin e = refused_reload (record { interval = 0 }) i e
