-- Replays (Rules, Replay): what a replay that is not refused as a whole leaves is the first table with the scaled
-- colours of the accepted batches loaded; which batch is accepted, and which refusal an entry gets otherwise.
-- Assumes nothing.
use Rattle.std.specs.Prelude.{Some}
use mathlib.Core.Path.{◌≡◌, refl, sym, ap, ◌∙◌}
use mathlib.Core.Logic.{◌↔◌}
use mathlib.Core.Bool.{Bool, true, false, not, ◌&&◌, cond}
use mathlib.Core.List.Memᴰ
use mathlib.Core.List.{List, [], ◌∷◌, Memᴰ}
use Prim.Native.Nat.{ℕ, zero, suc, ◌+◌, ◌≤◌, ◌<◌}
use native.Mathlib.Omega.{arith}
use borrow.Author.Tests.{eqb-true, eq-eqb, ne_eqb, not-false, ltb-false, le-ltb}
use lib.Dec.{eqb, ltb}
use lib.ListN.{length, get_or, drop}
use Rattle.basics.specs.Answer.{refuse}
use Rattle.basics.proofs.Ends.{passed}
use Rattle.grid.specs.declared.place.Grid.{Grid}
use Rattle.grid.specs.Grid.{grid_of, bins_of}
use Rattle.table.specs.Table.{Table, view_of, written}
use Rattle.table.specs.Sound.{limit, total, sound}
use Rattle.adder.specs.Batch.{weight_of, loaded}
use Rattle.recorder.specs.Session.{is_interval}
use Rattle.recorder.specs.Replay.{kind_at, interval_at, entries_in, Standing, Recorded, replay_number, replayed}
use Rattle.recorder.specs.Replay.{replay_answer, replay_table, replay_bytes}
use Rattle.recorder.proofs.Sessions.{interval_says, interval_by}
use Rattle.recorder.proofs.Laws.{ReplayDone, replay_says}
use Rattle.promises.specs.Recorder.{ColourBytes, entry_of, scaled_of, taken, stands_before, set_before, total_before}
use Rattle.promises.specs.Recorder.{CanTake, batch_due, entry_due}
use Rattle.promises.proofs.RecorderSteps.{one_by_one}
use Rattle.promises.proofs.RecorderStands.{stands_interval, stands_table, stands_sound, stands_total}
use Rattle.promises.proofs.RecorderStands.{stands_fits, answer_due}

-- the interval that the reloads set is one
pub set_interval : (first : ℕ) (entries : List ℕ) → is_interval first ≡ true
    → (i : ℕ) → is_interval (set_before first entries i) ≡ true
unfolding set_before
set_interval first entries e zero = e
set_interval first entries e (suc i) =
    go (eqb (kind_at entries i) 0) (is_interval (interval_at entries i)) refl (set_interval first entries e i)
  where
    go : (a b : Bool) → is_interval (interval_at entries i) ≡ b → is_interval (set_before first entries i) ≡ true
        → is_interval (cond (a && b) (interval_at entries i) (set_before first entries i)) ≡ true
    go true true p q = p
    go true false p q = q
    go false b p q = q

module _ (first b1 b2 b3 : ℕ) (t : Table) (r : Recorded) (bytes : ColourBytes r)
    (done : replay_number first b1 b2 b3 t r ≡ 0) {g : Grid} (e : grid_of b1 b2 b3 ≡ Some g) where
  abbrev answers : List ℕ
  answers = replay_bytes first b1 b2 b3 t r

  abbrev n : ℕ
  n = entries_in r.entries

  says : ReplayDone first b1 b2 b3 t r g
  says = replay_says first b1 b2 b3 t r e done

  -- ---- its table, sound again, with its total; and the interval then in force
  stands : replayed first b1 b2 b3 t r ≡ stands_before first b1 b2 b3 t r n
  stands = (one_by_one first b1 b2 b3 t r done).ends

  pub replay_table_lem : replay_table first b1 b2 b3 t r
      ≡ written (bins_of g) (loaded g (taken first b1 b2 b3 t r) (view_of t))
  unfolding replay_table taken
  replay_table_lem =
      ap (λ (x : Standing). x.table) stands ∙ stands_table first b1 b2 b3 t r bytes done e n (omega arith)

  pub replay_sound : sound limit g (view_of (replay_table first b1 b2 b3 t r)) ≡ true
  unfolding replay_table
  replay_sound =
      ap (λ (x : Standing). sound limit g (view_of x.table)) stands
      ∙ stands_sound first b1 b2 b3 t r bytes done e n (omega arith)

  pub replay_total : total g (view_of (replay_table first b1 b2 b3 t r))
      ≡ total g (view_of t) + weight_of (taken first b1 b2 b3 t r)
  unfolding replay_table taken total_before
  replay_total =
      ap (λ (x : Standing). total g (view_of x.table)) stands
      ∙ stands_total first b1 b2 b3 t r bytes done e n (omega arith)

  pub replay_fits : total g (view_of t) + weight_of (taken first b1 b2 b3 t r) ≤ limit
  unfolding taken total_before
  replay_fits = stands_fits first b1 b2 b3 t r bytes done e n (omega arith)

  pub replay_interval : replay_answer first b1 b2 b3 t r
      ≡ record { number = 0; session = record { interval = set_before first r.entries (entries_in r.entries) } }
  unfolding replay_answer
  replay_interval =
      let interval = ap (λ (x : Standing). x.session.interval) stands
      ∙ stands_interval first b1 b2 b3 t r bytes done e n (omega arith) in
      λ i. record { number = done i; session = record { interval = interval i } }

  -- ---- the answer bytes: those past the entries stay
  pub bytes_past : drop (entries_in r.entries) (replay_bytes first b1 b2 b3 t r)
      ≡ drop (entries_in r.entries) r.answers
  bytes_past = says.rest_stays

  pub bytes_length : length (replay_bytes first b1 b2 b3 t r) ≡ length r.answers
  bytes_length = says.length_stays

  -- and of each entry one: no other answer occurs
  module _ (i : ℕ) (h : i < entries_in r.entries) where
    abbrev iv : ℕ
    iv = interval_at r.entries i

    due : get_or answers i 0 ≡ entry_due first g t r answers i
    due = answer_due first b1 b2 b3 t r bytes done e i h

    pub no_other_answer : Memᴰ (get_or (replay_bytes first b1 b2 b3 t r) i 0) (0 ∷ 7 ∷ 13 ∷ 14 ∷ [])
    unfolding entry_due batch_due refuse
    no_other_answer =
        Memᴰ.cast due
        (go (eqb (kind_at r.entries i) 0) (is_interval iv) (eqb iv (set_before first r.entries i))
        (ltb limit (total_before g t r answers i + weight_of (scaled_of (entry_of r i)))))
      where
        go : (a b c d : Bool)
            → Memᴰ (cond a (refuse (not b) 13 0) (refuse (not b) 13 (refuse (not c) 14 (refuse d 7 0))))
            (0 ∷ 7 ∷ 13 ∷ 14 ∷ [])
        go true true c d = Memᴰ.head refl
        go true false c d = Memᴰ.tail (Memᴰ.tail (Memᴰ.head refl))
        go false true true true = Memᴰ.tail (Memᴰ.head refl)
        go false true true false = Memᴰ.head refl
        go false true false d = Memᴰ.tail (Memᴰ.tail (Memᴰ.tail (Memᴰ.head refl)))
        go false false c d = Memᴰ.tail (Memᴰ.tail (Memᴰ.head refl))

    -- a reload is accepted exactly when its interval is in range, and gets 13 otherwise
    pub reload_answer : kind_at r.entries i ≡ 0 → get_or (replay_bytes first b1 b2 b3 t r) i 0
        ≡ refuse (not (is_interval (interval_at r.entries i))) 13 0
    unfolding entry_due
    reload_answer k = due ∙ rw (eq-eqb (kind_at r.entries i) 0 k) refl

    pub reload_accepted : kind_at r.entries i ≡ 0
        → (get_or (replay_bytes first b1 b2 b3 t r) i 0 ≡ 0)
        ↔ ((1 ≤ interval_at r.entries i) × (interval_at r.entries i ≤ 4096))
    unfolding refuse
    reload_accepted k = (
      λ z. interval_says iv (not-false _ (passed (not (is_interval iv)) 12 0 (sym (reload_answer k) ∙ z)).0),
      λ c. reload_answer k ∙ rw (interval_by iv c.0 c.1) refl,
    )

    -- a batch is accepted exactly when its interval is the one set and its scaled weight fits on top of the total, and
    -- gets 13, 14 or 7 otherwise
    pub batch_answer_lem : kind_at r.entries i ≡ 1 → get_or (replay_bytes first b1 b2 b3 t r) i 0
        ≡ batch_due first g t r (replay_bytes first b1 b2 b3 t r) i
    unfolding entry_due
    batch_answer_lem k = due ∙ rw (ne_eqb (kind_at r.entries i) 0 (λ z. omega (arith, k, z))) refl

    pub batch_accepted : kind_at r.entries i ≡ 1
        → (get_or (replay_bytes first b1 b2 b3 t r) i 0 ≡ 0)
        ↔ CanTake first g t r (replay_bytes first b1 b2 b3 t r) i
    unfolding batch_due refuse
    batch_accepted k = (
      λ z.
          let range = passed (not (is_interval iv)) 12 _ (sym (batch_answer_lem k) ∙ z) in
          let same = passed (not (eqb iv (set_before first r.entries i))) 13 _ range.1 in
          let fits = passed _ 6 0 same.1 in
          record {
            set = eqb-true iv (set_before first r.entries i) (not-false _ same.0);
            fits = ltb-false limit (total_before g t r answers i + weight_of (scaled_of (entry_of r i))) fits.0;
          },
      λ c. batch_answer_lem k
          ∙ simp (
            ap is_interval c.set ∙ set_interval first r.entries says.first_in i,
            eq-eqb iv (set_before first r.entries i) c.set,
            le-ltb limit (total_before g t r answers i + weight_of (scaled_of (entry_of r i))) c.fits,
          ),
    )
