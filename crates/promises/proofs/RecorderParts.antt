-- A replay that is split between two entries is its two parts, the second begun with the first's table and interval.
-- Assumes nothing.
use mathlib.Core.Path.{◌≡◌, sym, ap, ◌∙◌}
use mathlib.Core.Bool.{true}
use mathlib.Core.List.{List, ◌++◌, append-nil, append_assoc}
use Prim.Native.Nat.{ℕ, ◌+◌}
use native.Mathlib.Omega.{arith}
use lib.ListN.{drop, drop_of_length-le}
use lib.Seq.{drop-append-add}
use Rattle.grid.specs.Grid.{bins_of}
use Rattle.table.specs.Table.{Table, Sized, view_of}
use Rattle.table.proofs.Tables.{list_holds}
use Rattle.adder.specs.Batch.{loaded}
use Rattle.recorder.specs.declared.session.SessionAnswer.{SessionAnswer}
use Rattle.recorder.specs.Session.{is_interval}
use Rattle.recorder.specs.Replay.{entries_in, Entry, entries_of}
use Rattle.recorder.specs.Replay.{Standing, standing, stands_after, answers_to, Recorded, lent_fits}
use Rattle.recorder.specs.Replay.{replay_number, replayed, replay_answer, replay_table, replay_bytes}
use Rattle.recorder.proofs.Stands.{stands_append, answers_append, fits_by}
use Rattle.recorder.proofs.Laws.{replay_grid, replay_says, replay_accepts}
use Rattle.promises.specs.Recorder.{ColourBytes, taken, joined, WholePart, InParts}
use Rattle.promises.proofs.Recorder.{set_interval, replay_table_lem, replay_sound, replay_interval}
use Rattle.promises.proofs.RecorderJoined.{entries_joined, entries_are, second_fits, joined_fits}

module _ (first b1 b2 b3 : ℕ) (t : Table) (r s : Recorded) (part : WholePart r) where
  abbrev then_interval : ℕ
  then_interval = (replay_answer first b1 b2 b3 t r).session.interval

  abbrev then_table : Table
  then_table = replay_table first b1 b2 b3 t r

  -- where both parts are done, the whole is
  pub parts_done : replay_number first b1 b2 b3 t r ≡ 0
      → replay_number (replay_answer first b1 b2 b3 t r).session.interval b1 b2 b3 (replay_table first b1 b2 b3 t r) s
      ≡ 0
      → replay_number first b1 b2 b3 t (joined r s) ≡ 0
  parts_done one two =
      let chosen = (replay_grid first b1 b2 b3 t r one).chosen in
      let d = replay_says first b1 b2 b3 t r chosen one in
      let f = replay_says then_interval b1 b2 b3 then_table s chosen two in
      replay_accepts first b1 b2 b3 t (joined r s) d.first_in chosen d.lent
      (joined_fits r s part (fits_by s f.fits))
      d.is_sound

  -- and it is the two parts, one after the other
  parts_are : replay_number first b1 b2 b3 t (joined r s) ≡ 0 → replay_number first b1 b2 b3 t r ≡ 0
      → replay_number (replay_answer first b1 b2 b3 t r).session.interval b1 b2 b3 (replay_table first b1 b2 b3 t r) s
      ≡ 0
      → InParts first b1 b2 b3 t r s
  unfolding replay_answer replay_table entries_of joined
  parts_are done one two =
      let chosen = (replay_grid first b1 b2 b3 t r one).chosen in
      let d = replay_says first b1 b2 b3 t (joined r s) chosen done in
      let d1 = replay_says first b1 b2 b3 t r chosen one in
      let d2 = replay_says then_interval b1 b2 b3 then_table s chosen two in
      let begin : Standing = standing first t in
      let e1 : List Entry = entries_of r.entries r.colours r.weights in
      let e2 : List Entry = entries_of s.entries s.colours s.weights in
      let stands : replayed first b1 b2 b3 t (joined r s) ≡ replayed then_interval b1 b2 b3 then_table s = d.stands
      ∙ ap (stands_after b1 b2 b3 begin) (entries_are r s part)
      ∙ stands_append b1 b2 b3 begin e1 e2
      ∙ ap (λ (x : Standing). stands_after b1 b2 b3 x e2) (sym d1.stands)
      ∙ sym d2.stands in
      let n = entries_in s.entries in
      let past : drop (entries_in (r.entries ++ s.entries)) (r.answers ++ s.answers) ≡ drop n s.answers =
      ap (λ (k : ℕ). drop k (r.answers ++ s.answers))
      (entries_joined r s part ∙ ap (λ (k : ℕ). k + n) (sym part.bytes))
      ∙ drop-append-add r.answers s.answers n in
      let its : replay_bytes first b1 b2 b3 t r ≡ answers_to b1 b2 b3 begin e1 = d1.written
      ∙ ap (λ (x : List ℕ). answers_to b1 b2 b3 begin e1 ++ x)
      (drop_of_length-le r.answers {i = entries_in r.entries} (omega (arith, part.bytes)))
      ∙ append-nil (answers_to b1 b2 b3 begin e1) in
      record {
        first_done = one;
        second_done = two;
        answer = λ j. record { number = (done ∙ sym two) j; session = (stands j).session };
        table = λ j. (stands j).table;
        bytes = d.written
            ∙ (λ j. answers_to b1 b2 b3 begin (entries_are r s part j) ++ past j)
            ∙ ap (λ (x : List ℕ). x ++ drop n s.answers) (answers_append b1 b2 b3 begin e1 e2)
            ∙ append_assoc (answers_to b1 b2 b3 begin e1) (answers_to b1 b2 b3 (stands_after b1 b2 b3 begin e1) e2)
            (drop n s.answers)
            ∙ (λ j. sym its j ++ (answers_to b1 b2 b3 (sym d1.stands j) e2 ++ drop n s.answers))
            ∙ ap (λ (x : List ℕ). replay_bytes first b1 b2 b3 t r ++ x) (sym d2.written);
      }

  module _ (bytes : ColourBytes r) where
    pub in_parts : replay_number first b1 b2 b3 t (joined r s) ≡ 0 → InParts first b1 b2 b3 t r s
    unfolding lent_fits
    in_parts done =
        let whole : lent_fits r ≡ true = part.fits in
        let found = replay_grid first b1 b2 b3 t (joined r s) done in
        let chosen = found.chosen in
        let d = replay_says first b1 b2 b3 t (joined r s) chosen done in
        let one = replay_accepts first b1 b2 b3 t r d.first_in chosen d.lent whole d.is_sound in
        let range : is_interval then_interval ≡ true =
        ap (λ (x : SessionAnswer). is_interval x.session.interval)
        (replay_interval first b1 b2 b3 t r bytes one chosen)
        ∙ set_interval first r.entries d.first_in (entries_in r.entries) in
        let lent : Sized then_table (bins_of found.g) =
        rw (replay_table_lem first b1 b2 b3 t r bytes one chosen)
        (list_holds (bins_of found.g) (loaded found.g (taken first b1 b2 b3 t r) (view_of t))).lent in
        parts_are done one
        (replay_accepts then_interval b1 b2 b3 then_table s range chosen lent
        (second_fits r s part (fits_by (joined r s) d.fits))
        (replay_sound first b1 b2 b3 t r bytes one chosen))
