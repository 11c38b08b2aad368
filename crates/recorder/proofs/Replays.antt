-- How a replay ends: which answer it gives and what it leaves, case by case.
-- Assumes nothing.
use Rattle.std.specs.Prelude.{None, Some}
use mathlib.Core.Path.{◌≡◌, refl, sym, ◌∙◌}
use mathlib.Core.Bool.{true, false}
use mathlib.Core.List.{List, ◌++◌}
use Prim.Native.Nat.{ℕ, suc}
use lib.ListN.{drop}
use Rattle.basics.specs.Answer.{refuse}
use Rattle.grid.specs.declared.place.Grid.{Grid}
use Rattle.grid.specs.Grid.{grid_of, bins_of}
use Rattle.grid.proofs.Places.{chose}
use Rattle.table.specs.Table.{Table, Sized, view_of}
use Rattle.table.specs.Sound.{limit, sound}
use Rattle.table.proofs.Tables.{sized_test, not_sized_test}
use Rattle.recorder.specs.declared.session.Session.{Session}
use Rattle.recorder.specs.declared.session.SessionAnswer.{SessionAnswer}
use Rattle.recorder.specs.Session.{is_interval}
use Rattle.recorder.specs.Replay.{standing, entries_of, entries_in, stands_after, answers_to, Recorded, lent_fits}
use Rattle.recorder.specs.Replay.{replay_number, replay_answer, replay_table, replay_bytes}
use Rattle.recorder.specs.Inner.{stand, stands_on, answers_on}
use Rattle.recorder.proofs.Laws.{replay_tests_lem, replay_no_interval, replay_no_grid, replay_refused}
use Rattle.recorder.proofs.Laws.{replay_accepts, replay_says}

module _ (first b1 b2 b3 : ℕ) (t : Table) (r : Recorded) where
  -- an answer, a table and answer bytes are the replay's
  abbrev ReplayEnds : SessionAnswer → Table → List ℕ → Type 0
  ReplayEnds a e bytes =
      (a ≡ replay_answer first b1 b2 b3 t r)
      × ((e ≡ replay_table first b1 b2 b3 t r) × (bytes ≡ replay_bytes first b1 b2 b3 t r))

  -- what a refusal hands back
  abbrev with : ℕ → SessionAnswer
  with n = record { number = n; session = record { interval = 0 } }

  refused_with_lem : {n : ℕ} → replay_number first b1 b2 b3 t r ≡ suc n → {a : SessionAnswer} → a ≡ with (suc n)
      → ReplayEnds a t r.answers
  refused_with_lem e q =
      let l = replay_refused first b1 b2 b3 t r e in
      (q ∙ sym l.0, (sym l.1, sym l.2))

  pub ends_no_interval : is_interval first ≡ false → {a : SessionAnswer} → a ≡ with 13 → ReplayEnds a t r.answers
  ends_no_interval n = refused_with_lem (replay_no_interval first b1 b2 b3 t r n)

  module _ (i : is_interval first ≡ true) where
    pub ends_no_grid : grid_of b1 b2 b3 ≡ None → {a : SessionAnswer} → a ≡ with 1
        → ReplayEnds a t r.answers
    unfolding refuse
    ends_no_grid e = refused_with_lem (replay_no_grid first b1 b2 b3 t r e ∙ rw i refl)

    module _ {g : Grid} (e : grid_of b1 b2 b3 ≡ Some g) where
      pub ends_length : (Sized t (bins_of g) → ⊥) → {a : SessionAnswer} → a ≡ with 5 → ReplayEnds a t r.answers
      unfolding refuse
      ends_length n = refused_with_lem (replay_tests_lem first b1 b2 b3 t r e ∙ simp (i, not_sized_test n))

      module _ (h : Sized t (bins_of g)) where
        pub ends_not_fitting : lent_fits r ≡ false → {a : SessionAnswer} → a ≡ with 5 → ReplayEnds a t r.answers
        unfolding refuse
        ends_not_fitting n = refused_with_lem (replay_tests_lem first b1 b2 b3 t r e ∙ simp (i, sized_test h, n))

        module _ (f : lent_fits r ≡ true) where
          pub ends_unsound : sound limit g (view_of t) ≡ false → {a : SessionAnswer} → a ≡ with 6
              → ReplayEnds a t r.answers
          unfolding refuse
          ends_unsound u = refused_with_lem (replay_tests_lem first b1 b2 b3 t r e ∙ simp (i, sized_test h, f, u))

          pub ends_done : sound limit g (view_of t) ≡ true → {s : Session} {l : Table} {bytes : List ℕ}
              → stand s l ≡ stands_on g (standing first t) (entries_of r.entries r.colours r.weights)
              → bytes
              ≡ answers_on g (standing first t) (entries_of r.entries r.colours r.weights)
              ++ drop (entries_in r.entries) r.answers
              → ReplayEnds (record { number = 0; session = s }) l bytes
          unfolding replay_answer replay_table entries_of
          ends_done u p q =
              let c = chose b1 b2 b3 g e in
              let es = entries_of r.entries r.colours r.weights in
              let z = replay_accepts first b1 b2 b3 t r i e h f u in
              let d = replay_says first b1 b2 b3 t r e z in
              let goes =
              p ∙ (λ j. stands_after (c.one j) (c.two j) (c.three j) (standing first t) es) ∙ sym d.stands in (
                λ j. record { number = sym z j; session = (goes j).session },
                (
                  λ j. (goes j).table,
                  q
                      ∙ (λ j. answers_to (c.one j) (c.two j) (c.three j) (standing first t) es
                      ++ drop (entries_in r.entries) r.answers)
                      ∙ sym d.written,
                ),
              )
