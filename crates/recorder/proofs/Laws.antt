-- What a caller of replay may use without seeing inside its definition: a refusal leaves all as it was, and where the
-- answer is 0, what was given and how it ends.
-- Assumes nothing.
use Rattle.std.specs.Prelude.{None, Some}
use mathlib.Core.Path.{◌≡◌, refl, sym, ap, ◌∙◌}
use mathlib.Core.Bool.{Bool, true, false, not, ◌&&◌}
use mathlib.Core.List.{List, ◌++◌}
use Prim.Native.Nat.{ℕ, suc, ◌<◌}
use native.Mathlib.Omega.{arith}
use borrow.Author.Tests.{not-false}
use lib.ListN.{length, get_or, drop, length-append, length-drop, get_or-append}
use lib.Seq.{drop_at}
use Rattle.grid.specs.declared.place.Grid.{Grid}
use Rattle.basics.specs.Answer.{refuse, when_done}
use Rattle.basics.specs.Range.{list_from}
use Rattle.basics.proofs.Ends.{passed}
use Rattle.basics.proofs.Range.{and_left, and_right, length_list}
use Rattle.grid.specs.Grid.{grid_of, grid_answer, on_grid, number_on, bins_of}
use Rattle.grid.proofs.Ends.{call_done}
use Rattle.table.specs.Table.{Table, Sized, is_sized, view_of}
use Rattle.table.specs.Sound.{limit, sound}
use Rattle.table.proofs.Tables.{sized_test, test_sized}
use Rattle.recorder.specs.Session.{is_interval}
use Rattle.recorder.specs.Replay.{entries_in, entry_at, entries_of, Standing, standing, entry_number}
use Rattle.recorder.specs.Replay.{stands_after, answers_to, Recorded, lent_fits, replay_number_on, replay_number}
use Rattle.recorder.specs.Replay.{replayed, replay_answer, replay_table, replay_bytes}
use Rattle.recorder.proofs.Stands.{answers_length, answer_at, AllFits, fits_says}

module _ (first b1 b2 b3 : ℕ) (t : Table) (r : Recorded) where
  abbrev number : ℕ
  number = replay_number first b1 b2 b3 t r

  -- how it stands before entry i
  abbrev pub stands_at : ℕ → Standing
  stands_at i =
      stands_after b1 b2 b3 (standing first t) (list_from 0 i (entry_at r.entries r.colours r.weights))

  -- its tests on an accepted grid, in their order
  pub replay_tests_lem : {g : Grid} → grid_of b1 b2 b3 ≡ Some g → number
      ≡ refuse (not (is_interval first)) 13
      (refuse (not (is_sized t (bins_of g) && lent_fits r)) 5 (refuse (not (sound limit g (view_of t))) 6 0))
  unfolding replay_number replay_number_on number_on on_grid
  replay_tests_lem e = rw e refl

  pub replay_no_interval : is_interval first ≡ false → number ≡ 13
  unfolding replay_number refuse
  replay_no_interval e = rw e refl

  pub replay_no_grid : grid_of b1 b2 b3 ≡ None → number ≡ refuse (not (is_interval first)) 13 1
  unfolding replay_number number_on on_grid grid_answer
  replay_no_grid e = rw e refl

  -- the answer bytes where it is done
  abbrev pub all_bytes : List ℕ
  all_bytes =
      answers_to b1 b2 b3 (standing first t) (entries_of r.entries r.colours r.weights)
      ++ drop (entries_in r.entries) r.answers

  kept : {m : ℕ} → number ≡ suc m → replayed first b1 b2 b3 t r ≡ standing 0 t
  unfolding replayed when_done
  kept e = rw e refl

  -- a refusal replays nothing and answers interval 0
  pub replay_refused : {m : ℕ} → number ≡ suc m
      → (replay_answer first b1 b2 b3 t r ≡ record { number = suc m; session = record { interval = 0 } })
      × (replay_table first b1 b2 b3 t r ≡ t) × (replay_bytes first b1 b2 b3 t r ≡ r.answers)
  unfolding replay_answer replay_table replay_bytes replayed when_done
  replay_refused e = (
    λ i. record { number = e i; session = (kept e i).session },
    λ i. (kept e i).table,
    λ i. when_done (e i) all_bytes r.answers,
  )

  -- done, there is a grid
  pub record ReplayGrid : Type 0 where
    pub g : Grid
    pub chosen : grid_of b1 b2 b3 ≡ Some g

  pub replay_grid : number ≡ 0 → ReplayGrid
  unfolding replay_number
  replay_grid e =
      let c = call_done {A = ℕ} (grid_of b1 b2 b3)
      (λ g. replay_number_on limit g (is_sized t (bins_of g) && lent_fits r) (view_of t)) (λ g. 0) 0
      (passed (not (is_interval first)) 12 _ e).1 in
      record { g = c.g; chosen = c.is }

  -- and it tells what was given, how it stands and what it answers, entry by entry
  pub record ReplayDone (g : Grid) : Type 0 where
    pub first_in : is_interval first ≡ true
    pub lent : Sized t (bins_of g)
    pub fits : AllFits r
    pub is_sound : sound limit g (view_of t) ≡ true
    pub stands : replayed first b1 b2 b3 t r ≡ stands_at (entries_in r.entries)
    pub written : replay_bytes first b1 b2 b3 t r ≡ all_bytes
    pub length_stays : length (replay_bytes first b1 b2 b3 t r) ≡ length r.answers
    pub byte : (i : ℕ) → i < entries_in r.entries
        → get_or (replay_bytes first b1 b2 b3 t r) i 0
        ≡ entry_number b1 b2 b3 (stands_at i) (entry_at r.entries r.colours r.weights i)
    pub rest_stays : drop (entries_in r.entries) (replay_bytes first b1 b2 b3 t r)
        ≡ drop (entries_in r.entries) r.answers

  pub replay_says : {g : Grid} → grid_of b1 b2 b3 ≡ Some g → number ≡ 0 → ReplayDone g
  unfolding replayed replay_bytes entries_of when_done
  replay_says {g} chosen e =
      let one = passed (not (is_interval first)) 12 _ (sym (replay_tests_lem chosen) ∙ e) in
      let five = passed _ 4 _ one.1 in
      let six = passed _ 5 0 five.1 in
      let sized : Bool = is_sized t (bins_of g) in
      let lengths = not-false (sized && lent_fits r) five.0 in
      let n = entries_in r.entries in
      let f = entry_at r.entries r.colours r.weights in
      let fits = fits_says r (and_right sized (lent_fits r) lengths) in
      let answers : List ℕ = answers_to b1 b2 b3 (standing first t) (list_from 0 n f) in
      let size : length answers ≡ n = answers_length b1 b2 b3 (standing first t) (list_from 0 n f) ∙ length_list 0 n f in
      let bytes : replay_bytes first b1 b2 b3 t r ≡ answers ++ drop n r.answers = rw e refl in
      record {
        first_in = not-false _ one.0;
        lent = test_sized (and_left sized (lent_fits r) lengths);
        fits = fits;
        is_sound = not-false _ six.0;
        stands = rw e refl;
        written = rw e refl;
        length_stays =
            ap length bytes
            ∙ omega (
              arith,
              length-append answers (drop n r.answers),
              size,
              length-drop n r.answers,
              fits.room,
            );
        byte = λ i h. ap (λ (x : List ℕ). get_or x i 0) bytes
            ∙ get_or-append answers (drop n r.answers) 0 i (omega (arith, h, size))
            ∙ answer_at b1 b2 b3 (standing first t) f n i h;
        rest_stays = ap (drop n) bytes ∙ drop_at answers (drop n r.answers) n size;
      }

  pub replay_accepts : is_interval first ≡ true → {g : Grid} → grid_of b1 b2 b3 ≡ Some g → Sized t (bins_of g)
      → lent_fits r ≡ true → sound limit g (view_of t) ≡ true → number ≡ 0
  unfolding refuse
  replay_accepts one e lent fits is_sound = replay_tests_lem e ∙ simp (one, sized_test lent, fits, is_sound)
