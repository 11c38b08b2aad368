-- The calls of the recorder: 13 and 14 come before 1, and then the lowest answer that applies is given;
-- where none applies, it is 0.
-- Assumes nothing.
use Rattle.std.specs.Prelude.{None, Option, Some}
use Rattle.grid.specs.declared.place.Grid.{Grid}
use mathlib.Core.Path.{◌≡◌, refl, sym, ap, ◌∙◌}
use mathlib.Core.Bool.{Bool, true, false, not, ◌&&◌, ◌||◌}
use mathlib.Core.List.{List, [], ◌∷◌}
use Prim.Native.Nat.{ℕ, zero, suc, ◌+◌, ◌*◌, ◌/◌, ◌%◌}
use native.Mathlib.Nat.{lt_of_not-le}
use native.Mathlib.Decide.{dec_le}
use native.Mathlib.Omega.{arith}
use borrow.Author.Tests.{eqb-true, le-leb, lt-leb, lt-ltb, le-ltb}
use lib.Dec.{eqb, leb, ltb}
use lib.ListN.{length}
use Rattle.basics.specs.Answer.{refuse}
use Rattle.basics.specs.Range.{all_from}
use Rattle.basics.proofs.Range.{all_same}
use Rattle.grid.specs.Grid.{grid_of, grid_answer, on_grid, bins_of}
use Rattle.table.specs.Table.{Table, is_sized, view_of}
use Rattle.table.specs.Sound.{limit, total, sound}
use Rattle.adder.specs.Batch.{scaled_weights}
use Rattle.loader.specs.Load.{load_number}
use Rattle.adder.proofs.Scaled.{scaled_pairs, scaled_weight}
use Rattle.loader.proofs.Calls.{load_no_grid}
use Rattle.loader.proofs.Laws.{load_tests_lem}
use Rattle.recorder.specs.declared.session.Session.{Session}
use Rattle.recorder.specs.Session.{is_interval, interval_number, begun, reloaded}
use Rattle.recorder.specs.Batch.{in_force, batch_number}
use Rattle.recorder.specs.Replay.{kind_at, count_at, entries_in, colours_before, is_entry, entries_fit, Recorded, lent_fits}
use Rattle.recorder.specs.Replay.{replay_number}
use Rattle.recorder.proofs.Laws.{replay_tests_lem, replay_no_grid}
use Rattle.promises.specs.Numbers.{chain, ascends, earliest_of, no_grid, on_bins}
use Rattle.promises.specs.RecorderNumbers.{interval_tests, interval_applies, batch_weighs, batch_tests}
use Rattle.promises.specs.RecorderNumbers.{scaled_tests, batch_applies, list_tests, replay_tests, replay_applies}
use Rattle.promises.proofs.Earliest.{early}

-- ---- tests of entries
-- an entry is of one of the two kinds, and a reload has no colours
entry_tests : (entries : List ℕ) (i : ℕ) → is_entry entries i
    ≡ ((eqb (kind_at entries i) 0 || eqb (kind_at entries i) 1)
    && (not (eqb (kind_at entries i) 0) || eqb (count_at entries i) 0))
unfolding is_entry
entry_tests entries i = go (eqb kind 0) (eqb kind 1) (eqb (count_at entries i) 0) refl refl
  where
    kind : ℕ
    kind = kind_at entries i

    go : (a b c : Bool) → eqb kind 0 ≡ a → eqb kind 1 ≡ b → ((a && c) || b) ≡ ((a || b) && (not a || c))
    go true true c p q = absurd (omega (arith, eqb-true kind 0 p, eqb-true kind 1 q))
    go true false true p q = refl
    go true false false p q = refl
    go false true c p q = refl
    go false false c p q = refl

and_swap : (a b c d : Bool) → ((a && b) && (c && d)) ≡ ((a && c) && (b && d))
and_swap true true c d = refl
and_swap true false true d = refl
and_swap true false false d = refl
and_swap false b c d = refl

all_both : (i n : ℕ) (f h : ℕ → Bool) → all_from i n (λ k. f k && h k) ≡ (all_from i n f && all_from i n h)
unfolding all_from
all_both i zero f h = refl
all_both i (suc n) f h =
    ap (λ (x : Bool). (f i && h i) && x) (all_both (suc i) n f h)
    ∙ and_swap (f i) (h i) (all_from (suc i) n f) (all_from (suc i) n h)

fewer : (n m : ℕ) → not (leb n m) ≡ ltb m n
fewer n m =
    elim (dec_le n m) [
      | yes h ↦ ap not (le-leb n m h) ∙ sym (le-ltb m n h)
      | no h ↦ ap not (lt-leb n m (lt_of_not-le h)) ∙ sym (lt-ltb m n (lt_of_not-le h))
    ]

-- ---- the first answer of each call that applies
pub reload_earliest : (s : Session) (i : ℕ) → (reloaded s i).number ≡ earliest_of (interval_applies i)
unfolding reloaded interval_number interval_applies interval_tests chain ascends
reload_earliest s i = early ((13, not (is_interval i)) ∷ []) [] refl refl

pub begin_earliest : (i : ℕ) → (begun i).number ≡ earliest_of (interval_applies i)
unfolding begun
begin_earliest i = reload_earliest (record { interval = 0 }) i

module _ (b1 b2 b3 : ℕ) (t : Table) where
  pub batch_earliest : (s : Session) (i : ℕ) (colours : List ℕ) (weighted : Bool) (weights : List ℕ)
      → batch_number s i b1 b2 b3 t colours weighted weights
      ≡ earliest_of (batch_applies s i b1 b2 b3 t colours weighted weights)
  unfolding batch_number in_force batch_applies batch_tests scaled_tests batch_weighs chain ascends no_grid on_bins on_grid
      grid_answer refuse
  batch_earliest s i colours weighted weights =
      ap (λ (n : ℕ). refuse (not (is_interval i)) 13 (refuse (not (eqb i s.interval)) 14 n))
      (go (grid_of b1 b2 b3) refl)
      ∙ early ((13, not (is_interval i)) ∷ (14, not (eqb i s.interval)) ∷ [])
      (scaled_tests (grid_of b1 b2 b3) i t colours weighted weights) refl refl
    where
      scaled : List ℕ
      scaled = scaled_weights i (length colours / 3) weighted weights

      go : (c : Option Grid) → grid_of b1 b2 b3 ≡ c
          → load_number b1 b2 b3 t colours true scaled
          ≡ chain (scaled_tests (grid_of b1 b2 b3) i t colours weighted weights)
      go (Some g) e =
          load_tests_lem b1 b2 b3 t colours true scaled e
          ∙ (λ j.
          refuse (not (eqb (length colours % 3) 0)) 3
          (refuse (scaled_pairs i colours weighted weights j) 4
          (refuse (not (is_sized t (bins_of g))) 5
          (refuse (not (sound limit g (view_of t))) 6
          (refuse (ltb limit (total g (view_of t) + scaled_weight i colours weighted weights j)) 7 0)))))
          ∙ rw e refl
      go None e = sym (load_no_grid b1 b2 b3 t colours true scaled e).0 ∙ rw e refl

  pub replay_earliest : (first : ℕ) (r : Recorded)
      → replay_number first b1 b2 b3 t r ≡ earliest_of (replay_applies first b1 b2 b3 t r)
  unfolding replay_applies replay_tests list_tests lent_fits entries_fit chain ascends no_grid on_bins on_grid grid_answer refuse
  replay_earliest first r =
      go (grid_of b1 b2 b3) refl ∙ early ((13, not (is_interval first)) ∷ []) (list_tests (grid_of b1 b2 b3) t r) refl refl
    where
      n : ℕ
      n = entries_in r.entries

      m : ℕ
      m = length r.answers

      threes : Bool
      threes = eqb (length r.entries % 3) 0

      known : Bool
      known = all_from 0 n (λ i. eqb (kind_at r.entries i) 0 || eqb (kind_at r.entries i) 1)

      empty : Bool
      empty = all_from 0 n (λ i. not (eqb (kind_at r.entries i) 0) || eqb (count_at r.entries i) 0)

      colours : Bool
      colours = eqb (length r.colours) (3 * colours_before r.entries n)

      weights : Bool
      weights = eqb (length r.weights) (colours_before r.entries n)

      room : Bool
      room = leb n m

      kinds : all_from 0 n (is_entry r.entries) ≡ (known && empty)
      kinds = all_same 0 n (is_entry r.entries) _ (λ i a b. entry_tests r.entries i) ∙ all_both 0 n _ _

      six : (a b k l c d e : Bool) (rest : ℕ)
          → refuse (not (a && (b && ((k && l) && (c && (d && e)))))) 5 rest
          ≡ refuse (not a) 5 (refuse (not b) 5 (refuse (not k) 5 (refuse (not l) 5
          (refuse (not c) 5 (refuse (not d) 5 (refuse (not e) 5 rest))))))
      six true true true true true true e rest = refl
      six true true true true true false e rest = refl
      six true true true true false d e rest = refl
      six true true true false c d e rest = refl
      six true true false l c d e rest = refl
      six true false k l c d e rest = refl
      six false b k l c d e rest = refl

      go : (c : Option Grid) → grid_of b1 b2 b3 ≡ c
          → replay_number first b1 b2 b3 t r
          ≡ refuse (not (is_interval first)) 13 (chain (list_tests (grid_of b1 b2 b3) t r))
      go (Some g) e =
          replay_tests_lem first b1 b2 b3 t r e
          ∙ ap (refuse (not (is_interval first)) 13)
          ((λ j. refuse (not (is_sized t (bins_of g) && (threes && (kinds j && (colours && (weights && room)))))) 5 last)
          ∙ six (is_sized t (bins_of g)) threes known empty colours weights room last
          ∙ (λ j.
          refuse (not (is_sized t (bins_of g))) 5
          (refuse (not threes) 5
          (refuse (not known) 5
          (refuse (not empty) 5 (refuse (not colours) 5 (refuse (not weights) 5 (refuse (fewer n m j) 5 last))))))))
          ∙ rw e refl
        where
          last : ℕ
          last = refuse (not (sound limit g (view_of t))) 6 0
      go None e = replay_no_grid first b1 b2 b3 t r e ∙ rw e refl
