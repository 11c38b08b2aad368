-- Laws of a recorded list: what it means that colours, weights and answer bytes fit its entries, and the colours of the
-- entries before one.
-- Assumes nothing.
use mathlib.Core.Path.{◌≡◌, refl, ap, ◌∙◌}
use mathlib.Core.Bool.{Bool, true, ◌&&◌}
use mathlib.Core.List.{List}
use Prim.Native.Nat.{ℕ, ◌+◌, ◌*◌, ◌%◌, ◌≤◌, ◌<◌}
use native.Mathlib.Nat.{zero-add}
use native.Mathlib.Omega.{arith}
use borrow.Author.Tests.{eq-eqb, eqb-true, le-leb, leb-true}
use lib.Dec.{eqb, leb}
use lib.ListN.{length}
use Rattle.basics.specs.Range.{sum_from, all_from}
use Rattle.basics.proofs.Range.{and_left, and_right, all_true, all_at, sum_last, sum_grow}
use Rattle.recorder.specs.Replay.{count_at, entries_in, colours_before, is_entry, entries_fit}

-- ---- the colours before an entry
module _ (entries : List ℕ) where
  pub none_before : colours_before entries 0 ≡ 0
  unfolding colours_before sum_from
  none_before = refl

  pub more_before : (i : ℕ) → colours_before entries (i + 1) ≡ colours_before entries i + count_at entries i
  unfolding colours_before
  more_before i =
      sum_last 0 i (count_at entries)
      ∙ ap (λ (k : ℕ). sum_from 0 i (count_at entries) + count_at entries k) (zero-add i)

  pub before_grows : (i n : ℕ) → i ≤ n → colours_before entries i ≤ colours_before entries n
  unfolding colours_before
  before_grows i n h = sum_grow 0 i n (count_at entries) h

-- ---- what fits
-- the facts behind the test
pub record Fits (entries : List ℕ) (colours weights answers : ℕ) : Type 0 where
  pub threes : length entries % 3 ≡ 0
  pub each : (i : ℕ) → i < entries_in entries → is_entry entries i ≡ true
  pub bytes : colours ≡ 3 * colours_before entries (entries_in entries)
  pub pairs : weights ≡ colours_before entries (entries_in entries)
  pub room : entries_in entries ≤ answers

module _ (entries : List ℕ) (colours weights answers : ℕ) where
  abbrev all : ℕ
  all = colours_before entries (entries_in entries)

  pub fits_test : Fits entries colours weights answers → entries_fit entries colours weights answers ≡ true
  unfolding entries_fit
  fits_test f =
      simp (
        eq-eqb _ _ f.threes,
        all_true 0 (entries_in entries) (is_entry entries) (λ i h l. f.each i (omega arith)),
        eq-eqb _ _ f.bytes,
        eq-eqb _ _ f.pairs,
        le-leb _ _ f.room,
      )

  pub test_fits : entries_fit entries colours weights answers ≡ true → Fits entries colours weights answers
  unfolding entries_fit
  test_fits e =
      let one : Bool = eqb (length entries % 3) 0 in
      let two : Bool = all_from 0 (entries_in entries) (is_entry entries) in
      let three : Bool = eqb colours (3 * all) in
      let four : Bool = eqb weights all in
      let five : Bool = leb (entries_in entries) answers in
      let later = and_right one (two && (three && (four && five))) e in
      let last = and_right two (three && (four && five)) later in
      let ends = and_right three (four && five) last in
      record {
        threes = eqb-true _ _ (and_left one (two && (three && (four && five))) e);
        each =
            λ i h. all_at 0 (entries_in entries) (is_entry entries) (and_left two (three && (four && five)) later) i
            (omega arith) (omega arith);
        bytes = eqb-true _ _ (and_left three (four && five) last);
        pairs = eqb-true _ _ (and_left four five ends);
        room = leb-true _ _ (and_right four five ends);
      }
