-- Laws of a recorded list in two parts, the first of which ends between two entries: its entries are those of the
-- parts, with the same colours and weights.
-- Assumes nothing.
use mathlib.Core.Path.{◌≡◌, sym, ap, ◌∙◌}
use mathlib.Core.Bool.{true, ◌&&◌, ◌||◌}
use mathlib.Core.List.{List, ◌++◌}
use Prim.Native.Nat.{ℕ, ◌+◌, ◌-◌, ◌*◌, ◌≤◌, ◌<◌}
use native.Mathlib.Nat.{zero-add, add-zero, lt_of_not-le}
use native.Mathlib.Decide.{dec_le}
use native.Mathlib.Omega.{arith}
use lib.Dec.{eqb}
use lib.ListN.{length, get_or, take, drop, length-append, length-drop, get_or-append}
use lib.Seq.{get_or-append-add, drop-append-add, drop-append-le, take-append-le}
use Rattle.basics.specs.Range.{list_from, sum_from}
use Rattle.basics.proofs.Lists.{list_append, list_same, list_shift}
use Rattle.basics.proofs.Range.{sum_same, sum_append, sum_shift}
use Rattle.recorder.specs.Replay.{kind_at, interval_at, count_at, entries_in, colours_before, is_entry, entry_at}
use Rattle.recorder.specs.Replay.{entries_of, Recorded, lent_fits}
use Rattle.recorder.proofs.Stands.{AllFits, fits_says, fits_by, within}
use Rattle.promises.specs.Recorder.{entry_of, joined, WholePart}

-- ---- a part of one list after another
part_first : (xs ys : List ℕ) (a b : ℕ) → a + b ≤ length xs → take b (drop a (xs ++ ys)) ≡ take b (drop a xs)
part_first xs ys a b h =
    ap (take b) (drop-append-le a xs ys (omega arith))
    ∙ take-append-le b (drop a xs) ys (omega (arith, h, length-drop a xs))

part_second : (xs ys : List ℕ) (a b c : ℕ) → c ≡ length xs + a → take b (drop c (xs ++ ys)) ≡ take b (drop a ys)
part_second xs ys a b c e =
    ap (λ (k : ℕ). take b (drop k (xs ++ ys))) e ∙ ap (take b) (drop-append-add xs ys a)

module _ (r s : Recorded) (part : WholePart r) where
  abbrev one : List ℕ
  one = r.entries

  abbrev two : List ℕ
  two = s.entries

  abbrev n : ℕ
  n = entries_in r.entries

  first_fits : AllFits r
  unfolding lent_fits
  first_fits = fits_says r part.fits

  three : 3 * n ≡ length one
  three = omega (arith, first_fits.threes)

  -- how many entries there are
  pub entries_joined : entries_in (r.entries ++ s.entries) ≡ entries_in r.entries + entries_in s.entries
  entries_joined = omega (arith, length-append one two, three)

  -- ---- the numbers of an entry of the first part, and of the second
  first_number : (i j : ℕ) → i < n → j < 3 → get_or (one ++ two) (3 * i + j) 0 ≡ get_or one (3 * i + j) 0
  first_number i j h k = get_or-append one two 0 (3 * i + j) (omega (arith, three))

  second_number : (i j : ℕ) → get_or (one ++ two) (3 * (n + i) + j) 0 ≡ get_or two (3 * i + j) 0
  second_number i j =
      ap (λ (k : ℕ). get_or (one ++ two) k 0) there ∙ get_or-append-add one two (3 * i + j) 0
    where
      there : 3 * (n + i) + j ≡ length one + (3 * i + j)
      there = omega (arith, three)

  first_count : (i : ℕ) → i < n → count_at (one ++ two) i ≡ count_at one i
  unfolding count_at
  first_count i h = first_number i 2 h (omega arith)

  second_count : (i : ℕ) → count_at (one ++ two) (n + i) ≡ count_at two i
  unfolding count_at
  second_count i = second_number i 2

  first_interval : (i : ℕ) → i < n → interval_at (one ++ two) i ≡ interval_at one i
  unfolding interval_at
  first_interval i h = first_number i 1 h (omega arith)

  second_interval : (i : ℕ) → interval_at (one ++ two) (n + i) ≡ interval_at two i
  unfolding interval_at
  second_interval i = second_number i 1

  first_kind : (i : ℕ) → i < n → kind_at (one ++ two) i ≡ kind_at one i
  unfolding kind_at
  first_kind i h = get_or-append one two 0 (3 * i) (omega (arith, three))

  second_kind : (i : ℕ) → kind_at (one ++ two) (n + i) ≡ kind_at two i
  unfolding kind_at
  second_kind i =
      ap (λ (k : ℕ). get_or (one ++ two) k 0) there ∙ get_or-append-add one two (3 * i) 0
    where
      there : 3 * (n + i) ≡ length one + 3 * i
      there = omega (arith, three)

  -- ---- how many colours lie before them
  first_before : (i : ℕ) → i ≤ n → colours_before (one ++ two) i ≡ colours_before one i
  unfolding colours_before
  first_before i h = sum_same 0 i (count_at (one ++ two)) (count_at one) (λ k a b. first_count k (omega arith))

  second_before : (i : ℕ) → colours_before (one ++ two) (n + i) ≡ colours_before one n + colours_before two i
  unfolding colours_before
  second_before i =
      sum_append 0 n i (count_at (one ++ two))
      ∙ (λ j. first_before n (omega arith) j + later j)
    where
      later : sum_from (0 + n) i (count_at (one ++ two)) ≡ sum_from 0 i (count_at two)
      later =
          ap (λ (k : ℕ). sum_from k i (count_at (one ++ two))) (zero-add n ∙ sym (add-zero n))
          ∙ sum_shift n 0 i (count_at (one ++ two))
          ∙ sum_same 0 i (λ k. count_at (one ++ two) (n + k)) (count_at two) (λ k a b. second_count k)

  -- ---- the entries
  first_entry : (i : ℕ) → i < n → entry_of (joined r s) i ≡ entry_of r i
  unfolding joined entry_at
  first_entry i h =
      λ j. record {
        kind = first_kind i h j;
        interval = first_interval i h j;
        colours = colours j;
        weights = weights j;
      }
    where
      before : colours_before (one ++ two) i ≡ colours_before one i
      before = first_before i (omega arith)

      colours : take (3 * count_at (one ++ two) i) (drop (3 * colours_before (one ++ two) i) (r.colours ++ s.colours))
          ≡ take (3 * count_at one i) (drop (3 * colours_before one i) r.colours)
      colours =
          (λ j. take (3 * first_count i h j) (drop (3 * before j) (r.colours ++ s.colours)))
          ∙ part_first r.colours s.colours (3 * colours_before one i) (3 * count_at one i)
          (omega (arith, within r first_fits i h, first_fits.bytes))

      weights : take (count_at (one ++ two) i) (drop (colours_before (one ++ two) i) (r.weights ++ s.weights))
          ≡ take (count_at one i) (drop (colours_before one i) r.weights)
      weights =
          (λ j. take (first_count i h j) (drop (before j) (r.weights ++ s.weights)))
          ∙ part_first r.weights s.weights (colours_before one i) (count_at one i)
          (omega (arith, within r first_fits i h, first_fits.pairs))

  second_entry : (i : ℕ) → entry_of (joined r s) (n + i) ≡ entry_of s i
  unfolding joined entry_at
  second_entry i =
      λ j. record {
        kind = second_kind i j;
        interval = second_interval i j;
        colours =
            (ap (λ (k : ℕ). take (3 * k) (drop (3 * colours_before (one ++ two) (n + i)) (r.colours ++ s.colours)))
            (second_count i)
            ∙ part_second r.colours s.colours (3 * colours_before two i) (3 * count_at two i)
            (3 * colours_before (one ++ two) (n + i))
            (omega (arith, second_before i, first_fits.bytes))) j;
        weights =
            (ap (λ (k : ℕ). take k (drop (colours_before (one ++ two) (n + i)) (r.weights ++ s.weights)))
            (second_count i)
            ∙ part_second r.weights s.weights (colours_before two i) (count_at two i)
            (colours_before (one ++ two) (n + i))
            (omega (arith, second_before i, first_fits.pairs))) j;
      }

  pub entries_are : entries_of (joined r s).entries (joined r s).colours (joined r s).weights
      ≡ entries_of r.entries r.colours r.weights ++ entries_of s.entries s.colours s.weights
  unfolding joined entries_of
  entries_are =
      ap (λ (k : ℕ). list_from 0 k (entry_of (joined r s))) entries_joined
      ∙ list_append 0 n (entries_in two) (entry_of (joined r s))
      ∙ (λ j.
      list_same 0 n (entry_of (joined r s)) (entry_of r) (λ k a b. first_entry k (omega arith)) j
      ++ later j)
    where
      later : list_from (0 + n) (entries_in two) (entry_of (joined r s)) ≡ list_from 0 (entries_in two) (entry_of s)
      later =
          ap (λ (k : ℕ). list_from k (entries_in two) (entry_of (joined r s))) (zero-add n ∙ sym (add-zero n))
          ∙ list_shift n 0 (entries_in two) (entry_of (joined r s))
          ∙ list_same 0 (entries_in two) (λ k. entry_of (joined r s) (n + k)) (entry_of s) (λ k a b. second_entry k)

  -- ---- the whole fits exactly where the second part does
  second_is : (i : ℕ) → is_entry (one ++ two) (n + i) ≡ is_entry two i
  unfolding is_entry
  second_is i =
      λ j. (eqb (second_kind i j) 0 && eqb (second_count i j) 0) || eqb (second_kind i j) 1

  first_is : (i : ℕ) → i < n → is_entry (one ++ two) i ≡ is_entry one i
  unfolding is_entry
  first_is i h =
      λ j. (eqb (first_kind i h j) 0 && eqb (first_count i h j) 0) || eqb (first_kind i h j) 1

  all_before : colours_before (one ++ two) (entries_in (one ++ two))
      ≡ colours_before one n + colours_before two (entries_in two)
  all_before = ap (colours_before (one ++ two)) entries_joined ∙ second_before (entries_in two)

  pub second_fits : lent_fits (joined r s) ≡ true → lent_fits s ≡ true
  unfolding joined
  second_fits whole =
      let f = fits_says (joined r s) whole in
      fits_by s
      (record {
        threes = omega (arith, f.threes, length-append one two, three);
        each = λ i h. sym (second_is i) ∙ f.each (n + i) (omega (arith, h, entries_joined));
        bytes = omega (arith, f.bytes, length-append r.colours s.colours, first_fits.bytes, all_before);
        pairs = omega (arith, f.pairs, length-append r.weights s.weights, first_fits.pairs, all_before);
        room = omega (arith, f.room, length-append r.answers s.answers, part.bytes, entries_joined);
      })

  pub joined_fits : lent_fits s ≡ true → lent_fits (joined r s) ≡ true
  unfolding joined
  joined_fits second =
      let f = fits_says s second in
      fits_by (joined r s)
      (record {
        threes = omega (arith, f.threes, length-append one two, three);
        each = λ i h. go f i h (dec_le n i);
        bytes = omega (arith, f.bytes, length-append r.colours s.colours, first_fits.bytes, all_before);
        pairs = omega (arith, f.pairs, length-append r.weights s.weights, first_fits.pairs, all_before);
        room = omega (arith, f.room, length-append r.answers s.answers, part.bytes, entries_joined);
      })
    where
      go : AllFits s → (i : ℕ) → i < entries_in (one ++ two) → Dec (n ≤ i) → is_entry (one ++ two) i ≡ true
      go f i h (yes l) =
          let there : i ≡ n + (i - n) = omega arith in
          ap (is_entry (one ++ two)) there
          ∙ second_is (i - n)
          ∙ f.each (i - n) (omega (arith, h, entries_joined, l))
      go f i h (no l) = first_is i (lt_of_not-le l) ∙ first_fits.each i (lt_of_not-le l)
