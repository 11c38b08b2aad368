-- The listing program (Rules, Listing): its example, that a refusal is all that is written, and that the batches in
-- which its input comes are no matter.
-- Assumes nothing.
use Rattle.std.specs.Prelude.{Some}
use mathlib.Core.Path.{◌≡◌, refl, sym, ap, ◌∙◌}
use mathlib.Core.Bool.{true, false, cond, true≢false}
use mathlib.Core.List.{List, [], ◌∷◌, ◌++◌, append_assoc, append-nil}
use Prim.Native.Nat.{ℕ, zero, suc, ◌+◌, ◌-◌, ◌*◌, ◌/◌, ◌%◌, ◌≤◌, ◌<◌}
use native.Mathlib.Nat.{lt_of_not-le}
use native.Mathlib.Decide.{dec_le, ℕ_discrete}
use native.Mathlib.Omega.{arith}
use borrow.Author.Tests.{lt-ltb, le-ltb, ltb-true}
use lib.Dec.{ltb, lit<, lit≤}
use lib.ListN.{length, get_or, replicate, length-replicate, length-append, get_or-append}
use lib.Pow.{are_bytes}
use lib.Seq.{get_or-append-add}
use Rattle.basics.specs.Answer.{when_done}
use Rattle.basics.specs.Range.{list_from, sum_from}
use Rattle.grid.specs.Size.{choices, shift_in, shift_of}
use Rattle.basics.specs.Dimension.{choose}
use Rattle.grid.specs.Grid.{grid_with, grid_of, on_grid, number_on, Accepted, bins_of, place_of}
use Rattle.basics.proofs.Range.{and_left, and_right}
use Rattle.grid.proofs.Places.{chose}
use Rattle.table.specs.Layouts.{Wide}
use Rattle.table.specs.Cell.{View}
use Rattle.table.specs.Table.{is_sized, view_of}
use Rattle.table.specs.Sound.{limit, total, sound}
use Rattle.table.proofs.Tables.{sized_test, empty_holds, view_at}
use Rattle.adder.specs.Batch.{Weighted, weight_of, batch_of}
use Rattle.loader.specs.Load.{table_of, load_number, load_later}
use Rattle.adder.proofs.Loading.{AllBytes}
use Rattle.adder.proofs.Parts.{batch_weight, all_bytes_of}
use Rattle.loader.proofs.Order.{bytes_append, weight_append, table_holds, table_total, table_sound, empty_table_lem}
use Rattle.loader.proofs.Batches.{batch_none, batch_append, load_stray, load_fits, load_passes}
use Rattle.boxes.specs.Box.{min_at, max_at, low_side, high_side}
use Rattle.bins.specs.Sum.{sum3, bin_sum, box_sum}
use Rattle.sums.specs.Box.{stats_of}
use Rattle.spread.specs.Spread.{zero_of, quotient_of, spread_of, score_of}
use Rattle.boxes.specs.Box.{one_bin}
use Rattle.spread.specs.Cut.{position_of, position_at, later_wins, better, best_run, best_in, best_cut}
use Rattle.heap.specs.Heap.{climb, put_in, sink, enter, take_out}
use Rattle.heap.specs.Boxes.{BoxSpread}
use Rattle.rounds.specs.declared.gather.Boxes.{Boxes}
use Rattle.rounds.specs.Loop.{with_spread, start_room, start, room_after, boxes_after, round_room, round_boxes}
use Rattle.rounds.specs.Loop.{round}
use Rattle.rounds.specs.Loop.{rounds, heap_of, places_of, boxes_of}
use Rattle.boxes.specs.Box.{whole_of}
use Rattle.sums.specs.declared.source.Source.TheVariants.{Moments}
use Rattle.cutter.specs.Fronts.{join_all, filled}
use Rattle.cutter.specs.Palette.{mean_of, colour_of, count_of, bytes_of, its_colour, its_count, palette_later, counts_later}
use Rattle.cutter.specs.Cut.{long_enough, results_on, lengths_of, cut_number, cut_number_in, cut_record, done_record, list_of, box_list}
use Rattle.cutter.specs.Cut.{later_on}
use Rattle.cutter.proofs.Refusals.{fit_moments, only_map, no_total}
use Rattle.cutter.proofs.Laws.{record_number, cut_says, cut_accepts}
use Rattle.lines.specs.Text.{digits_within, decimal_of, boxes_word, total_word, rounds_word, refused_word}
use Rattle.lines.specs.Text.{newline, named_of, head_of, field_of, line_of, lines_of, total_of, listing_of, refused_of}
use Rattle.lines.specs.Listing.{empty_table, part_number, part_later, lower_of, lent_zeros, cut_text, text_of}
use Rattle.lines.proofs.Texts.{lower_first, lower_second, lower_other, lower_same, text_refused, text_cut, cut_refused}
use Rattle.lines.specs.Reading.{Progress, after_batch, after_all, AllCame}
use Rattle.lines.proofs.Reading.{after_last}
use Rattle.promises.specs.Listing.{at_first, written_for, WholePixels, read_in, grid8, four_pixels, four_table}
use Rattle.promises.specs.Listing.{three_lines, refused3, refused8}
use Rattle.promises.proofs.Worked.{four_added}

-- ---- a load on the program's grid
is_grid8 : grid_of 8 8 8 ≡ Some grid8
unfolding choices shift_in shift_of grid_with grid_of
is_grid8 = refl

-- ---- one load of a whole input
pixels : (bytes : List ℕ) → weight_of (batch_of bytes false []) ≡ length bytes / 3
pixels bytes = batch_weight bytes false [] (λ e. absurd (true≢false (sym e)))

is_empty : empty_table ≡ table_of grid8 []
unfolding empty_table
is_empty = empty_table_lem 8 8 8 is_grid8

no_weight : weight_of [] ≡ 0
no_weight = ap weight_of (sym (batch_none [])) ∙ pixels []

module _ (bytes : List ℕ) where
  all_stray : (length bytes % 3 ≡ 0 → ⊥) → part_number empty_table bytes ≡ 3
  unfolding part_number
  all_stray n = ap (λ (t : List ℕ). load_number 8 8 8 t bytes false []) is_empty
      ∙ (load_stray 8 8 8 is_grid8 [] tt (omega (arith, no_weight)) bytes [] n).0

  module _ (whole : length bytes % 3 ≡ 0) where
    all_fit : length bytes / 3 ≤ limit
        → (part_number empty_table bytes ≡ 0) × (part_later empty_table bytes ≡ table_of grid8 (batch_of bytes false []))
    unfolding part_number part_later
    all_fit h =
        let l = load_fits 8 8 8 is_grid8 [] tt (omega (arith, no_weight)) bytes [] whole (omega (arith, no_weight)) in (
          ap (λ (t : List ℕ). load_number 8 8 8 t bytes false []) is_empty
              ∙ l.0,
          ap (λ (t : List ℕ). load_later 8 8 8 t bytes false []) is_empty ∙ l.1,
        )

    all_over : limit < length bytes / 3 → part_number empty_table bytes ≡ 7
    unfolding part_number
    all_over h = ap (λ (t : List ℕ). load_number 8 8 8 t bytes false []) is_empty
        ∙ (load_passes 8 8 8 is_grid8 [] tt (omega (arith, no_weight)) bytes [] whole (omega (arith, no_weight))).0

-- ---- the cut of what it leaves
module _ (bytes : List ℕ) (whole : length bytes % 3 ≡ 0) (few : length bytes / 3 ≤ limit) where
  abbrev left : List ℕ
  left = table_of grid8 (batch_of bytes false [])

  its_text : written_for (bytes ∷ []) ≡ cut_text left
  unfolding at_first after_batch after_all written_for
  its_text =
      let l = all_fit bytes whole few in
      (λ i. text_of (lower_of 0 (l.0 i)) (l.1 i)) ∙ text_cut (lower_of 0 0) left (sym (lower_first 0 0 refl))

  module _ (are : (k : ℕ) → get_or bytes k 0 < 256) where
    accepted : Accepted grid8
    accepted = (chose 8 8 8 grid8 is_grid8).accepted

    its_total : total grid8 (view_of left) ≡ length bytes / 3
    its_total = table_total grid8 accepted (batch_of bytes false []) (all_bytes_of bytes false [] are) ∙ pixels bytes

    its_sound : sound limit grid8 (view_of left) ≡ true
    its_sound =
        table_sound grid8 accepted (batch_of bytes false []) (all_bytes_of bytes false [] are)
        (omega (arith, pixels bytes))

    -- it is cut where there are any pixels, and refused with 8 where there are none
    cuts : 0 < length bytes / 3 → cut_number Moments 8 8 8 16 left lent_zeros ≡ 0
    unfolding lent_zeros bins_of
    cuts some =
        cut_accepts Wide Moments 8 8 8 16 left lent_zeros is_grid8
        (record {
          least = lit≤ tt;
          most = lit≤ tt;
          is_sound = its_sound;
          some = omega (arith, its_total);
        })
        (record {
          sized = sized_test (table_holds grid8 (batch_of bytes false [])).lent;
          work = fit_moments (sized_test (empty_holds (8 * 8 * 8)).lent);
          palette = lit≤ tt;
          counts = lit≤ tt;
          remainders = lit≤ tt;
          map = refl;
        })

    none_cut : length bytes / 3 ≡ 0 → cut_number Moments 8 8 8 16 left lent_zeros ≡ 8
    unfolding lent_zeros bins_of cut_number_in number_on on_grid
    none_cut nothing =
        let l = lengths_of Wide grid8 lent_zeros in
        rw is_grid8
        (no_total limit grid8 16 (long_enough Moments grid8 16 (is_sized left (8 * 8 * 8)) l) (view_of left) (lit≤ tt) (lit≤ tt)
        (only_map Moments grid8 16 (is_sized left (8 * 8 * 8)) l (sized_test (table_holds grid8 (batch_of bytes false [])).lent)
        (fit_moments (sized_test (empty_holds (8 * 8 * 8)).lent)) (lit≤ tt) (lit≤ tt) (lit≤ tt))
        its_sound
        (its_total ∙ nothing))

-- ---- the example, computed on a view that finds a number without going through the table
number : ℕ → ℕ
number zero = 1
number (suc i) = cond (ltb i 2554) 0 (get_or (3 ∷ 765 ∷ 765 ∷ 765 ∷ 585225 ∷ []) (i - 2554) 0)

view : View
view p j = number (5 * p + j)

-- so many zeros, and numbers behind them
abbrev noughts : ℕ → List ℕ
noughts n = replicate n 0

zero_at : (n i : ℕ) → get_or (noughts n) i 0 ≡ 0
zero_at zero i = refl
zero_at (suc n) zero = refl
zero_at (suc n) (suc i) = zero_at n i

behind : (n : ℕ) (l : List ℕ) (i : ℕ) → get_or (noughts n ++ l) i 0 ≡ cond (ltb i n) 0 (get_or l (i - n) 0)
behind n l i = go (dec_le n i)
  where
    size : length (noughts n) ≡ n
    size = length-replicate n _

    go : Dec (n ≤ i) → get_or (noughts n ++ l) i 0 ≡ cond (ltb i n) 0 (get_or l (i - n) 0)
    go (yes h) =
        let at : length (noughts n) + (i - n) ≡ i = omega (arith, size) in
        ap (λ (k : ℕ). get_or (noughts n ++ l) k 0) (sym at) ∙ get_or-append-add (noughts n) l (i - n) 0
        ∙ rw (le-ltb i n h) refl
    go (no h) =
        let below : i < n = lt_of_not-le h in
        get_or-append (noughts n) l 0 i (omega (arith, size)) ∙ zero_at n i ∙ rw (lt-ltb i n below) refl

at_number : (i : ℕ) → get_or four_table i 0 ≡ number i
unfolding four_table number
at_number zero = refl
at_number (suc i) = behind 2554 (3 ∷ 765 ∷ 765 ∷ 765 ∷ 585225 ∷ []) i

is_view : view_of four_table ≡ view
unfolding view
is_view = λ i p j. (view_at four_table p j ∙ at_number (5 * p + j)) i

abbrev planes : ℕ → ℕ → BoxSpread
planes from end = record { bounds = record { r0 = from; r1 = end; g0 = 0; g1 = 8; b0 = 0; b1 = 8 }; spread = zero_of }

-- white's box, then black's
abbrev two : Boxes
two = record {
  boxes = 2;
  rounds = 2;
  places =
      planes 1 8 ∷ planes 0 1
      ∷ replicate 254 (record { bounds = record { r0 = 0; r1 = 0; g0 = 0; g1 = 0; b0 = 0; b1 = 0 }; spread = zero_of });
}

are_two : boxes_of grid8 view 16 ≡ two
unfolding number view
    list_from sum_from choose place_of
    min_at max_at sum3 bin_sum box_sum stats_of low_side high_side
    quotient_of one_bin spread_of score_of position_of position_at later_wins better best_run best_in best_cut
    climb put_in sink enter take_out
    with_spread whole_of start_room start room_after boxes_after round_room round_boxes round rounds heap_of places_of
    boxes_of
    lib.Ieee.of_int lib.Ieee.mul lib.Ieee.add lib.Ieee.sub lib.Ieee.div lib.Ieee.neg lib.Ieee.lt lib.Ieee.le
    lib.Ieee.round lib.Ieee.size lib.Ieee.span lib.Ieee.climb lib.Ieee.units lib.Ieee.odd lib.Ieee.sum lib.Ieee.eq
    lib.Count.count_trailing_zeros
are_two = refl

-- the text of some boxes
abbrev listed : View → Boxes → List ℕ
listed v b =
    listing_of b.boxes b.rounds
    (palette_later grid8 v (list_of b.boxes b.places) (replicate 48 0))
    (counts_later grid8 v (list_of b.boxes b.places) (replicate 16 0))

lists_two : listed view two ≡ three_lines
unfolding number view three_lines sum_from place_of sum3 bin_sum box_sum
    list_of mean_of colour_of count_of bytes_of its_colour its_count join_all filled palette_later counts_later
    digits_within decimal_of boxes_word total_word rounds_word newline named_of head_of field_of line_of lines_of total_of listing_of
lists_two = refl

byte_at : (l : List ℕ) → are_bytes l ≡ true → (k : ℕ) → get_or l k 0 < 256
byte_at [] e k = lit< tt
byte_at (x ∷ xs) e zero = ltb-true x 256 (and_left (ltb x 256) (are_bytes xs) e)
byte_at (x ∷ xs) e (suc k) = byte_at xs (and_right (ltb x 256) (are_bytes xs) e) k

four_cut : cut_text four_table ≡ listed (view_of four_table) (boxes_of grid8 (view_of four_table) 16)
unfolding four_pixels cut_text when_done lent_zeros done_record later_on results_on box_list
four_cut =
    let number = ap (λ (t : List ℕ). cut_number Moments 8 8 8 16 t lent_zeros) (sym four_added)
    ∙ cuts four_pixels refl (lit≤ tt) (byte_at four_pixels refl) (lit< tt) in
    let d = cut_says Wide Moments 8 8 8 16 four_table lent_zeros is_grid8 number in
    rw (d.hands, d.leaves) refl

-- "For four pixels, one black and then three white, it writes exactly" its three lines
pub four_pixels_lem : written_for (four_pixels ∷ []) ≡ three_lines
unfolding four_pixels
four_pixels_lem =
    its_text four_pixels refl (lit≤ tt)
    ∙ ap cut_text four_added
    ∙ four_cut
    ∙ ap (λ (v : View). listed v (boxes_of grid8 v 16)) is_view
    ∙ ap (listed view) are_two
    ∙ lists_two

-- ---- refusals
not_both : {a m : ℕ} → a ≡ 0 → a ≡ suc m → ⊥
not_both z y = omega arith

-- "On a refusal it writes only `refused N`": the lowest refusal of the loads
pub only_refused : (batches : List (List ℕ)) {n : ℕ} → (after_all at_first batches).number ≡ suc n
    → written_for batches ≡ refused_of (suc n)
unfolding written_for
only_refused batches {n} e =
    let s = after_all at_first batches in
    text_refused s.number s.table (λ z. not_both z e) ∙ ap refused_of e

-- "no input gives 8"
pub no_input : written_for ([] ∷ []) ≡ refused8
unfolding refused8 refused_of named_of refused_word newline decimal_of digits_within
no_input =
    its_text [] refl (lit≤ tt) ∙ cut_refused nothing refl (λ z. not_both z is_8) ∙ ap refused_of is_8
  where
    nothing : List ℕ
    nothing = left [] refl (lit≤ tt)

    is_8 : (cut_record Moments 8 8 8 16 nothing lent_zeros).number ≡ 8
    is_8 = record_number Wide Moments 8 8 8 16 nothing lent_zeros ∙ none_cut [] refl (lit≤ tt) (λ k. lit< tt) refl

-- ---- "from standard input in batches"
-- where some bytes were read: the answer and, where it is 0, the table are those of one load of them all, and the table
-- is one of colours
record Reached (s : Progress) (seen : List ℕ) : Type 0 where
  number : s.number ≡ part_number empty_table seen
  table : s.number ≡ 0 → s.table ≡ part_later empty_table seen
  whole : AllBytes (batch_of seen false [])
  colours : List Weighted
  bytes : AllBytes colours
  few : weight_of colours ≤ limit
  holds : s.table ≡ table_of grid8 colours

-- the next batch
module _ (s : Progress) (seen : List ℕ) (r : Reached s seen) (whole : length seen % 3 ≡ 0) (batch : List ℕ)
    (are : (k : ℕ) → get_or batch k 0 < 256) where
  abbrev next : Progress
  next = after_batch s batch

  size : length (seen ++ batch) ≡ length seen + length batch
  size = length-append seen batch

  joined : batch_of (seen ++ batch) false [] ≡ batch_of seen false [] ++ batch_of batch false []
  joined = batch_append seen batch [] whole

  more : AllBytes (batch_of batch false [])
  more = all_bytes_of batch false [] are

  all : AllBytes (batch_of (seen ++ batch) false [])
  all = rw joined (bytes_append (batch_of seen false []) (batch_of batch false []) r.whole more)

  -- a load into a table, where it is that of now
  module _ {t : List ℕ} (is : s.table ≡ t) where
    loads : {n : ℕ} → load_number 8 8 8 t batch false [] ≡ n → next.number ≡ lower_of s.number n
    unfolding after_batch part_number
    loads e = ap (λ (u : List ℕ). lower_of s.number (load_number 8 8 8 u batch false [])) is
        ∙ ap (lower_of s.number) e

    leaves : {u : List ℕ} → load_later 8 8 8 t batch false [] ≡ u → next.table ≡ u
    unfolding after_batch part_later
    leaves e = ap (λ (u : List ℕ). load_later 8 8 8 u batch false []) is ∙ e

  -- a refusal with its answer, whatever colours are then in the table
  refusal : (n : ℕ) → next.number ≡ suc n → part_number empty_table (seen ++ batch) ≡ suc n → (cs : List Weighted)
      → AllBytes cs → weight_of cs ≤ limit → next.table ≡ table_of grid8 cs → Reached next (seen ++ batch)
  refusal n e f cs y h t =
      record {
        number = e
            ∙ sym f;
        table = λ z. absurd (not_both z e);
        whole = all;
        colours = cs;
        bytes = y;
        few = h;
        holds = t;
      }

  -- the table before, where all that was read fits
  was : length seen / 3 ≤ limit → (s.number ≡ 0) × (s.table ≡ table_of grid8 (batch_of seen false []))
  was h = let e = r.number ∙ (all_fit seen whole h).0 in (e, r.table e ∙ (all_fit seen whole h).1)

  was_7 : limit < length seen / 3 → s.number ≡ 7
  was_7 h = r.number ∙ all_over seen whole h

  stray : (length batch % 3 ≡ 0 → ⊥) → Reached next (seen ++ batch)
  stray n =
      let l = load_stray 8 8 8 is_grid8 r.colours r.bytes r.few batch [] n in
      refusal 2
      (loads r.holds l.0 ∙ sym (lower (dec_le (length seen / 3) limit)))
      (all_stray (seen ++ batch) (λ e. n (omega (arith, size))))
      r.colours r.bytes r.few (leaves r.holds l.1)
    where
      lower : Dec (length seen / 3 ≤ limit) → 3 ≡ lower_of s.number 3
      lower (yes h) = lower_first s.number 3 (was h).0
      lower (no h) = lower_other s.number 3 (λ z. omega arith) (omega (arith, was_7 (lt_of_not-le h)))

  module _ (in_threes : length batch % 3 ≡ 0) where
    both_whole : length (seen ++ batch) % 3 ≡ 0
    both_whole = omega (arith, size)

    fit : length seen / 3 + length batch / 3 ≤ limit → Reached next (seen ++ batch)
    fit h =
        let before = was (omega arith) in
        let l = load_fits 8 8 8 is_grid8 (batch_of seen false []) r.whole
        (omega (arith, pixels seen)) batch [] in_threes (omega (arith, pixels seen)) in
        let whole-load = all_fit (seen ++ batch) both_whole (omega (arith, size)) in
        let left : next.table ≡ table_of grid8 (batch_of (seen ++ batch) false []) = leaves before.1 l.1
        ∙ ap (table_of grid8) (sym joined) in
        record {
          number = loads before.1 l.0 ∙ sym (lower_second s.number 0 refl) ∙ before.0 ∙ sym whole-load.0;
          table = λ z. left ∙ sym whole-load.1;
          whole = all;
          colours = batch_of (seen ++ batch) false [];
          bytes = all;
          few = omega (arith, pixels (seen ++ batch), size);
          holds = left;
        }

    module _ (h : limit < length seen / 3 + length batch / 3) where
      over_all : part_number empty_table (seen ++ batch) ≡ 7
      over_all = all_over (seen ++ batch) both_whole (omega (arith, size))

      -- with this batch
      over_now : length seen / 3 ≤ limit → Reached next (seen ++ batch)
      over_now k =
          let before = was k in
          let l = load_passes 8 8 8 is_grid8 (batch_of seen false []) r.whole
          (omega (arith, pixels seen)) batch [] in_threes (omega (arith, pixels seen)) in
          refusal 6
          (loads before.1 l.0 ∙ sym (lower_first s.number 7 before.0))
          over_all
          (batch_of seen false []) r.whole (omega (arith, pixels seen)) (leaves before.1 l.1)

      -- or before it
      over_before : limit < length seen / 3 → Reached next (seen ++ batch)
      over_before k = go (dec_le (weight_of r.colours + length batch / 3) limit)
        where
          go : Dec (weight_of r.colours + length batch / 3 ≤ limit) → Reached next (seen ++ batch)
          go (yes f) =
              let l = load_fits 8 8 8 is_grid8 r.colours r.bytes r.few batch [] in_threes f in
              refusal 6
              (loads r.holds l.0 ∙ sym (lower_second s.number 0 refl) ∙ was_7 k)
              over_all
              (r.colours ++ batch_of batch false [])
              (bytes_append r.colours (batch_of batch false []) r.bytes more)
              (omega (arith, weight_append r.colours (batch_of batch false []), pixels batch))
              (leaves r.holds l.1)
          go (no f) =
              let l = load_passes 8 8 8 is_grid8 r.colours r.bytes r.few batch [] in_threes (lt_of_not-le f) in
              refusal 6
              (loads r.holds l.0
              ∙ sym (lower_same s.number 7 (λ z. not_both z (was_7 k)) (omega (arith, was_7 k))) ∙ was_7 k)
              over_all
              r.colours r.bytes r.few (leaves r.holds l.1)

  reaches : Reached next (seen ++ batch)
  reaches =
      go (ℕ_discrete (length batch % 3) 0) (dec_le (length seen / 3 + length batch / 3) limit)
      (dec_le (length seen / 3) limit)
    where
      go : Dec (length batch % 3 ≡ 0) → Dec (length seen / 3 + length batch / 3 ≤ limit) → Dec (length seen / 3 ≤ limit)
          → Reached next (seen ++ batch)
      go (no n) f k = stray n
      go (yes t) (yes f) k = fit t f
      go (yes t) (no f) (yes k) = over_now t (lt_of_not-le f) k
      go (yes t) (no f) (no k) = over_before t (lt_of_not-le f) (lt_of_not-le k)

reached_first : Reached at_first []
unfolding at_first
reached_first =
    let none = all_fit [] refl (lit≤ tt) in
    record {
      number = sym none.0;
      table = λ z. is_empty ∙ ap (table_of grid8) (sym (batch_none [])) ∙ sym none.1;
      whole = rw (batch_none []) tt;
      colours = [];
      bytes = tt;
      few = omega (arith, no_weight);
      holds = is_empty;
    }

reached_all : (s : Progress) (seen : List ℕ) → Reached s seen → length seen % 3 ≡ 0 → (batches : List (List ℕ))
    → WholePixels batches
    → Reached (after_all s batches) (seen ++ read_in batches) × (length (seen ++ read_in batches) % 3 ≡ 0)
unfolding after_all read_in
reached_all s seen r w [] y = rw (append-nil seen) (r, w)
reached_all s seen r w (b ∷ bs) y =
    rw (← append_assoc seen b (read_in bs))
    (reached_all (after_batch s b) (seen ++ b) (reaches s seen r w b y.1)
    (omega (arith, length-append seen b, w, y.0)) bs y.2)

same_text : (n m : ℕ) (t u : List ℕ) → n ≡ m → (n ≡ 0 → t ≡ u) → text_of n t ≡ text_of m u
same_text zero m t u e f = λ i. text_of (e i) (f refl i)
same_text (suc n) m t u e f = text_refused (suc n) t (λ z. not_both z refl) ∙ ap refused_of e
    ∙ sym (text_refused m u (λ z. not_both z (sym e)))

-- However an input is split into batches of whole pixels and a last one, the text is that for all of it at once.
pub any_batches : (batches : List (List ℕ)) (last : List ℕ) → WholePixels batches → ((k : ℕ) → get_or last k 0 < 256)
    → written_for (batches ++ last ∷ []) ≡ written_for ((read_in batches ++ last) ∷ [])
unfolding written_for after_all after_batch at_first lower_of
any_batches batches last w are =
    let before = reached_all at_first [] reached_first refl batches w in
    let r = reaches (after_all at_first batches) (read_in batches) before.0 before.1 last are in
    ap (λ (s : Progress). text_of s.number s.table) (after_last at_first batches last)
    ∙ same_text _ _ _ _ r.number r.table

-- and that is the text which the program's loop over its input leads to: in batches, of which only the last can split
-- a pixel
pub came_written : {s : Progress} (c : AllCame at_first s false)
    → text_of s.number s.table ≡ written_for (c.batches ++ c.last ∷ [])
unfolding written_for
came_written c = ap (λ (s : Progress). text_of s.number s.table) c.loaded

-- "stray bytes at the end give 3"
pub stray_bytes : (batches : List (List ℕ)) (last : List ℕ) → WholePixels batches → ((k : ℕ) → get_or last k 0 < 256)
    → (length last % 3 ≡ 0 → ⊥) → written_for (batches ++ last ∷ []) ≡ refused3
unfolding refused3 refused_of named_of refused_word newline decimal_of digits_within after_all after_batch at_first lower_of
stray_bytes batches last w are n =
    let before : length (read_in batches) % 3 ≡ 0 = (reached_all at_first [] reached_first refl batches w).1 in
    any_batches batches last w are
    ∙ only_refused ((read_in batches ++ last) ∷ [])
    (all_stray (read_in batches ++ last) (λ e. n (omega (arith, length-append (read_in batches) last, before))))
