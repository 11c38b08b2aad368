-- Doubling (Rules, Doubling): a cut of a sound table whose numbers are all multiplied by a power of two. In either
-- layout, and with either source of sums.
-- Assumes nothing.
use Rattle.std.specs.Prelude.{Some}
use mathlib.Core.Path.{◌≡◌, refl, sym, ap, ap₂, subst, ◌∙◌}
use mathlib.Core.Bool.{Bool, true, false, not, ◌&&◌, cond}
use mathlib.Core.List.{List, [], ◌∷◌, map, ◌++◌, map-append}
use Prim.Native.Nat.{ℕ, zero, suc, ◌+◌, ◌*◌, ◌/◌, ◌%◌, ◌^◌, ◌≤◌, ◌<◌}
use native.Mathlib.Nat.{one-mul, zero-mul, le_trans}
use native.Mathlib.Omega.{arith}
use borrow.Author.Tests.{ltb-true}
use lib.Dec.{eqb, leb, ltb, lit<, lit≤}
use lib.IntN.{pos, negsuc}
use lib.ListN.{length, get_or, take, drop, replicate, length-map, get_or-map}
use lib.Seq.{length-take-le, take-append_seam, drop-append_seam}
use lib.Ieee.{inf, fin}
use Rattle.basics.specs.Answer.{refuse}
use Rattle.basics.specs.Range.{list_from}
use Rattle.basics.proofs.Range.{length_list, tests_same}
use Rattle.basics.proofs.Lists.{map_list}
use Rattle.grid.specs.declared.place.Grid.{Grid}
use Rattle.grid.specs.Grid.{grid_of, on_grid, number_on, Accepted, bins_of, colour_place}
use Rattle.table.specs.Layouts.{Layout}
use Rattle.table.specs.Layouts.{Wide, Narrow}
use Rattle.table.specs.Cell.{View}
use Rattle.table.specs.Narrow.{NarrowTable, narrow_view}
use Rattle.table.specs.Layout.{TableIn, SizedIn, is_sized_in, view_in, written_in}
use Rattle.table.proofs.Tables.{view_at}
use Rattle.table.proofs.NarrowTables.{narrow_view_at}
use Rattle.table.proofs.Layouts.{sized_in, in_sized, HoldsIn, list_holds_in, holds_list_in, holds_same_in}
use Rattle.table.specs.Sound.{limit, limit_of, sound, total, unsound_number}
use Rattle.table.proofs.Soundness.{Sound, sound_in, limit_high}
use Rattle.boxes.specs.declared.sides.Bounds.{Bounds}
use Rattle.boxes.specs.Box.{no_box}
use Rattle.bins.specs.Sum.{box_sum}
use Rattle.spread.specs.Spread.{zero_of}
use Rattle.sums.specs.declared.source.Source.{Source}
use Rattle.sums.specs.declared.source.Source.TheVariants.{Moments}
use Rattle.sums.specs.Moments.{moments_of}
use Rattle.heap.specs.Heap.{item}
use Rattle.heap.specs.Boxes.{BoxSpread}
use Rattle.rounds.specs.declared.gather.Boxes.{Boxes}
use Rattle.rounds.specs.Loop.{no_item, with_zero, places_of, heap_of, boxes_of}
use Rattle.rounds.proofs.Filled.{Each, heap_in_use}
use Rattle.cutter.specs.Fronts.{join_all, filled}
use Rattle.cutter.specs.Palette.{mean_of, colour_of, count_of, remainder_of, bytes_of, its_colour, its_count, its_remainders}
use Rattle.cutter.specs.Palette.{palette_later, counts_later, remainders_later}
use Rattle.cutter.specs.Map.{map_of}
use Rattle.cutter.specs.Cut.{BuffersIn, lengths_of, long_enough, cut_number_on, cut_number_in, refused_record}
use Rattle.cutter.specs.Cut.{done_record, list_of, box_list, results_on, work_later, later_on, cut_later_in}
use Rattle.cutter.proofs.Fronts.{length_joined}
use Rattle.cutter.proofs.Laws.{cut_refuses, cut_says}
use Rattle.doubling.specs.Grow.{doubled, times_power, grow, grow_box, grow_room, grow_heap}
use Rattle.doubling.proofs.Cut.{box_doubled, empty_doubled}
use Rattle.doubling.proofs.Loop.{item_grow, heap_doubled}
use Rattle.doubling.proofs.Spreads.{Grows, times_zero, times_infinity, heap_grows}
use Rattle.doubling.proofs.Tables.{total_doubled, moments_doubled, sound_doubled, power_few, mean_doubled}
use Rattle.doubling.proofs.Tables.{remainder_doubled}
use Rattle.promises.specs.Cases.{black_white_table}
use Rattle.promises.specs.Half.{grid2}
use Rattle.promises.specs.Doubling.{times_all, doubled_in, CanDouble, doubled_place, doubled_record, doubled_front}
use Rattle.promises.specs.Doubling.{Doubles}
use Rattle.promises.proofs.Worked.{grid2_accepted, p1_worked}

map_replicate : {A B : Type 0} (f : A → B) (n : ℕ) (x : A) → replicate n (f x) ≡ map f (replicate n x)
map_replicate f zero x = refl
map_replicate {B = B} f (suc n) x = ap (λ (l : List B). f x ∷ l) (map_replicate f n x)

-- ---- the table
module _ (e : ℕ) where
  times_at : (xs : List ℕ) (n : ℕ) → get_or (times_all e xs) n 0 ≡ get_or xs n 0 * 2 ^ e
  unfolding times_all
  times_at xs n =
      ap (get_or (map (λ m. m * 2 ^ e) xs) n) (sym (zero-mul (2 ^ e))) ∙ get_or-map (λ m. m * 2 ^ e) xs n 0

  times_long : (xs : List ℕ) → length (times_all e xs) ≡ length xs
  unfolding times_all
  times_long xs = length-map xs (λ m. m * 2 ^ e)

  -- what it holds, and its lengths
  narrow_view_lem : (t : NarrowTable) (p j : ℕ) → narrow_view (doubled_in Narrow e t) p j ≡ narrow_view t p j * 2 ^ e
  narrow_view_lem t p j =
      let n = 5 * p + j in
      narrow_view_at (doubled_in Narrow e t) p j
      ∙ (λ i. cond (ltb (n % 5) 4) (times_at t.sums (4 * (n / 5) + n % 5) i) (times_at t.squares (n / 5) i))
      ∙ go (ltb (n % 5) 4) (get_or t.sums (4 * (n / 5) + n % 5) 0) (get_or t.squares (n / 5) 0)
      ∙ ap (λ (m : ℕ). m * 2 ^ e) (sym (narrow_view_at t p j))
    where
      go : (b : Bool) (x y : ℕ) → cond b (x * 2 ^ e) (y * 2 ^ e) ≡ cond b x y * 2 ^ e
      go true x y = refl
      go false x y = refl

  pub view_doubled : (l : Layout) (t : TableIn l) → view_in l (doubled_in l e t) ≡ doubled e (view_in l t)
  unfolding doubled
  view_doubled Wide t =
      λ i p j. (view_at (times_all e t) p j ∙ times_at t (5 * p + j)
      ∙ ap (λ (n : ℕ). n * 2 ^ e) (sym (view_at t p j))) i
  view_doubled Narrow t = λ i p j. narrow_view_lem t p j i

  pub doubled_lent : (l : Layout) (t : TableIn l) (n : ℕ) → SizedIn l t n → SizedIn l (doubled_in l e t) n
  doubled_lent Wide t n s = record { numbers = times_long t ∙ s.numbers }
  doubled_lent Narrow t n s =
      record { sums = times_long t.sums ∙ s.sums; squares = times_long t.squares ∙ s.squares }

  lent_doubled : (l : Layout) (t : TableIn l) (n : ℕ) → SizedIn l (doubled_in l e t) n → SizedIn l t n
  lent_doubled Wide t n s = record { numbers = sym (times_long t) ∙ s.numbers }
  lent_doubled Narrow t n s =
      record { sums = sym (times_long t.sums) ∙ s.sums; squares = sym (times_long t.squares) ∙ s.squares }

  sized_doubled : (l : Layout) (t : TableIn l) (n : ℕ) → is_sized_in l (doubled_in l e t) n ≡ is_sized_in l t n
  sized_doubled l t n =
      tests_same _ _ (λ q. in_sized l t n (lent_doubled l t n (sized_in l (doubled_in l e t) n q)))
      (λ q. in_sized l (doubled_in l e t) n (doubled_lent l t n (sized_in l t n q)))

  doubled_holds : (l : Layout) (t : TableIn l) (n : ℕ) → SizedIn l t n
      → HoldsIn l n (doubled_in l e t) (λ p j. view_in l t p j * 2 ^ e)
  unfolding doubled
  doubled_holds l t n s =
      record { lent = doubled_lent l t n s; at = λ p j h k i. view_doubled l t i p j }

-- the moments, written out
module _ (e : ℕ) (l : Layout) (g : Grid) (v : View) where
  moments_written : written_in l (bins_of g) (moments_of g (doubled e v))
      ≡ doubled_in l e (written_in l (bins_of g) (moments_of g v))
  moments_written =
      let w = written_in l (bins_of g) (moments_of g v) in
      let h = list_holds_in l (bins_of g) (moments_of g v) in
      sym (holds_list_in l (holds_same_in (doubled_holds e l w (bins_of g) h.lent)
      (λ p j a c. ap (λ (n : ℕ). n * 2 ^ e) (h.at p j a c) ∙ sym (moments_doubled e g v p j))))

  work_doubled : (source : Source) (old : TableIn l) → source ≡ Moments
      → work_later source l g (doubled e v) old ≡ doubled_in l e (work_later source l g v old)
  work_doubled source old m =
      subst (λ (s : Source). work_later s l g (doubled e v) old ≡ doubled_in l e (work_later s l g v old)) (sym m)
      moments_written

-- ---- palette, counts and remainders of the same boxes
module _ (e : ℕ) (g : Grid) (v : View) where
  mean_same : (x : Bounds) (j : ℕ) → (mean_of (box_sum g (doubled e v) x j) (box_sum g (doubled e v) x 0)).quotient
      ≡ (mean_of (box_sum g v x j) (box_sum g v x 0)).quotient
  unfolding mean_of
  mean_same x j =
      ap₂ (λ (a b : ℕ). a / b) (box_doubled e g v x j) (box_doubled e g v x 0)
      ∙ mean_doubled (box_sum g v x j) (box_sum g v x 0) e

  colour_same : (x : Bounds) → its_colour g (doubled e v) x ≡ its_colour g v x
  unfolding its_colour colour_of bytes_of
  colour_same x = λ i. mean_same x 1 i ∷ mean_same x 2 i ∷ mean_same x 3 i ∷ []

  remainder_times : (x : Bounds) (j : ℕ) → remainder_of g (doubled e v) x j ≡ remainder_of g v x j * 2 ^ e
  unfolding remainder_of mean_of
  remainder_times x j =
      ap₂ (λ (a b : ℕ). a % b) (box_doubled e g v x j) (box_doubled e g v x 0)
      ∙ remainder_doubled (box_sum g v x j) (box_sum g v x 0) e

  -- what a box gives, multiplied
  count_times : (x : Bounds) → its_count g (doubled e v) x ≡ times_all e (its_count g v x)
  unfolding its_count count_of times_all
  count_times x = λ i. box_doubled e g v x 0 i ∷ []

  three_times : (x : Bounds) → its_remainders g (doubled e v) x ≡ times_all e (its_remainders g v x)
  unfolding its_remainders times_all
  three_times x = λ i. remainder_times x 1 i ∷ remainder_times x 2 i ∷ remainder_times x 3 i ∷ []

-- a front that is filled with multiplied numbers: one law over the width of an item
module _ (e w : ℕ) (f h : Bounds → List ℕ) (many : (x : Bounds) → h x ≡ times_all e (f x))
    (each : (x : Bounds) → length (f x) ≡ w) where
  joined_times : (xs : List Bounds) → join_all h xs ≡ times_all e (join_all f xs)
  unfolding join_all times_all
  joined_times [] = refl
  joined_times (x ∷ xs) = (λ i. many x i ++ joined_times xs i) ∙ sym (map-append (λ n. n * 2 ^ e) (f x) (join_all f xs))

  front_times : (xs : List Bounds) (n : ℕ) → length xs ≡ n → (old : List ℕ)
      → filled w h xs old ≡ doubled_front e (w * n) (filled w f xs old)
  unfolding filled doubled_front
  front_times xs n long old =
      let front = join_all f xs in
      let back = drop (w * length xs) old in
      let same : length front ≡ w * n = length_joined w f each xs ∙ ap (λ (m : ℕ). w * m) long in
      (λ i. joined_times xs i ++ back)
      ∙ sym (λ i. times_all e (take-append_seam front back i) ++ drop-append_seam front back i)
      ∙ (λ i. times_all e (take (same i) (front ++ back)) ++ drop (same i) (front ++ back))

-- ---- the boxes
module _ (e : ℕ) (few : e ≤ 31) where
  place_grown : (x : BoxSpread) → times_power e x.spread ≡ grow e x.spread → grow_box e x ≡ doubled_place e x
  unfolding grow_box doubled_place
  place_grown x q = λ i. record { bounds = x.bounds; spread = sym q i }

  place_empty : with_zero no_box ≡ doubled_place e (with_zero no_box)
  unfolding doubled_place
  place_empty = λ i. record { bounds = no_box; spread = sym (times_zero e (omega arith)) i }

  module _ {g : Grid} {v : View} where
    place_doubled : (h : List BoxSpread) (n : ℕ) → Each (Grows g v e) h n → (p : ℕ)
        → cond (ltb p n) (item no_item (grow_room e h) p) (with_zero no_box)
        ≡ doubled_place e (cond (ltb p n) (item no_item h p) (with_zero no_box))
    place_doubled h n each p = go (ltb p n) refl
      where
        go : (b : Bool) → ltb p n ≡ b
            → cond b (item no_item (grow_room e h) p) (with_zero no_box)
            ≡ doubled_place e (cond b (item no_item h p) (with_zero no_box))
        go true q = item_grow e h p ∙ place_grown (item no_item h p) (each.each p (ltb-true p n q)).product
        go false q = place_empty

    places_doubled : (h : List BoxSpread) (n : ℕ) → Each (Grows g v e) h n
        → places_of (grow_room e h) n ≡ map (doubled_place e) (places_of h n)
    unfolding places_of
    places_doubled h n each =
        (λ i. list_from 0 256 (λ p. place_doubled h n each p i))
        ∙ sym (map_list (doubled_place e) 0 256 (λ p. cond (ltb p n) (item no_item h p) (with_zero no_box)))

abbrev doubled_boxes : ℕ → Boxes → Boxes
doubled_boxes e b = record { boxes = b.boxes; rounds = b.rounds; places = map (doubled_place e) b.places }

list_times : (e n : ℕ) (places : List BoxSpread) → list_of n (map (doubled_place e) places) ≡ list_of n places
unfolding list_of doubled_place
list_times e zero places = refl
list_times e (suc n) [] = refl
list_times e (suc n) (x ∷ places) = ap (λ (l : List Bounds). x.bounds ∷ l) (list_times e n places)

module _ {g : Grid} {v : View} (s : Sound limit g v) (a : Accepted g) (some : 0 < total g v) (e : ℕ) (few : e ≤ 31)
    (k : ℕ) (most : k ≤ 256) where
  boxes_doubled : boxes_of g (doubled e v) k ≡ doubled_boxes e (boxes_of g v k)
  unfolding boxes_of grow_heap
  boxes_doubled =
      let grown = heap_doubled s e (omega (arith, few)) a some k most in
      let h = heap_of g v k in
      (λ i. record {
        boxes = (grown i).boxes;
        rounds = (grown i).rounds;
        places = places_of (grown i).room (grown i).boxes;
      })
      ∙ (λ i. record {
        boxes = h.boxes;
        rounds = h.rounds;
        places = places_doubled e few h.room h.boxes (heap_grows s e few a some k most) i;
      })

  list_same : box_list g (doubled e v) k ≡ box_list g v k
  unfolding box_list
  list_same =
      ap (λ (b : Boxes). list_of b.boxes b.places) boxes_doubled
      ∙ list_times e (boxes_of g v k).boxes (boxes_of g v k).places

-- as many boxes stand in the list as the record says
list_long : (g : Grid) (v : View) (k : ℕ) → k ≤ 256 → length (box_list g v k) ≡ (boxes_of g v k).boxes
unfolding box_list list_of boxes_of places_of
list_long g v k most =
    let h = heap_of g v k in
    let places = places_of h.room h.boxes in
    length-map (take h.boxes places) (λ x. x.bounds)
    ∙ length-take-le h.boxes places (omega (
      arith,
      (heap_in_use g v k most).most,
      length_list 0 256 (λ p. cond (ltb p h.boxes) (item no_item h.room p) (with_zero no_box)),
    ))

-- ---- the law
module _ (l : Layout) (b1 b2 b3 : ℕ) {g : Grid} (grid : grid_of b1 b2 b3 ≡ Some g) (t : TableIn l) (e : ℕ)
    (can : CanDouble l g t e) where
  abbrev v : View
  v = view_in l t

  few : e ≤ 31
  few = power_few e (total g v) can.some (le_trans can.fits (limit_high l))

  -- "The multiplied table is sound", and its total is multiplied
  pub doubled_sound : sound (limit_of l) g (view_in l (doubled_in l e t)) ≡ true
  doubled_sound =
      ap (sound (limit_of l) g) (view_doubled e l t)
      ∙ (sound_doubled e (record { holds = can.is_sound }) can.fits).holds

  pub doubled_total : total g (view_in l (doubled_in l e t)) ≡ total g (view_in l t) * 2 ^ e
  doubled_total = ap (total g) (view_doubled e l t) ∙ total_doubled e g v

  -- infinity at k = 1 and 0.0 stay
  pub infinity_stays : times_power e (inf false) ≡ inf false
  infinity_stays = times_infinity e (omega (arith, few))

  pub zero_stays : times_power e zero_of ≡ zero_of
  zero_stays = times_zero e (omega (arith, few))

  same_empty : eqb (total g (view_in l (doubled_in l e t))) 0 ≡ eqb (total g v) 0
  same_empty = ap (λ (n : ℕ). eqb n 0) doubled_total ∙ empty_doubled e (total g v)

  module _ (source : Source) (k : ℕ) (b : BuffersIn l) where
    number_same : cut_number_in l source b1 b2 b3 k (doubled_in l e t) b ≡ cut_number_in l source b1 b2 b3 k t b
    unfolding cut_number_in number_on on_grid cut_number_on
    number_same =
        rw grid (λ i. refuse (not (leb 1 k && leb k 256)) 2
        (refuse (not (long_enough source g k (sized_doubled e l t (bins_of g) i) (lengths_of l g b))) 5
        (refuse (not ((doubled_sound ∙ sym can.is_sound) i)) unsound_number (refuse (same_empty i) 8 0))))

    done : cut_number_in l source b1 b2 b3 k t b ≡ 0 → Doubles l source g b1 b2 b3 k t b e
    unfolding later_on results_on done_record doubled_record palette_later counts_later remainders_later its_count its_remainders
    done n =
        let d = cut_says l source b1 b2 b3 k t b grid n in
        let d' = cut_says l source b1 b2 b3 k (doubled_in l e t) b grid (number_same ∙ n) in
        let most = d.can.most in
        let s = sound_in l {g = g} {v = v} (record { holds = can.is_sound }) in
        let xs = box_list g v k in
        let boxes = (boxes_of g v k).boxes in
        let view = view_doubled e l t in
        let same : box_list g (view_in l (doubled_in l e t)) k ≡ xs =
        ap (λ (u : View). box_list g u k) view ∙ list_same s d.accepted can.some e few k most in
        let same_map : (cut_later_in l source b1 b2 b3 k (doubled_in l e t) b).results.map
        ≡ (cut_later_in l source b1 b2 b3 k t b).results.map =
        ap (λ (x : BuffersIn l). x.results.map) d'.leaves ∙ ap (map_of g) same
        ∙ ap (λ (x : BuffersIn l). x.results.map) (sym d.leaves) in
        record {
          hands = d'.hands
              ∙ ap (λ (u : View). done_record (boxes_of g u k)) view
              ∙ ap done_record (boxes_doubled s d.accepted can.some e few k most)
              ∙ ap (doubled_record e) (sym d.hands);
          palette = ap (λ (x : BuffersIn l). x.results.palette) d'.leaves
              ∙ (λ i. filled 3 (its_colour g (view i)) (same i) b.results.palette)
              ∙ (λ i. filled 3 (λ x. colour_same e g v x i) xs b.results.palette)
              ∙ ap (λ (x : BuffersIn l). x.results.palette) (sym d.leaves);
          counts = ap (λ (x : BuffersIn l). x.results.counts) d'.leaves
              ∙ (λ i. filled 1 (its_count g (view i)) (same i) b.results.counts)
              ∙ front_times e 1 (its_count g v) (its_count g (doubled e v)) (count_times e g v) (λ x. refl) xs boxes
              (list_long g v k most) b.results.counts
              ∙ ap (λ (m : ℕ). doubled_front e m (filled 1 (its_count g v) xs b.results.counts)) (one-mul boxes)
              ∙ (λ i. doubled_front e (sym d.hands i).boxes (sym d.leaves i).results.counts);
          remainders = ap (λ (x : BuffersIn l). x.results.remainders) d'.leaves
              ∙ (λ i. filled 3 (its_remainders g (view i)) (same i) b.results.remainders)
              ∙ front_times e 3 (its_remainders g v) (its_remainders g (doubled e v)) (three_times e g v) (λ x. refl) xs
              boxes (list_long g v k most) b.results.remainders
              ∙ (λ i. doubled_front e (3 * (sym d.hands i).boxes) (sym d.leaves i).results.remainders);
          map = same_map;
          pixel = λ c. ap (λ (m : List ℕ). get_or m (colour_place g c) 0) same_map;
          work = λ m z. ap (λ (x : BuffersIn l). x.work) d'.leaves
              ∙ ap (λ (u : View). work_later source l g u b.work) view
              ∙ work_doubled e l g v source b.work m
              ∙ ap (λ (x : BuffersIn l). doubled_in l e x.work) (sym d.leaves);
        }

    -- a refusal has no boxes, and changes nothing
    refused : {n : ℕ} → cut_number_in l source b1 b2 b3 k t b ≡ suc n → Doubles l source g b1 b2 b3 k t b e
    unfolding refused_record doubled_record doubled_front times_all
    refused {n} q =
        let r = cut_refuses l source b1 b2 b3 k t b q in
        let r' = cut_refuses l source b1 b2 b3 k (doubled_in l e t) b (number_same ∙ q) in
        let same = r'.1 ∙ sym r.1 in
        record {
          hands = r'.0
              ∙ (λ i. record { number = suc n; boxes = 0; rounds = 0; places = replicate 256 (place_empty e few i) })
              ∙ (λ i. record {
                number = suc n;
                boxes = 0;
                rounds = 0;
                places = map_replicate (doubled_place e) 256 (with_zero no_box) i;
              })
              ∙ ap (doubled_record e) (sym r.0);
          palette = ap (λ (x : BuffersIn l). x.results.palette) same;
          counts = ap (λ (x : BuffersIn l). x.results.counts) same
              ∙ (λ i. doubled_front e (sym r.0 i).boxes (cut_later_in l source b1 b2 b3 k t b).results.counts);
          remainders = ap (λ (x : BuffersIn l). x.results.remainders) same
              ∙ (λ i. doubled_front e (3 * (sym r.0 i).boxes)
              (cut_later_in l source b1 b2 b3 k t b).results.remainders);
          map = ap (λ (x : BuffersIn l). x.results.map) same;
          pixel = λ c. ap (λ (x : BuffersIn l). get_or x.results.map (colour_place g c) 0) same;
          work = λ m z. absurd (omega (arith, q, z));
        }

    pub cut_doubles : Doubles l source g b1 b2 b3 k t b e
    cut_doubles = go (cut_number_in l source b1 b2 b3 k t b) refl
      where
        go : (n : ℕ) → cut_number_in l source b1 b2 b3 k t b ≡ n → Doubles l source g b1 b2 b3 k t b e
        go zero q = done q
        go (suc n) q = refused q

-- ---- a worked example
-- P1's table of total 4 can be multiplied by 2 ^ 29, and so every cut of it doubles
p1_can_double : CanDouble Wide grid2 black_white_table 29
p1_can_double =
    record {
      is_sound = p1_worked.0;
      some = subst (λ (n : ℕ). 0 < n) (sym p1_worked.1) (lit< tt);
      fits = subst (λ (n : ℕ). n * 2 ^ 29 ≤ limit) (sym p1_worked.1) (lit≤ tt);
    }

pub p1_doubles : (source : Source) (k : ℕ) (b : BuffersIn Wide) → Doubles Wide source grid2 2 2 2 k black_white_table b 29
p1_doubles source k b = cut_doubles Wide 2 2 2 grid2_accepted black_white_table 29 p1_can_double source k b

-- the words of the law, at numbers: the first two of three counts, and a spread of 2.5, times 8
pub front_worked : doubled_front 3 2 (1 ∷ 3 ∷ 9 ∷ []) ≡ 8 ∷ 24 ∷ 9 ∷ []
unfolding doubled_front times_all
front_worked = refl

pub spread_worked : times_power 3 (fin false 5 (negsuc 0)) ≡ fin false 5 (pos 2)
unfolding times_power lib.Ieee.of_int lib.Ieee.mul lib.Ieee.round lib.Ieee.size lib.Ieee.span lib.Ieee.climb
    lib.Ieee.units lib.Ieee.odd lib.Count.count_trailing_zeros
spread_worked = refl
