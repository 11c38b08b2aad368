-- "The lowest answer from 1 to 9 that applies is given; where none applies, the answer is 0.": of every call, and what
-- it is given where none applies. And "A refusal writes nothing. A refused cut hands back its answer, zero boxes, zero
-- rounds and box places all zero."
-- Assumes nothing.
use Rattle.std.specs.Prelude.{None, Option, Some}
use Rattle.grid.specs.declared.place.Grid.{Grid}
use mathlib.Core.Path.{◌≡◌, refl, sym, ap, ◌∙◌}
use mathlib.Core.Logic.{◌↔◌, inl, inr}
use mathlib.Core.Bool.{Bool, true, false, not, ◌&&◌, ◌||◌}
use mathlib.Core.List.{List, [], ◌∷◌}
use Prim.Native.Nat.{ℕ, zero, suc, ◌+◌, ◌/◌, ◌%◌, ◌≤◌, ◌<◌}
use native.Mathlib.Nat.{eq-or-lt_of_le}
use native.Mathlib.Omega.{arith}
use borrow.Author.Tests.{eqb-true, eq-eqb, ne_eqb, leb-true, leb-false, le-leb, lt-leb, ltb-true, not-false}
use lib.Dec.{eqb, leb, ltb, lit<}
use lib.IntN.{ℤ}
use lib.ListN.{length}
use Rattle.basics.specs.Answer.{refuse}
use Rattle.grid.specs.Grid.{grid_of, grid_answer, on_grid, number_on, bins_of}
use Rattle.grid.proofs.Ends.{call_done}
use Rattle.basics.proofs.Range.{and_left, and_right}
use Rattle.table.specs.Layouts.{Layout}
use Rattle.table.specs.Layouts.{Wide, Narrow}
use Rattle.table.specs.Narrow.{NarrowTable, narrow_view}
use Rattle.table.specs.Table.{Table, table_len, is_sized, view_of}
use Rattle.table.specs.Layout.{TableIn, is_sized_in, view_in}
use Rattle.table.specs.Sound.{limit, limit_of, total, sound, unsound_number}
use Rattle.table.proofs.NarrowTables.{test_narrow}
use Rattle.adder.specs.Batch.{weight_of, batch_of}
use Rattle.loader.specs.Load.{load_number, load_number_in, load_later_in}
use Rattle.loader.specs.Merge.{merge_number, merge_number_in, merge_later_in}
use Rattle.loader.proofs.Calls.{load_no_grid_in, load_over, pairs, merge_no_grid_in, merge_over}
use Rattle.loader.proofs.Laws.{load_refused_in, load_tests_in, load_says_in, load_accepts_in, merge_refused_in}
use Rattle.loader.proofs.Laws.{merge_tests_in, merge_says_in, merge_accepts_in}
use Rattle.compare.specs.declared.call.Compared.{Compared}
use Rattle.compare.specs.Compare.{compare_number, compare_record, compare_later}
use Rattle.compare.proofs.Calls.{no_grid_lem}
use Rattle.compare.proofs.Laws.{compare_answer, compare_refused, compare_tests_lem, compare_says, compare_accepts}
use Rattle.rescue.specs.Rescue.{rescue_number, rescue_table, rescue_reasons}
use Rattle.rescue.proofs.Calls as rescues
use Rattle.rescue.proofs.Laws.{rescue_refused, rescue_tests_lem, rescue_says, rescue_grid, rescue_accepts}
use Rattle.sums.specs.declared.source.Source.{Source}
use Rattle.widen.specs.Widen.{widen_number, widen_later}
use Rattle.widen.proofs.Calls as widens
use Rattle.widen.proofs.Laws.{widen_refused, widen_tests_lem, widen_says, widen_accepts}
use Rattle.promises.specs.Narrow.{widen_tests, widen_applies, CanWiden}
use Rattle.cutter.specs.Cut.{LengthsFit, lengths_right, BuffersIn, lengths_of, cut_number_on, cut_number_in}
use Rattle.cutter.specs.Cut.{refused_record, cut_record_in, cut_later_in}
use Rattle.cutter.specs.Cut.{CanCut}
use Rattle.cutter.proofs.Laws.{cut_refuses, cut_says, cut_accepts}
use Rattle.band.specs.Band.{all_below, band_number}
use Rattle.mapper.specs.Map.{map_number_on, map_number, map_later, CanMap}
use Rattle.mapper.proofs.Laws.{map_refused, map_says, map_accepts}
use Rattle.painter.specs.Paint.{paint_number_on, paint_number, paint_later, CanPaint}
use Rattle.painter.proofs.Laws.{paint_refused, paint_says, paint_accepts}
use Rattle.seluvava.specs.Cut.{LentIn, has_room, all_long, call_number_on, call_number_in, cut_answer_in}
use Rattle.promises.specs.Numbers.{Tests, applies, chain, ascends, lowest_from, lowest_of, no_grid, on_bins}
use Rattle.promises.specs.Numbers.{load_tests, load_applies}
use Rattle.promises.specs.Numbers.{merge_tests, merge_applies, cut_tests, cut_applies, call_applies, band_tests}
use Rattle.promises.specs.Numbers.{compare_tests, compare_applies, map_applies, paint_applies, OnGrid, CanLoad}
use Rattle.promises.specs.Numbers.{CanMerge, PassesLoad, PassesMerge, CanCompare}
use Rattle.promises.specs.Numbers.{rescue_tests, rescue_applies, CanRescue}

-- ---- a chain of refusals whose answers do not descend gives the lowest that applies
none_applies : (more n : ℕ) → lowest_from n more (λ m. false) ≡ 0
unfolding lowest_from
none_applies zero n = refl
none_applies (suc more) n = none_applies more (suc n)

first_applies : (more n m : ℕ) (f : ℕ → Bool) → f m ≡ true → ((j : ℕ) → j < m → f j ≡ false) → n ≤ m → m < n + more
    → lowest_from n more f ≡ m
unfolding lowest_from
first_applies zero n m f this before least most = absurd (omega arith)
first_applies (suc more) n m f this before least most =
    elim (eq-or-lt_of_le least) [
      | inl same ↦ rw (ap f same ∙ this) same
      | inr later ↦ rw (before n later)
          (first_applies more (suc n) m f this before (omega (arith, later)) (omega (arith, most)))
    ]

pub none_below : (last : ℕ) (xs : Tests) (n m : ℕ) → ascends last n xs ≡ true → m < n → applies xs m ≡ false
unfolding applies ascends
none_below last [] n m a h = refl
none_below last (x ∷ xs) n m a h =
    let least : n ≤ x.0 = leb-true n x.0 (and_left (leb n x.0) _ a) in
    let rest = and_right (leb x.0 last) _ (and_right (leb n x.0) _ a) in
    rw (ne_eqb x.0 m (λ e. omega (arith, least, e)), none_below last xs x.0 m rest (omega (arith, least))) refl

-- of so many answers from the first on
pub lowest_from_lem : (first more : ℕ) (xs : Tests) (last n : ℕ) → first ≤ n → last < first + more
    → ascends last n xs ≡ true → chain xs ≡ lowest_from first more (applies xs)
unfolding chain ascends applies refuse
lowest_from_lem first more [] last n least most a = sym (none_applies more first)
lowest_from_lem first more (x ∷ xs) last n least most a =
    go x.1 (lowest_from_lem first more xs last x.0 (omega (arith, from, least)) most rest)
  where
    from : n ≤ x.0
    from = leb-true n x.0 (and_left (leb n x.0) _ a)

    to : x.0 ≤ last
    to = leb-true x.0 last (and_left (leb x.0 last) _ (and_right (leb n x.0) _ a))

    rest : ascends last x.0 xs ≡ true
    rest = and_right (leb x.0 last) _ (and_right (leb n x.0) _ a)

    not_this : (b : Bool) (m : ℕ) → applies xs m ≡ ((b && false) || applies xs m)
    not_this true m = refl
    not_this false m = refl

    go : (b : Bool) → chain xs ≡ lowest_from first more (applies xs)
        → refuse b x.0 (chain xs) ≡ lowest_from first more (λ m. (eqb x.0 m && b) || applies xs m)
    go true later =
        sym
        (first_applies more first x.0 (λ m. (eqb x.0 m && true) || applies xs m)
        (rw (eq-eqb x.0 x.0 refl) refl)
        (λ m h. rw (ne_eqb x.0 m (λ e. omega (arith, h, e)), none_below last xs x.0 m rest h) refl)
        (omega (arith, from, least))
        (omega (arith, to, most)))
    go false later = later ∙ (λ i. lowest_from first more (λ m. not_this (eqb x.0 m) m i))

pub lowest : (xs : Tests) (n : ℕ) → 1 ≤ n → ascends 9 n xs ≡ true → chain xs ≡ lowest_of (applies xs)
unfolding lowest_of
lowest xs n least a = lowest_from_lem 1 9 xs 9 n least (omega arith) a

-- two tests of one answer are one
both : (a b : Bool) (n rest : ℕ) → refuse (not (a && b)) n rest ≡ refuse (not a) n (refuse (not b) n rest)
unfolding refuse
both true b n rest = refl
both false b n rest = refl

-- ---- the lowest answer of each call
module _ (b1 b2 b3 : ℕ) where
  -- a load is the chain of its tests, in either layout
  load_chain : (l : Layout) (t : TableIn l) (colours : List ℕ) (weighted : Bool) (weights : List ℕ)
      → load_number_in l b1 b2 b3 t colours weighted weights
      ≡ chain (load_tests l (grid_of b1 b2 b3) t colours weighted weights)
  unfolding load_tests chain no_grid on_bins on_grid grid_answer refuse
  load_chain l t colours weighted weights = go (grid_of b1 b2 b3) refl
    where
      go : (c : Option Grid) → grid_of b1 b2 b3 ≡ c
          → load_number_in l b1 b2 b3 t colours weighted weights
          ≡ chain (load_tests l (grid_of b1 b2 b3) t colours weighted weights)
      go (Some g) e = load_tests_in l b1 b2 b3 t colours weighted weights e ∙ rw e refl
      go None e = sym (load_no_grid_in l b1 b2 b3 t colours weighted weights e).0 ∙ rw e refl

  pub load_lowest : (t colours : List ℕ) (weighted : Bool) (weights : List ℕ)
      → load_number b1 b2 b3 t colours weighted weights ≡ lowest_of (load_applies Wide b1 b2 b3 t colours weighted weights)
  unfolding load_applies load_tests ascends
  load_lowest t colours weighted weights =
      load_chain Wide t colours weighted weights
      ∙ lowest (load_tests Wide (grid_of b1 b2 b3) t colours weighted weights) 1 (omega arith) refl

  -- in the narrow layout the last of its answers is 15, and so 15 exactly where no lower one applies and it does
  pub narrow_load_lowest : (t : NarrowTable) (colours : List ℕ) (weighted : Bool) (weights : List ℕ)
      → load_number_in Narrow b1 b2 b3 t colours weighted weights
      ≡ lowest_from 1 15 (load_applies Narrow b1 b2 b3 t colours weighted weights)
  unfolding load_applies load_tests ascends
  narrow_load_lowest t colours weighted weights =
      load_chain Narrow t colours weighted weights
      ∙ lowest_from_lem 1 15 (load_tests Narrow (grid_of b1 b2 b3) t colours weighted weights) 15 1 (omega arith) (omega arith)
      refl

  merge_chain : (l : Layout) (t s : TableIn l)
      → merge_number_in l b1 b2 b3 t s ≡ chain (merge_tests l (grid_of b1 b2 b3) t s)
  unfolding merge_tests chain no_grid on_bins on_grid grid_answer refuse
  merge_chain l t s = go (grid_of b1 b2 b3) refl
    where
      pairs : (a b c d : Bool) (rest : ℕ)
          → refuse (not (a && b)) 5 (refuse (not (c && d)) 6 rest)
          ≡ refuse (not a) 5 (refuse (not b) 5 (refuse (not c) 6 (refuse (not d) 6 rest)))
      pairs a b c d rest = ap (refuse (not (a && b)) 5) (both c d 6 rest) ∙ both a b 5 _

      go : (c : Option Grid) → grid_of b1 b2 b3 ≡ c
          → merge_number_in l b1 b2 b3 t s ≡ chain (merge_tests l (grid_of b1 b2 b3) t s)
      go (Some g) e =
          merge_tests_in l b1 b2 b3 t s e
          ∙ pairs (is_sized_in l t (bins_of g)) (is_sized_in l s (bins_of g)) (sound (limit_of l) g (view_in l t))
          (sound (limit_of l) g (view_in l s)) _
          ∙ rw e refl
      go None e = sym (merge_no_grid_in l b1 b2 b3 t s e).0 ∙ rw e refl

  pub merge_lowest : (t s : List ℕ) → merge_number b1 b2 b3 t s ≡ lowest_of (merge_applies Wide b1 b2 b3 t s)
  unfolding merge_applies merge_tests ascends
  merge_lowest t s =
      merge_chain Wide t s ∙ lowest (merge_tests Wide (grid_of b1 b2 b3) t s) 1 (omega arith) refl

  pub narrow_merge_lowest : (t s : NarrowTable)
      → merge_number_in Narrow b1 b2 b3 t s ≡ lowest_from 1 15 (merge_applies Narrow b1 b2 b3 t s)
  unfolding merge_applies merge_tests ascends
  narrow_merge_lowest t s =
      merge_chain Narrow t s
      ∙ lowest_from_lem 1 15 (merge_tests Narrow (grid_of b1 b2 b3) t s) 15 1 (omega arith) (omega arith) refl

  pub compare_lowest : (t s : List ℕ) (l : List ℤ)
      → compare_number b1 b2 b3 t s l ≡ lowest_of (compare_applies b1 b2 b3 t s l)
  unfolding compare_applies compare_tests chain ascends no_grid on_bins on_grid grid_answer refuse
  compare_lowest t s l =
      go (grid_of b1 b2 b3) refl ∙ lowest (compare_tests (grid_of b1 b2 b3) t s l) 1 (omega arith) refl
    where
      all : (a b c d e : Bool) (rest : ℕ)
          → refuse (not ((a && b) && c)) 5 (refuse (not (d && e)) 6 rest)
          ≡ refuse (not a) 5 (refuse (not b) 5 (refuse (not c) 5 (refuse (not d) 6 (refuse (not e) 6 rest))))
      all a b c d e rest =
          ap (refuse (not ((a && b) && c)) 5) (both d e 6 rest) ∙ both (a && b) c 5 _ ∙ both a b 5 _

      go : (c : Option Grid) → grid_of b1 b2 b3 ≡ c
          → compare_number b1 b2 b3 t s l ≡ chain (compare_tests (grid_of b1 b2 b3) t s l)
      go (Some g) e =
          compare_tests_lem b1 b2 b3 t s l e
          ∙ all (is_sized t (bins_of g)) (is_sized s (bins_of g)) (eqb (length l) (table_len (bins_of g)))
          (sound limit g (view_of t)) (sound limit g (view_of s)) 0
          ∙ rw e refl
      go None e =
          sym (compare_answer b1 b2 b3 t s l)
          ∙ sym (ap (λ (c : Compared). c.number) (no_grid_lem b1 b2 b3 t s l e).0)
          ∙ rw e refl

  pub rescue_lowest : (t l : List ℕ) → rescue_number b1 b2 b3 t l ≡ lowest_of (rescue_applies b1 b2 b3 t l)
  unfolding rescue_applies rescue_tests chain ascends no_grid on_bins on_grid grid_answer refuse
  rescue_lowest t l = go (grid_of b1 b2 b3) refl ∙ lowest (rescue_tests (grid_of b1 b2 b3) t l) 1 (omega arith) refl
    where
      go : (c : Option Grid) → grid_of b1 b2 b3 ≡ c → rescue_number b1 b2 b3 t l ≡ chain (rescue_tests (grid_of b1 b2 b3) t l)
      go (Some g) e =
          rescue_tests_lem b1 b2 b3 t l e ∙ both (is_sized t (bins_of g)) (eqb (length l) (bins_of g)) 5 0 ∙ rw e refl
      go None e = sym (rescues.no_grid_lem b1 b2 b3 t l e).0 ∙ rw e refl

  pub widen_lowest : (t : NarrowTable) (old : Table)
      → widen_number b1 b2 b3 t old ≡ lowest_of (widen_applies b1 b2 b3 t old)
  unfolding widen_applies widen_tests chain ascends no_grid on_bins on_grid grid_answer refuse
  widen_lowest t old =
      go (grid_of b1 b2 b3) refl ∙ lowest (widen_tests (grid_of b1 b2 b3) t old) 1 (omega arith) refl
    where
      go : (c : Option Grid) → grid_of b1 b2 b3 ≡ c → widen_number b1 b2 b3 t old ≡ chain (widen_tests (grid_of b1 b2 b3) t old)
      go (Some g) e =
          widen_tests_lem b1 b2 b3 t old e ∙ both (is_sized_in Narrow t (bins_of g)) (is_sized old (bins_of g)) 5 _ ∙ rw e refl
      go None e = sym (widens.no_grid_lem b1 b2 b3 t old e).0 ∙ rw e refl

  pub cut_lowest : (layout : Layout) (source : Source) (k : ℕ) (t : TableIn layout) (b : BuffersIn layout)
      → cut_number_in layout source b1 b2 b3 k t b ≡ lowest_of (cut_applies layout source b1 b2 b3 k t b)
  unfolding cut_number_in cut_number_on cut_applies cut_tests chain ascends no_grid on_bins number_on on_grid grid_answer refuse
  cut_lowest layout source k t b =
      go (grid_of b1 b2 b3) ∙ lowest (cut_tests layout source (grid_of b1 b2 b3) k t b true) 1 (omega arith) refl
    where
      go : (c : Option Grid)
          → number_on c (λ g. cut_number_on (limit_of layout) g k (lengths_right layout source g k t b) (view_in layout t))
          ≡ chain (cut_tests layout source c k t b true)
      go (Some g) = refl
      go None = refl

  pub call_lowest : (layout : Layout) (source : Source) (k : ℕ) (t : TableIn layout) (l : LentIn layout)
      → (cut_answer_in layout source b1 b2 b3 k t l).number ≡ lowest_of (call_applies layout source b1 b2 b3 k t l)
  unfolding cut_answer_in call_number_in call_number_on cut_number_on all_long call_applies cut_tests chain ascends no_grid on_bins
      number_on on_grid
      grid_answer refuse
  call_lowest layout source k t l = go (grid_of b1 b2 b3)
      ∙ lowest (cut_tests layout source (grid_of b1 b2 b3) k t l.buffers room) 1 (omega arith) refl
    where
      room : Bool
      room = has_room k (length l.boxes) (length l.spreads)

      go : (c : Option Grid) → number_on c (λ g. call_number_on layout source g k t l)
          ≡ chain (cut_tests layout source c k t l.buffers room)
      go (Some g) =
          ap (refuse (not (leb 1 k && leb k 256)) 2)
          (both (lengths_right layout source g k t l.buffers) room 5
          (refuse (not (sound (limit_of layout) g (view_in layout t))) unsound_number
          (refuse (eqb (total g (view_in layout t)) 0) 8 0)))
      go None = refl

  module _ (map : List ℕ) where
    -- the two lengths that a band tests in turn are one test
    band_lowest : (palette_colours : ℕ) (fits lengths : Bool) (frame : List ℕ) (first pixels : ℕ)
        → ((leb 1 palette_colours && leb palette_colours 256) && fits) ≡ lengths
        → number_on (grid_of b1 b2 b3) (λ g. band_number g map palette_colours fits (length frame) first pixels)
        ≡ lowest_of (applies (band_tests (grid_of b1 b2 b3) map palette_colours lengths frame first pixels))
    unfolding band_number band_tests chain ascends no_grid on_bins number_on on_grid grid_answer refuse
    band_lowest palette_colours fits lengths frame first pixels e =
        go (grid_of b1 b2 b3)
        ∙ lowest (band_tests (grid_of b1 b2 b3) map palette_colours lengths frame first pixels) 1 (omega arith) refl
      where
        rest : ℕ
        rest = refuse (ltb (length frame / 3) (first + pixels)) 5 (refuse (not (all_below palette_colours map)) 9 0)

        lent : refuse (not (leb 1 palette_colours && leb palette_colours 256)) 5 (refuse (not fits) 5 rest)
            ≡ refuse (not lengths) 5 rest
        lent =
            sym (both (leb 1 palette_colours && leb palette_colours 256) fits 5 rest)
            ∙ ap (λ (b : Bool). refuse (not b) 5 rest) e

        go : (c : Option Grid)
            → number_on c (λ g. band_number g map palette_colours fits (length frame) first pixels)
            ≡ chain (band_tests c map palette_colours lengths frame first pixels)
        go (Some g) =
            ap (λ (n : ℕ). refuse (not (eqb (length frame % 3) 0)) 3 (refuse (not (eqb (length map) (bins_of g))) 5 n))
            lent
        go None = refl

    pub map_lowest : (palette_colours : ℕ) (frame indices : List ℕ) (first pixels : ℕ)
        → map_number b1 b2 b3 map palette_colours frame indices first pixels
        ≡ lowest_of (map_applies b1 b2 b3 map palette_colours frame indices first pixels)
    unfolding map_number map_number_on map_applies
    map_lowest palette_colours frame indices first pixels =
        band_lowest palette_colours (eqb (length indices) (length frame / 3)) _ frame first pixels refl

    pub paint_lowest : (palette frame : List ℕ) (first pixels : ℕ)
        → paint_number b1 b2 b3 map palette frame first pixels
        ≡ lowest_of (paint_applies b1 b2 b3 map palette frame first pixels)
    unfolding paint_number paint_number_on paint_applies
    paint_lowest palette frame first pixels =
        band_lowest (length palette / 3) (eqb (length palette % 3) 0) _ frame first pixels (in_bytes (length palette))
      where
        -- in threes, 1..256 colours are 3..768 bytes
        least : (n : ℕ) → leb 1 (n / 3) ≡ leb 3 n
        least n = go (leb 3 n) refl
          where
            go : (b : Bool) → leb 3 n ≡ b → leb 1 (n / 3) ≡ b
            go true e = let h : 3 ≤ n = leb-true 3 n e in le-leb 1 (n / 3) (omega (arith, h))
            go false e = let h : n < 3 = leb-false 3 n e in lt-leb 1 (n / 3) (omega (arith, h))

        most : (n : ℕ) → n % 3 ≡ 0 → leb (n / 3) 256 ≡ leb n 768
        most n threes = go (leb n 768) refl
          where
            go : (b : Bool) → leb n 768 ≡ b → leb (n / 3) 256 ≡ b
            go true e = let h : n ≤ 768 = leb-true n 768 e in le-leb (n / 3) 256 (omega (arith, h))
            go false e = let h : 768 < n = leb-false n 768 e in lt-leb (n / 3) 256 (omega (arith, h, threes))

        nothing : (a b : Bool) → (a && false) ≡ (b && false)
        nothing true true = refl
        nothing true false = refl
        nothing false true = refl
        nothing false false = refl

        in_bytes : (n : ℕ)
            → ((leb 1 (n / 3) && leb (n / 3) 256) && eqb (n % 3) 0) ≡ ((leb 3 n && leb n 768) && eqb (n % 3) 0)
        in_bytes n = go (eqb (n % 3) 0) refl
          where
            go : (b : Bool) → eqb (n % 3) 0 ≡ b
                → ((leb 1 (n / 3) && leb (n / 3) 256) && b) ≡ ((leb 3 n && leb n 768) && b)
            go true e = λ i. (least n i && most n (eqb-true (n % 3) 0 e) i) && true
            go false e = nothing (leb 1 (n / 3) && leb (n / 3) 256) (leb 3 n && leb n 768)

-- a chain that answers 15 is past each lower answer's test, and the last test holds
past_test : (b : Bool) (n rest : ℕ) → n < 15 → refuse b n rest ≡ 15 → (b ≡ false) × (rest ≡ 15)
unfolding refuse
past_test true n rest h e = absurd (omega (arith, h, e))
past_test false n rest h e = (refl, e)

last_test : (b : Bool) → refuse b 15 0 ≡ 15 → b ≡ true
unfolding refuse
last_test true e = refl
last_test false e = absurd (omega (arith, e))

-- ---- a call is done exactly where it is given this
module _ (b1 b2 b3 : ℕ) where
  pub load_exactly : (l : Layout) (t : TableIn l) (colours : List ℕ) (weighted : Bool) (weights : List ℕ)
      → (load_number_in l b1 b2 b3 t colours weighted weights ≡ 0)
      ↔ OnGrid b1 b2 b3 (CanLoad l t colours weighted weights)
  load_exactly l t colours weighted weights = (
    λ e.
        let d = load_says_in l b1 b2 b3 t colours weighted weights e in
        record {
          g = d.g;
          chosen = d.chosen;
          can = record {
            threes = d.threes;
            paired = d.paired;
            lent = d.lent;
            is_sound = d.sound_before.holds;
            fits =
                d.under;
          };
        },
    λ o. let c = o.can in
        load_accepts_in l b1 b2 b3 t colours weighted weights o.chosen c.threes c.paired c.lent
        c.is_sound c.fits,
  )

  pub merge_exactly : (l : Layout) (t s : TableIn l)
      → (merge_number_in l b1 b2 b3 t s ≡ 0) ↔ OnGrid b1 b2 b3 (CanMerge l t s)
  merge_exactly l t s = (
    λ e.
        let d = merge_says_in l b1 b2 b3 t s e in
        record {
          g = d.g;
          chosen = d.chosen;
          can = record
              { lent = d.lent; are_sound = (d.sound_before.0.holds, d.sound_before.1.holds); fits = d.under };
        },
    λ o. let c = o.can in
        merge_accepts_in l b1 b2 b3 t s o.chosen c.lent.0 c.lent.1 c.are_sound.0 c.are_sound.1
        c.fits,
  )

  pub compare_exactly : (t s : List ℕ) (l : List ℤ)
      → (compare_number b1 b2 b3 t s l ≡ 0) ↔ OnGrid b1 b2 b3 (CanCompare t s l)
  compare_exactly t s l = (
    λ e.
        let d = compare_says b1 b2 b3 t s l e in
        record {
          g = d.g;
          chosen = d.chosen;
          can = record
              { lent = d.lent; list = d.list; are_sound = (d.are_sound.0.holds, d.are_sound.1.holds) };
        },
    λ o. let c = o.can in
        compare_accepts b1 b2 b3 t s l o.chosen c.lent.0 c.lent.1 c.list c.are_sound.0
        c.are_sound.1,
  )

  pub rescue_exactly : (t l : List ℕ) → (rescue_number b1 b2 b3 t l ≡ 0) ↔ OnGrid b1 b2 b3 (CanRescue t l)
  rescue_exactly t l = (
    λ e.
        let c = rescue_grid b1 b2 b3 t l e in
        let d = rescue_says b1 b2 b3 t l c.chosen e in
        record { g = c.g; chosen = c.chosen; can = record { lent = d.lent; list = d.list } },
    λ o. rescue_accepts b1 b2 b3 t l o.chosen o.can.lent o.can.list,
  )

  pub widen_exactly : (t : NarrowTable) (old : Table)
      → (widen_number b1 b2 b3 t old ≡ 0) ↔ OnGrid b1 b2 b3 (CanWiden t old)
  widen_exactly t old = (
    λ e.
        let d = widen_says b1 b2 b3 t old e in
        record {
          g = d.g;
          chosen = d.chosen;
          can = record { lent = d.lent; list = d.list; is_sound = d.sound_before.holds };
        },
    λ o. widen_accepts b1 b2 b3 t old o.chosen o.can.lent o.can.list o.can.is_sound,
  )

  pub cut_exactly : (layout : Layout) (source : Source) (k : ℕ) (t : TableIn layout) (b : BuffersIn layout)
      → (cut_number_in layout source b1 b2 b3 k t b ≡ 0) ↔ OnGrid b1 b2 b3
      (λ g. CanCut (limit_of layout) g k (view_in layout t)
      × LengthsFit source g k (is_sized_in layout t (bins_of g)) (lengths_of layout g b))
  unfolding cut_number_in
  cut_exactly layout source k t b = (
    λ e.
        let c = call_done {A = ℕ} (grid_of b1 b2 b3)
        (λ g. cut_number_on (limit_of layout) g k (lengths_right layout source g k t b) (view_in layout t))
        (λ g. 0) 0 e in
        let d = cut_says layout source b1 b2 b3 k t b c.is e in
        record { g = c.g; chosen = c.is; can = (d.can, d.fit) },
    λ o. cut_accepts layout source b1 b2 b3 k t b o.chosen o.can.0 o.can.1,
  )

  pub map_exactly : (map : List ℕ) (palette_colours : ℕ) (frame indices : List ℕ) (first pixels : ℕ)
      → (map_number b1 b2 b3 map palette_colours frame indices first pixels ≡ 0)
      ↔ OnGrid b1 b2 b3 (λ g. CanMap g map palette_colours frame indices first pixels)
  map_exactly map palette_colours frame indices first pixels = (
    λ e.
        let d = map_says b1 b2 b3 map palette_colours frame indices first pixels e in
        record { g = d.g; chosen = d.chosen; can = d.can },
    λ o. (map_accepts b1 b2 b3 map palette_colours frame indices first pixels o.chosen o.can).0,
  )

  pub paint_exactly : (map palette frame : List ℕ) (first pixels : ℕ)
      → (paint_number b1 b2 b3 map palette frame first pixels ≡ 0)
      ↔ OnGrid b1 b2 b3 (λ g. CanPaint g map palette frame first pixels)
  paint_exactly map palette frame first pixels = (
    λ e.
        let d = paint_says b1 b2 b3 map palette frame first pixels e in
        record { g = d.g; chosen = d.chosen; can = d.can },
    λ o. (paint_accepts b1 b2 b3 map palette frame first pixels o.chosen o.can).0,
  )

  -- ---- a narrow load and a narrow merge give 15 exactly where they are given this
  pub narrow_load_15 : (t : NarrowTable) (colours : List ℕ) (weighted : Bool) (weights : List ℕ)
      → (load_number_in Narrow b1 b2 b3 t colours weighted weights ≡ 15)
      ↔ OnGrid b1 b2 b3 (PassesLoad t colours weighted weights)
  narrow_load_15 t colours weighted weights = (says (grid_of b1 b2 b3) refl, gives)
    where
      gives : OnGrid b1 b2 b3 (PassesLoad t colours weighted weights)
          → load_number_in Narrow b1 b2 b3 t colours weighted weights ≡ 15
      gives o =
          let c = o.can in
          sym (load_over Narrow b1 b2 b3 t colours weighted weights o.chosen c.threes
          (pairs weighted (length weights) (length colours / 3) c.paired) c.lent c.is_sound
          (omega (arith, c.past))).0

      says : (c : Option Grid) → grid_of b1 b2 b3 ≡ c → load_number_in Narrow b1 b2 b3 t colours weighted weights ≡ 15
          → OnGrid b1 b2 b3 (PassesLoad t colours weighted weights)
      says (Some g) e n =
          let added = weight_of (batch_of colours weighted weights) in
          let tests = load_tests_in Narrow b1 b2 b3 t colours weighted weights e in
          let three = past_test _ 3 _ (lit< tt) (sym tests ∙ n) in
          let four = past_test _ 4 _ (lit< tt) three.1 in
          let five = past_test _ 5 _ (lit< tt) four.1 in
          let six = past_test _ 6 _ (lit< tt) five.1 in
          record {
            g = g;
            chosen = e;
            can = record {
              threes = eqb-true (length colours % 3) 0 (not-false _ three.0);
              paired = λ y. eqb-true (length weights) (length colours / 3) (not-false _ (sym (rw y refl) ∙ four.0));
              lent = test_narrow (not-false _ five.0);
              is_sound = not-false _ six.0;
              past = omega (arith, ltb-true (limit_of Narrow) (total g (narrow_view t) + added) (last_test _ six.1));
            };
          }
      says None e n =
          absurd (omega (arith, (load_no_grid_in Narrow b1 b2 b3 t colours weighted weights e).0, n))

  pub narrow_merge_15 : (t s : NarrowTable)
      → (merge_number_in Narrow b1 b2 b3 t s ≡ 15) ↔ OnGrid b1 b2 b3 (PassesMerge t s)
  narrow_merge_15 t s = (says (grid_of b1 b2 b3) refl, gives)
    where
      gives : OnGrid b1 b2 b3 (PassesMerge t s) → merge_number_in Narrow b1 b2 b3 t s ≡ 15
      gives o =
          let c = o.can in
          sym (merge_over Narrow b1 b2 b3 t s o.chosen c.lent.0 c.lent.1 c.are_sound.0 c.are_sound.1
          (omega (arith, c.past))).0

      says : (c : Option Grid) → grid_of b1 b2 b3 ≡ c → merge_number_in Narrow b1 b2 b3 t s ≡ 15
          → OnGrid b1 b2 b3 (PassesMerge t s)
      says (Some g) e n =
          let five = past_test _ 5 _ (lit< tt) (sym (merge_tests_in Narrow b1 b2 b3 t s e) ∙ n) in
          let six = past_test _ 6 _ (lit< tt) five.1 in
          let sized : Bool = is_sized_in Narrow t (bins_of g) in
          let good : Bool = sound (limit_of Narrow) g (narrow_view t) in
          record {
            g = g;
            chosen = e;
            can = record {
              lent = (
                test_narrow (and_left sized _ (not-false _ five.0)),
                test_narrow (and_right sized _ (not-false _ five.0)),
              );
              are_sound = (and_left good _ (not-false _ six.0), and_right good _ (not-false _ six.0));
              past = omega (
                arith,
                ltb-true (limit_of Narrow) (total g (narrow_view t) + total g (narrow_view s))
                    (last_test _ six.1),
              );
            };
          }
      says None e n = absurd (omega (arith, (merge_no_grid_in Narrow b1 b2 b3 t s e).0, n))

  -- ---- a refusal writes nothing
  module _ {n : ℕ} where
    pub refused_load : (l : Layout) (t : TableIn l) (colours : List ℕ) (weighted : Bool) (weights : List ℕ)
        → load_number_in l b1 b2 b3 t colours weighted weights ≡ suc n
        → load_later_in l b1 b2 b3 t colours weighted weights ≡ t
    refused_load l t colours weighted weights e = load_refused_in l b1 b2 b3 t colours weighted weights e

    pub refused_merge : (l : Layout) (t s : TableIn l) → merge_number_in l b1 b2 b3 t s ≡ suc n
        → merge_later_in l b1 b2 b3 t s ≡ t
    refused_merge l t s e = merge_refused_in l b1 b2 b3 t s e

    pub refused_compare : (t s : List ℕ) (l : List ℤ) → compare_number b1 b2 b3 t s l ≡ suc n
        → (compare_record b1 b2 b3 t s l ≡ record { number = suc n; differ = 0; first = 0 })
        × (compare_later b1 b2 b3 t s l ≡ l)
    refused_compare t s l e = compare_refused b1 b2 b3 t s l e

    pub refused_rescue : (t l : List ℕ) → rescue_number b1 b2 b3 t l ≡ suc n
        → (rescue_table b1 b2 b3 t l ≡ t) × (rescue_reasons b1 b2 b3 t l ≡ l)
    refused_rescue t l e = rescue_refused b1 b2 b3 t l e

    pub refused_widen : (t : NarrowTable) (old : Table) → widen_number b1 b2 b3 t old ≡ suc n
        → widen_later b1 b2 b3 t old ≡ old
    refused_widen t old e = widen_refused b1 b2 b3 t old e

    pub refused_cut : (layout : Layout) (source : Source) (k : ℕ) (t : TableIn layout) (b : BuffersIn layout)
        → cut_number_in layout source b1 b2 b3 k t b ≡ suc n
        → (cut_record_in layout source b1 b2 b3 k t b ≡ refused_record (suc n))
        × (cut_later_in layout source b1 b2 b3 k t b ≡ b)
    refused_cut layout source k t b e = cut_refuses layout source b1 b2 b3 k t b e

    pub refused_map : (map : List ℕ) (palette_colours : ℕ) (frame indices : List ℕ) (first pixels : ℕ)
        → map_number b1 b2 b3 map palette_colours frame indices first pixels ≡ suc n
        → map_later b1 b2 b3 map palette_colours frame indices first pixels ≡ indices
    refused_map map palette_colours frame indices first pixels e =
        map_refused b1 b2 b3 map palette_colours frame indices first pixels e

    pub refused_paint : (map palette frame : List ℕ) (first pixels : ℕ)
        → paint_number b1 b2 b3 map palette frame first pixels ≡ suc n
        → paint_later b1 b2 b3 map palette frame first pixels ≡ frame
    refused_paint map palette frame first pixels e = paint_refused b1 b2 b3 map palette frame first pixels e
