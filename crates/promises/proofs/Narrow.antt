-- The narrow layout beside the wide one (Rules, Layouts): on a table whose total is within the narrow limit, every call
-- gives what the wide one gives on the widened table, and its weights and sums and their moments fit 32 bits. So all that
-- is promised of a wide cut is promised of a narrow one.
-- Assumes nothing.
use Rattle.std.specs.Prelude.{Option, Some}
use mathlib.Core.Path.{◌≡◌, refl, sym, ap, subst, ◌∙◌}
use mathlib.Core.Bool.{Bool, true, not, ◌&&◌}
use mathlib.Core.List.Perm
use mathlib.Core.List.{List}
use Prim.Native.Nat.{ℕ, zero, suc, ◌+◌, ◌*◌, ◌/◌, ◌%◌, ◌≤◌, ◌<◌}
use native.Mathlib.Omega.{arith}
use borrow.Author.Tests.{le-ltb}
use lib.Dec.{eqb, ltb, lit<, lit≤}
use lib.ListN.{length}
use Rattle.basics.specs.Answer.{refuse, when_done}
use Rattle.basics.specs.Range.{sum_from}
use Rattle.basics.proofs.Range.{term_le}
use Rattle.grid.specs.declared.place.Grid.{Grid}
use Rattle.grid.specs.Grid.{grid_of, on_grid, number_on, Accepted, bins_of, bin_at}
use Rattle.grid.proofs.Places.{chose, bins_inside}
use Rattle.table.specs.Layouts.{Layout}
use Rattle.table.specs.Layouts.{Wide, Narrow}
use Rattle.table.specs.Cell.{View, zeros}
use Rattle.table.specs.Table.{Table, is_sized, view_of, written}
use Rattle.table.specs.Narrow.{NarrowTable, narrow_view, narrow_written}
use Rattle.table.specs.Layout.{TableIn, is_sized_in, view_in, written_in}
use Rattle.table.specs.Sound.{limit, limit_of, total, sound}
use Rattle.table.proofs.Tables.{sized_test}
use Rattle.table.proofs.NarrowTables.{narrow_test, wide_view}
use Rattle.table.proofs.Layouts.{holds_list_in, narrow_wide}
use Rattle.table.proofs.Soundness.{Sound, sound_in, sound_limit, total_high, numbers_high, number_below}
use Rattle.adder.specs.Batch.{Weighted, weight_of, loaded, batch_of}
use Rattle.loader.specs.Load.{table_in, table_of, load_number, load_later, load_number_in, load_later_in}
use Rattle.loader.specs.Merge.{merged, merge_number, merge_later, merge_number_in, merge_later_in}
use Rattle.loader.specs.Plan.{Plan, Filled, ends_in, leaves, BytesIn}
use Rattle.loader.proofs.Laws.{load_refused_in, load_tests_in, load_says_in, merge_refused_in, merge_tests_in}
use Rattle.loader.proofs.Laws.{merge_says_in}
use Rattle.loader.proofs.Order.{table_holds_in, table_total_in, leaves_bytes, any_order}
use Rattle.loader.proofs.Plans.{filled_table, filled_formed}
use Rattle.widen.specs.Widen.{widened, widen_number, widen_later}
use Rattle.widen.proofs.Laws.{widened_holds, widened_same, widen_says}
use Rattle.sums.specs.declared.source.Source.{Source}
use Rattle.sums.specs.declared.source.Source.TheVariants.{Moments, Bins}
use Rattle.sums.specs.Moments.{moments_of}
use Rattle.sums.proofs.Below.{below_small, below_high}
use Rattle.rounds.specs.Loop.{boxes_of}
use Rattle.cutter.specs.Cut.{Results, BuffersIn, results_on, work_later, long_enough, lengths_right, cut_number_on}
use Rattle.cutter.specs.Cut.{cut_number_in, cut_number, refused_record, done_record, record_on, cut_record_in, later_on}
use Rattle.cutter.specs.Cut.{cut_later_in}
use Rattle.cutter.proofs.Laws.{cut_refuses, cut_says, bins_leave_work}
use Rattle.promises.specs.Narrow.{Fits, Below, SameWork, with_narrow, with_wide, SameLoads, SameMerges, SameCuts}
use Rattle.promises.specs.Narrow.{SamePlans, Widening}

-- ---- what fits 32 bits
-- "No weight, no component sum and no moment of these reaches 2^32", of any view that is sound for the narrow limit
pub narrow_below : (b1 b2 b3 : ℕ) {g : Grid} → grid_of b1 b2 b3 ≡ Some g → (u : View)
    → sound (limit_of Narrow) g u ≡ true → (p : ℕ) → p < bins_of g → Below g u p
unfolding moments_of
narrow_below b1 b2 b3 {g} e u is_sound p h =
    record {
      numbers = λ j l. omega (arith, term_le 0 (bins_of g) (λ q. u q j) p (omega arith) (omega arith), all j l);
      moments = λ j l. omega (arith, below_high a s r gr b j one two three l, total_high s);
      squares = number_below a s p h (lit≤ tt) 4 (lit< tt);
      square_moments = below_small a (sound_in Narrow s) r gr b 4 one two three (lit< tt);
    }
  where
    a : Accepted g
    a = (chose b1 b2 b3 g e).accepted

    s : Sound (limit_of Narrow) g u
    s = record { holds = is_sound }

    all : (j : ℕ) → j < 4 → sum_from 0 (bins_of g) (λ q. u q j) ≤ 255 * limit_of Narrow
    all j l = omega (arith, numbers_high a s j l, total_high s)

    -- the moments at a place are sums over the bins below these
    r : ℕ
    r = bin_at g 0 p + 1

    gr : ℕ
    gr = bin_at g 1 p + 1

    b : ℕ
    b = bin_at g 2 p + 1

    one : r ≤ g.size1
    one = omega (arith, (bins_inside a p h).one)

    two : gr ≤ g.size2
    two = omega (arith, (bins_inside a p h).two)

    three : b ≤ g.size3
    three = omega (arith, (bins_inside a p h).three)

-- ---- the widened table holds what the narrow one holds
module _ {g : Grid} {t : NarrowTable} (f : Fits g t) where
  pub same_view : view_of (widened (bins_of g) t) ≡ narrow_view t
  unfolding widened
  same_view = wide_view f.lent

  -- it is a table of the grid as well
  same_size : is_sized_in Narrow t (bins_of g) ≡ is_sized (widened (bins_of g) t) (bins_of g)
  same_size = narrow_test f.lent ∙ sym (sized_test (widened_holds (bins_of g) t).lent)

  -- and is sound for the wide limit just where the narrow one is for its own
  same_sound : sound (limit_of Narrow) g (narrow_view t) ≡ sound limit g (narrow_view t)
  same_sound = sound_limit {few = limit_of Narrow} g (narrow_view t) (omega (arith, f.under)) (lit≤ tt)

-- three sizes have one grid
same_grid : {c : Option Grid} {g h : Grid} → c ≡ Some g → c ≡ Some h → g ≡ h
unfolding on_grid
same_grid {g = g} e f = ap (λ (c : Option Grid). on_grid {A = Grid} c g (λ x. x)) (sym e ∙ f)

-- what a call leaves that answers the same: the tables as they were, or what was written
same_left : (n m : ℕ) → n ≡ m → (t later : NarrowTable) (w wider : Table) → narrow_view t ≡ view_of w
    → ((k : ℕ) → n ≡ suc k → later ≡ t) → ((k : ℕ) → m ≡ suc k → wider ≡ w)
    → (n ≡ 0 → m ≡ 0 → narrow_view later ≡ view_of wider) → narrow_view later ≡ view_of wider
same_left n zero q t later w wider before kept stays done = done q refl
same_left n (suc m) q t later w wider before kept stays done =
    ap narrow_view (kept m q) ∙ before ∙ sym (ap view_of (stays m refl))

-- ---- the load
module _ (b1 b2 b3 : ℕ) {g : Grid} (e : grid_of b1 b2 b3 ≡ Some g) {t : NarrowTable} (f : Fits g t)
    (colours : List ℕ) (weighted : Bool) (weights : List ℕ)
    (under : total g (narrow_view t) + weight_of (batch_of colours weighted weights) ≤ limit_of Narrow) where
  abbrev now_wide : Table
  now_wide = widened (bins_of g) t

  abbrev all : View → ℕ
  all v = total g v + weight_of (batch_of colours weighted weights)

  -- a load's tests: all but the last are the same, and the last refuses neither
  abbrev load_tests_lem : Bool → Bool → Bool → ℕ → ℕ
  load_tests_lem sized is_sound past beyond =
      refuse (not (eqb (length colours % 3) 0)) 3
      (refuse (weighted && not (eqb (length weights) (length colours / 3))) 4
      (refuse (not sized) 5 (refuse (not is_sound) 6 (refuse past beyond 0))))

  load_number_lem : load_number_in Narrow b1 b2 b3 t colours weighted weights
      ≡ load_number b1 b2 b3 now_wide colours weighted weights
  unfolding refuse
  load_number_lem =
      load_tests_in Narrow b1 b2 b3 t colours weighted weights e
      ∙ (λ i. load_tests_lem (same_size f i) (same_sound f i) (le-ltb (limit_of Narrow) (all (narrow_view t)) under i) 15)
      ∙ (λ i. load_tests_lem (is_sized now_wide (bins_of g)) (sound limit g (narrow_view t))
      (sym (le-ltb limit (all (narrow_view t)) (omega (arith, under))) i) 7)
      ∙ ap (λ (v : View). load_tests_lem (is_sized now_wide (bins_of g)) (sound limit g v) (ltb limit (all v)) 7)
      (sym (same_view f))
      ∙ sym (load_tests_in Wide b1 b2 b3 now_wide colours weighted weights e)

  -- what a load that is done leaves
  load_left : (l : Layout) (s : TableIn l) → load_number_in l b1 b2 b3 s colours weighted weights ≡ 0
      → load_later_in l b1 b2 b3 s colours weighted weights
      ≡ written_in l (bins_of g) (loaded g (batch_of colours weighted weights) (view_in l s))
  load_left l s n =
      let d = load_says_in l b1 b2 b3 s colours weighted weights n in
      subst (λ (h : Grid). load_later_in l b1 b2 b3 s colours weighted weights
      ≡ written_in l (bins_of h) (loaded h (batch_of colours weighted weights) (view_in l s)))
      (same_grid d.chosen e) (holds_list_in l d.holds)

  load_view : load_number_in Narrow b1 b2 b3 t colours weighted weights ≡ 0
      → load_number b1 b2 b3 now_wide colours weighted weights ≡ 0
      → narrow_view (load_later_in Narrow b1 b2 b3 t colours weighted weights)
      ≡ view_of (load_later b1 b2 b3 now_wide colours weighted weights)
  load_view n m =
      ap narrow_view (load_left Narrow t n)
      ∙ sym (narrow_wide (bins_of g) (loaded g (batch_of colours weighted weights) (narrow_view t)))
      ∙ ap (λ (v : View). view_of (written (bins_of g) (loaded g (batch_of colours weighted weights) v)))
      (sym (same_view f))
      ∙ sym (ap view_of (load_left Wide now_wide m))

  pub narrow_load_is_wide : SameLoads b1 b2 b3 t (widened (bins_of g) t) colours weighted weights
  narrow_load_is_wide =
      record {
        number = load_number_lem;
        leaves = same_left _ _ load_number_lem t _ now_wide _ (sym (same_view f))
            (λ k q. load_refused_in Narrow b1 b2 b3 t colours weighted weights q)
            (λ k q. load_refused_in Wide b1 b2 b3 now_wide colours weighted weights q) load_view;
      }

-- ---- the merge
module _ (b1 b2 b3 : ℕ) {g : Grid} (e : grid_of b1 b2 b3 ≡ Some g) {t s : NarrowTable} (f : Fits g t)
    (h : Fits g s) (under : total g (narrow_view t) + total g (narrow_view s) ≤ limit_of Narrow) where
  abbrev first_wide : Table
  first_wide = widened (bins_of g) t

  abbrev second_wide : Table
  second_wide = widened (bins_of g) s

  abbrev both_totals : View → View → ℕ
  both_totals v u = total g v + total g u

  abbrev merge_tests_lem : Bool → Bool → Bool → ℕ → ℕ
  merge_tests_lem sized are_sound past beyond = refuse (not sized) 5 (refuse (not are_sound) 6 (refuse past beyond 0))

  merge_number_lem : merge_number_in Narrow b1 b2 b3 t s ≡ merge_number b1 b2 b3 first_wide second_wide
  unfolding refuse
  merge_number_lem =
      merge_tests_in Narrow b1 b2 b3 t s e
      ∙ (λ i. merge_tests_lem (same_size f i && same_size h i) (same_sound f i && same_sound h i)
      (le-ltb (limit_of Narrow) (both_totals (narrow_view t) (narrow_view s)) under i) 15)
      ∙ (λ i. merge_tests_lem (is_sized first_wide (bins_of g) && is_sized second_wide (bins_of g))
      (sound limit g (narrow_view t) && sound limit g (narrow_view s))
      (sym (le-ltb limit (both_totals (narrow_view t) (narrow_view s)) (omega (arith, under))) i) 7)
      ∙ (λ i. merge_tests_lem (is_sized first_wide (bins_of g) && is_sized second_wide (bins_of g))
      (sound limit g (sym (same_view f) i) && sound limit g (sym (same_view h) i))
      (ltb limit (both_totals (sym (same_view f) i) (sym (same_view h) i))) 7)
      ∙ sym (merge_tests_in Wide b1 b2 b3 first_wide second_wide e)

  merge_left : (l : Layout) (x y : TableIn l) → merge_number_in l b1 b2 b3 x y ≡ 0
      → merge_later_in l b1 b2 b3 x y ≡ written_in l (bins_of g) (merged (view_in l x) (view_in l y))
  merge_left l x y n =
      let d = merge_says_in l b1 b2 b3 x y n in
      subst (λ (h : Grid). merge_later_in l b1 b2 b3 x y ≡ written_in l (bins_of h) (merged (view_in l x) (view_in l y)))
      (same_grid d.chosen e) (holds_list_in l d.holds)

  merge_view : merge_number_in Narrow b1 b2 b3 t s ≡ 0 → merge_number b1 b2 b3 first_wide second_wide ≡ 0
      → narrow_view (merge_later_in Narrow b1 b2 b3 t s) ≡ view_of (merge_later b1 b2 b3 first_wide second_wide)
  merge_view n m =
      ap narrow_view (merge_left Narrow t s n)
      ∙ sym (narrow_wide (bins_of g) (merged (narrow_view t) (narrow_view s)))
      ∙ (λ i. view_of (written (bins_of g) (merged (sym (same_view f) i) (sym (same_view h) i))))
      ∙ sym (ap view_of (merge_left Wide first_wide second_wide m))

  pub narrow_merge_is_wide : SameMerges b1 b2 b3 t s (widened (bins_of g) t) (widened (bins_of g) s)
  narrow_merge_is_wide =
      record {
        number = merge_number_lem;
        leaves = same_left _ _ merge_number_lem t _ first_wide _ (sym (same_view f))
            (λ k q. merge_refused_in Narrow b1 b2 b3 t s q)
            (λ k q. merge_refused_in Wide b1 b2 b3 first_wide second_wide q) merge_view;
      }

-- ---- the cut
module _ (source : Source) (b1 b2 b3 k : ℕ) {g : Grid} (e : grid_of b1 b2 b3 ≡ Some g) {t : NarrowTable}
    (f : Fits g t) (narrow : NarrowTable) (wide : Table) (same : SameWork g narrow wide) (r : Results) where
  abbrev w : Table
  w = widened (bins_of g) t

  abbrev v : View
  v = narrow_view t

  abbrev fit_narrow : Bool
  fit_narrow = lengths_right Narrow source g k t (with_narrow narrow r)

  abbrev fit_wide : Bool
  fit_wide = lengths_right Wide source g k w (with_wide wide r)

  same_lengths : fit_narrow ≡ fit_wide
  same_lengths =
      λ i. long_enough source g k (same_size f i)
      (record {
        work = same i;
        palette = length r.palette;
        counts = length r.counts;
        remainders = length r.remainders;
        map = length r.map;
      })

  same_number : cut_number_on (limit_of Narrow) g k fit_narrow v ≡ cut_number_on limit g k fit_wide (view_of w)
  unfolding cut_number_on
  same_number =
      rw (same_sound f) (ap (λ (fit : Bool). cut_number_on limit g k fit v) same_lengths)
      ∙ ap (λ (u : View). cut_number_on limit g k fit_wide u) (sym (same_view f))

  same_results : (n m : ℕ) → n ≡ m
      → (when_done n (later_on Narrow source g v k (with_narrow narrow r)) (with_narrow narrow r)).results
      ≡ (when_done m (later_on Wide source g (view_of w) k (with_wide wide r)) (with_wide wide r)).results
  unfolding when_done later_on
  same_results n zero q = rw q (ap (λ (u : View). results_on g u k r) (sym (same_view f)))
  same_results n (suc m) q = rw q refl

  -- the moments, in a work table of either layout
  same_moments : narrow_view (narrow_written (bins_of g) (moments_of g v))
      ≡ view_of (written (bins_of g) (moments_of g (view_of w)))
  same_moments =
      sym (narrow_wide (bins_of g) (moments_of g v))
      ∙ ap (λ (u : View). view_of (written (bins_of g) (moments_of g u))) (sym (same_view f))

  -- a cut with moments that is done has them there, whatever stood there; the slow cut, and a refusal, write nothing
  moments_left : (l : Layout) (s : TableIn l) (b : BuffersIn l) → source ≡ Moments
      → cut_number_in l source b1 b2 b3 k s b ≡ 0
      → (cut_later_in l source b1 b2 b3 k s b).work ≡ written_in l (bins_of g) (moments_of g (view_in l s))
  unfolding later_on
  moments_left l s b by-moments n =
      ap (λ (x : BuffersIn l). x.work) (cut_says l source b1 b2 b3 k s b e n).leaves
      ∙ ap (λ (x : Source). work_later x l g (view_in l s) b.work) by-moments

  slow_stays : (l : Layout) (s : TableIn l) (b : BuffersIn l) → source ≡ Bins
      → (cut_later_in l source b1 b2 b3 k s b).work ≡ b.work
  slow_stays l s b by-bins = rw by-bins (bins_leave_work l b1 b2 b3 k s b)

  refused_stays : (l : Layout) (s : TableIn l) (b : BuffersIn l) {n : ℕ} → cut_number_in l source b1 b2 b3 k s b ≡ suc n
      → (cut_later_in l source b1 b2 b3 k s b).work ≡ b.work
  refused_stays l s b q = ap (λ (x : BuffersIn l). x.work) (cut_refuses l source b1 b2 b3 k s b q).1

  cut_number_lem : cut_number_in Narrow source b1 b2 b3 k t (with_narrow narrow r)
      ≡ cut_number source b1 b2 b3 k w (with_wide wide r)
  unfolding cut_number_in number_on on_grid
  cut_number_lem = rw e same_number

  pub narrow_cut_is_wide : SameCuts source b1 b2 b3 k t (widened (bins_of g) t) narrow wide r
  unfolding cut_record_in cut_later_in record_on on_grid
  narrow_cut_is_wide =
      let n = cut_number_on (limit_of Narrow) g k fit_narrow v in
      let m = cut_number_on limit g k fit_wide (view_of w) in
      record {
        number = cut_number_lem;
        hands = rw e
            (λ i. when_done (same_number i) (done_record (boxes_of g (sym (same_view f) i) k))
            (refused_record (same_number i)));
        leaves = rw e (same_results n m same_number);
        work = λ by-moments z.
            ap narrow_view (moments_left Narrow t (with_narrow narrow r) by-moments z)
            ∙ same_moments
            ∙ sym (ap view_of (moments_left Wide w (with_wide wide r) by-moments (sym cut_number_lem ∙ z)));
        slow = λ by-bins.
            record {
              in_narrow = slow_stays Narrow t (with_narrow narrow r) by-bins;
              in_wide = slow_stays Wide w (with_wide wide r) by-bins;
            };
        refused = λ j q.
            record {
              in_narrow = refused_stays Narrow t (with_narrow narrow r) q;
              in_wide = refused_stays Wide w (with_wide wide r) (sym cut_number_lem ∙ q);
            };
      }

-- ---- the widening
module _ (b1 b2 b3 : ℕ) {g : Grid} (e : grid_of b1 b2 b3 ≡ Some g) (t : NarrowTable) (old : Table)
    (n : widen_number b1 b2 b3 t old ≡ 0) where
  -- the narrow table of a widening that is done is sound on the grid, and its wide table is the one above
  fits_widened : Fits g t × (sound (limit_of Narrow) g (narrow_view t) ≡ true)
      × (widen_later b1 b2 b3 t old ≡ widened (bins_of g) t)
  fits_widened =
      let d = widen_says b1 b2 b3 t old n in
      subst (λ (h : Grid). Fits h t × (sound (limit_of Narrow) h (narrow_view t) ≡ true)
      × (widen_later b1 b2 b3 t old ≡ widened (bins_of h) t)) (same_grid d.chosen e)
      (record { lent = d.lent; under = total_high d.sound_before }, d.sound_before.holds, d.later)

  -- "widening a narrow table then cutting is the same as cutting it"
  pub widen_then_cut : (source : Source) (k : ℕ) (narrow : NarrowTable) (wide : Table) → SameWork g narrow wide
      → (r : Results) → SameCuts source b1 b2 b3 k t (widen_later b1 b2 b3 t old) narrow wide r
  widen_then_cut source k narrow wide same r =
      rw fits_widened.2 (narrow_cut_is_wide source b1 b2 b3 k e fits_widened.0 narrow wide same r)

  -- "The wide table of a sound narrow one is sound, with the same total"
  pub widen_keeps : Widening g t (widen_later b1 b2 b3 t old)
  widen_keeps =
      let f = fits_widened.0 in
      rw fits_widened.2
      (record {
        view = same_view f;
        is_sound = ap (λ (v : View). sound limit g v) (same_view f) ∙ sym (same_sound f) ∙ fits_widened.1;
        total_is = ap (λ (v : View). total g v) (same_view f);
      })

-- ---- plans of loads and merges
-- the table of some colours, widened, is the wide one
widened_table : (g : Grid) (cs : List Weighted) → widened (bins_of g) (table_in Narrow g cs) ≡ table_of g cs
widened_table g cs =
    holds_list_in Wide
    (widened_same (bins_of g) (table_in Narrow g cs) (loaded g cs zeros) (table_holds_in Narrow g cs))
    ∙ sym (holds_list_in Wide (table_holds_in Wide g cs))

-- a plan that ran to a narrow table runs in the wide layout to the widened one; so with `narrow_cut_is_wide` what Full
-- and Tiling say of the tables that plans ran to is true of narrow ones
pub narrow_plan_is_wide : (b1 b2 b3 : ℕ) {g : Grid} → grid_of b1 b2 b3 ≡ Some g → (p : Plan) → BytesIn p
    → {t : NarrowTable} → ends_in Narrow b1 b2 b3 p ≡ Filled t → SamePlans b1 b2 b3 g p t
narrow_plan_is_wide b1 b2 b3 {g} e p y ran =
    let d = filled_table b1 b2 b3 e p y ran in
    let formed = filled_formed b1 b2 b3 e p y ran in
    let a = (chose b1 b2 b3 g e).accepted in
    rw d.1
    (record {
      fits = record {
        lent = (table_holds_in Narrow g (leaves p)).lent;
        under = rw (table_total_in Narrow g a (leaves p) (leaves_bytes p y)) d.0;
      };
      runs =
          (any_order b1 b2 b3 e p p y y formed formed (Perm.refl (leaves p)) (omega (arith, d.0))).0
          ∙ ap Filled (sym (widened_table g (leaves p)));
    })
