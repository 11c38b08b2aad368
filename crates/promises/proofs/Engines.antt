-- The two engines (Rules, Engines): the cut that adds up bins gives what the cut with moments gives, refusals too, and
-- touches nothing else. So Tiling, Full, Rounds, Remainders and Order, which speak of either, say the same of both.
-- Assumes nothing.
use Rattle.std.specs.Prelude.{None, Option, Some}
use mathlib.Core.Path.{◌≡◌, refl, ap, ◌∙◌, sym}
use mathlib.Core.Logic.{◌⊎◌, inl, inr, ⊎_elim}
use mathlib.Core.Bool.{Bool, true, false, not, ◌&&◌}
use mathlib.Core.List.{List}
use Prim.Native.Nat.{ℕ, zero, suc}
use native.Mathlib.Omega.{arith}
use lib.Dec.{eqb, leb}
use lib.ListN.{length}
use lib.Ieee.{Float}
use Rattle.basics.specs.Answer.{refuse, when_done}
use Rattle.grid.specs.declared.place.Grid.{Grid}
use Rattle.grid.specs.Grid.{grid_of, grid_answer, on_grid, number_on}
use Rattle.table.specs.Layouts.{Layout}
use Rattle.table.specs.Cell.{View}
use Rattle.table.specs.Layout.{TableIn, view_in}
use Rattle.table.specs.Sound.{limit_of, total, sound}
use Rattle.sums.specs.declared.source.Source.{Source}
use Rattle.sums.specs.declared.source.Source.TheVariants.{Moments, Bins}
use Rattle.rounds.specs.Loop.{boxes_of}
use Rattle.cutter.specs.Record.{CutRecord}
use Rattle.cutter.specs.Cut.{Results, BuffersIn, work_fits, long_enough, lengths_right, cut_number_on, cut_number_in}
use Rattle.cutter.specs.Cut.{refused_record, done_record, record_on, cut_record_in, later_on, cut_later_in}
use Rattle.cutter.specs.Fronts.{filled}
use Rattle.cutter.proofs.Refusals.{fit_moments}
use Rattle.cutter.proofs.Laws.{bins_leave_work}
use Rattle.seluvava.specs.Cut.{LentIn, lent_in, all_long, call_number_on, call_number_in, call_later_in, its_bytes, spread_of, told}
use Rattle.seluvava.specs.Inner.{room_number}
use Rattle.seluvava.proofs.Calls.{in_stages, call_kept, call_has, call_leaves_work}
use Rattle.promises.specs.Engines.{without_work, with_work, SameEngines, SameCalls, ExactWork, FirstTwo}

-- ---- 1 and 2 are found before any length is looked at
-- where a chain answers 1 or 2 on an accepted grid, k is not within its bounds
k_wrong : (size fit good none : Bool)
    → FirstTwo (refuse (not size) 2 (refuse (not fit) 5 (refuse (not good) 6 (refuse none 8 0)))) → size ≡ false
unfolding refuse
k_wrong false fit good none e = refl
k_wrong true false good none e = absurd (⊎_elim (λ q. omega (arith, q)) (λ q. omega (arith, q)) e)
k_wrong true true false none e = absurd (⊎_elim (λ q. omega (arith, q)) (λ q. omega (arith, q)) e)
k_wrong true true true true e = absurd (⊎_elim (λ q. omega (arith, q)) (λ q. omega (arith, q)) e)
k_wrong true true true false e = absurd (⊎_elim (λ q. omega (arith, q)) (λ q. omega (arith, q)) e)

-- and then every chain answers 2
numbers_two : (most : ℕ) (g : Grid) (k : ℕ) (v : View) (one other : Bool) → FirstTwo (cut_number_on most g k one v)
    → cut_number_on most g k one v ≡ cut_number_on most g k other v
unfolding cut_number_on refuse
numbers_two most g k v one other e =
    rw (k_wrong (leb 1 k && leb k 256) one (sound most g v) (eqb (total g v) 0) e) refl

not_done : {n m : ℕ} → n ≡ m → FirstTwo n ⊎ FirstTwo m → m ≡ 0 → ⊥
not_done e (inl (inl q)) z = omega (arith, e, q, z)
not_done e (inl (inr q)) z = omega (arith, e, q, z)
not_done e (inr (inl q)) z = omega (arith, q, z)
not_done e (inr (inr q)) z = omega (arith, q, z)

-- ---- the cut
module _ (layout : Layout) (b1 b2 b3 k : ℕ) (t work : TableIn layout) (r : Results) where
  abbrev fit : Source → Grid → Bool
  fit Moments g = lengths_right layout Moments g k t (with_work layout work r)
  fit Bins g = lengths_right layout Bins g k t (without_work layout r)

  abbrev number_on_lem : Source → Grid → ℕ
  number_on_lem source g = cut_number_on (limit_of layout) g k (fit source g) (view_in layout t)

  -- no grid: neither looks at anything else
  same_without_grid : grid_of b1 b2 b3 ≡ None → SameEngines layout b1 b2 b3 k t work r
  unfolding cut_number_in cut_record_in cut_later_in number_on on_grid grid_answer
  same_without_grid e = record { number = rw e refl; hands = rw e refl; leaves = rw e refl }

  -- on a grid the answer decides
  same_by_number : {g : Grid} → grid_of b1 b2 b3 ≡ Some g → number_on_lem Bins g ≡ number_on_lem Moments g
      → SameEngines layout b1 b2 b3 k t work r
  unfolding cut_number_in cut_record_in cut_later_in record_on number_on on_grid when_done later_on
  same_by_number {g} e m =
      record {
        number = rw e m;
        hands = rw e
            (ap (λ (n : ℕ). when_done n (done_record (boxes_of g (view_in layout t) k)) (refused_record n)) m);
        leaves = rw e (of (number_on_lem Bins g) (number_on_lem Moments g) m);
      }
    where
      of : (n o : ℕ) → n ≡ o
          → (when_done n (later_on layout Bins g (view_in layout t) k (without_work layout r)) (without_work layout r)).results
          ≡ (when_done o (later_on layout Moments g (view_in layout t) k (with_work layout work r)) (with_work layout work r)).results
      of n zero q = rw q refl
      of n (suc o) q = rw q refl

  -- a work table of its length fits, and so the lengths fit or not alike
  same_fit : (g : Grid) → ExactWork layout g work → fit Bins g ≡ fit Moments g
  unfolding long_enough work_fits
  same_fit g h = sym (rw (fit_moments h) refl)

  -- "the same boxes, order, palette, counts and map on every sound table, and the same refusals"
  pub engines_agree : {g : Grid} → grid_of b1 b2 b3 ≡ Some g → ExactWork layout g work
      → SameEngines layout b1 b2 b3 k t work r
  engines_agree {g} e h = same_by_number e (ap (λ (b : Bool). cut_number_on (limit_of layout) g k b (view_in layout t)) (same_fit g h))

  -- 1 and 2, whatever is lent as a work table, by either engine's answer
  first_two : (c : Option Grid) → grid_of b1 b2 b3 ≡ c
      → FirstTwo (number_on c (number_on_lem Bins)) ⊎ FirstTwo (number_on c (number_on_lem Moments))
      → SameEngines layout b1 b2 b3 k t work r
  unfolding number_on on_grid
  first_two None e f = same_without_grid e
  first_two (Some g) e (inl f) = same_by_number e (numbers_two (limit_of layout) g k (view_in layout t) (fit Bins g) (fit Moments g) f)
  first_two (Some g) e (inr f) = same_by_number e (sym (numbers_two (limit_of layout) g k (view_in layout t) (fit Moments g) (fit Bins g) f))

  pub first_refusals : FirstTwo (cut_number_in layout Bins b1 b2 b3 k t (without_work layout r))
      ⊎ FirstTwo (cut_number_in layout Moments b1 b2 b3 k t (with_work layout work r)) → SameEngines layout b1 b2 b3 k t work r
  unfolding cut_number_in
  first_refusals = first_two (grid_of b1 b2 b3) refl

-- the engine that adds up bins "touches nothing else": it is lent no work table, and would leave one as it was
pub touches_nothing_else : (layout : Layout) (b1 b2 b3 k : ℕ) (t : TableIn layout) (b : BuffersIn layout)
    → (cut_later_in layout Bins b1 b2 b3 k t b).work ≡ b.work
touches_nothing_else = bins_leave_work

-- ---- the calls for C and Rust
module _ (layout : Layout) (b1 b2 b3 k : ℕ) (t work : TableIn layout) (r : Results) (boxes : List ℕ) (spreads : List Float) where
  abbrev slow : LentIn layout
  slow = lent_in layout (without_work layout r) boxes spreads

  abbrev fast : LentIn layout
  fast = lent_in layout (with_work layout work r) boxes spreads

  abbrev Same : Type 0
  Same = SameCalls layout b1 b2 b3 k t work r boxes spreads

  -- where both answer the same and, if that is 0, the cuts beneath agree
  calls_by_number : call_number_in layout Bins b1 b2 b3 k t slow ≡ call_number_in layout Moments b1 b2 b3 k t fast
      → (call_number_in layout Moments b1 b2 b3 k t fast ≡ 0 → SameEngines layout b1 b2 b3 k t work r) → Same
  calls_by_number m agree = go (call_number_in layout Moments b1 b2 b3 k t fast) refl
    where
      go : (n : ℕ) → call_number_in layout Moments b1 b2 b3 k t fast ≡ n → Same
      go zero e =
          let s = agree e in
          let one = call_has layout Bins b1 b2 b3 k t slow (m ∙ e) in
          let two = call_has layout Moments b1 b2 b3 k t fast e in
          record {
            answer = one.0
                ∙ ap (λ (x : CutRecord). record { number = 0; boxes = x.boxes; rounds = x.rounds }) s.hands
                ∙ sym two.0;
            leaves = ap (λ (l : LentIn layout). l.buffers.results) one.1 ∙ s.leaves
                ∙ sym (ap (λ (l : LentIn layout). l.buffers.results) two.1);
            boxes_left = ap (λ (l : LentIn layout). l.boxes) one.1
                ∙ ap (λ (x : CutRecord). filled 6 its_bytes (told x) boxes) s.hands
                ∙ sym (ap (λ (l : LentIn layout). l.boxes) two.1);
            spreads_left = ap (λ (l : LentIn layout). l.spreads) one.1
                ∙ ap (λ (x : CutRecord). filled 1 spread_of (told x) spreads) s.hands
                ∙ sym (ap (λ (l : LentIn layout). l.spreads) two.1);
          }
      go (suc n) e =
          let one = call_kept layout Bins b1 b2 b3 k t slow (m ∙ e) in
          let two = call_kept layout Moments b1 b2 b3 k t fast e in
          record {
            answer = one.0 ∙ sym two.0;
            leaves = ap (λ (l : LentIn layout). l.buffers.results) one.1
                ∙ sym (ap (λ (l : LentIn layout). l.buffers.results) two.1);
            boxes_left = ap (λ (l : LentIn layout). l.boxes) one.1 ∙ sym (ap (λ (l : LentIn layout). l.boxes) two.1);
            spreads_left = ap (λ (l : LentIn layout). l.spreads) one.1 ∙ sym (ap (λ (l : LentIn layout). l.spreads) two.1);
          }

  -- each call's answer is that of the room for the boxes, and then that of its cut
  same_call_number : SameEngines layout b1 b2 b3 k t work r
      → call_number_in layout Bins b1 b2 b3 k t slow ≡ call_number_in layout Moments b1 b2 b3 k t fast
  same_call_number s =
      in_stages layout Bins b1 b2 b3 k t slow
      ∙ ap (λ (n : ℕ). when_done (room_number b1 b2 b3 k (length boxes) (length spreads)) n
      (room_number b1 b2 b3 k (length boxes) (length spreads))) s.number
      ∙ sym (in_stages layout Moments b1 b2 b3 k t fast)

  -- the calls agree on a grid with a work table of its length
  pub calls_agree : {g : Grid} → grid_of b1 b2 b3 ≡ Some g → ExactWork layout g work
      → SameCalls layout b1 b2 b3 k t work r boxes spreads
  calls_agree e h =
      let s = engines_agree layout b1 b2 b3 k t work r e h in calls_by_number (same_call_number s) (λ z. s)

  -- and by 1 and 2 whatever is lent as a work table
  first_two_calls : (c : Option Grid) → grid_of b1 b2 b3 ≡ c
      → FirstTwo (number_on c (λ g. call_number_on layout Bins g k t slow))
      ⊎ FirstTwo (number_on c (λ g. call_number_on layout Moments g k t fast))
      → number_on c (λ g. call_number_on layout Bins g k t slow) ≡ number_on c (λ g. call_number_on layout Moments g k t fast)
  unfolding number_on on_grid call_number_on
  first_two_calls None e f = refl
  first_two_calls (Some g) e (inl f) =
      numbers_two (limit_of layout) g k (view_in layout t) (all_long layout Bins g k t slow) (all_long layout Moments g k t fast) f
  first_two_calls (Some g) e (inr f) =
      sym (numbers_two (limit_of layout) g k (view_in layout t) (all_long layout Moments g k t fast) (all_long layout Bins g k t slow) f)

  pub first_call_refusals : FirstTwo (call_number_in layout Bins b1 b2 b3 k t (lent_in layout (without_work layout r) boxes spreads))
      ⊎ FirstTwo (call_number_in layout Moments b1 b2 b3 k t (lent_in layout (with_work layout work r) boxes spreads)) → SameCalls layout b1 b2 b3 k t work r boxes spreads
  unfolding call_number_in
  first_call_refusals f =
      let m = first_two_calls (grid_of b1 b2 b3) refl f in calls_by_number m (λ z. absurd (not_done m f z))

pub call_touches_nothing_else : (layout : Layout) (b1 b2 b3 k : ℕ) (t : TableIn layout) (l : LentIn layout)
    → (call_later_in layout Bins b1 b2 b3 k t l).buffers.work ≡ l.buffers.work
call_touches_nothing_else = call_leaves_work
