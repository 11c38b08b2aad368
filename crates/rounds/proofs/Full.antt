-- How many boxes a loop ends with: as many as the smaller of k and the occupied bins, where boxes with two occupied
-- bins have a spread above 0.
-- Assumes nothing.
use mathlib.Core.Path.{◌≡◌}
use mathlib.Core.Bool.{true≢false}
use mathlib.Core.List.{List, [], ◌∷◌}
use Prim.Native.Nat.{ℕ, zero, suc, ◌*◌, ◌≤◌, ◌<◌, min}
use native.Mathlib.Omega.{arith}
use lib.ListN.{length}
use lib.Ieee.{lt}
use Rattle.grid.specs.declared.place.Grid.{Grid}
use Rattle.basics.specs.Range.{sum_from}
use Rattle.grid.specs.Grid.{Accepted, bins_of}
use Rattle.table.specs.Cell.{View}
use Rattle.table.specs.Sound.{limit, total}
use Rattle.table.proofs.Soundness.{Sound}
use Rattle.boxes.proofs.Held.{in_holds}
use Rattle.boxes.specs.declared.sides.Bounds.{Bounds}
use Rattle.bins.specs.Sum.{marks, occupied_in}
use Rattle.boxes.specs.Box.{low_side, high_side}
use Rattle.bins.proofs.Laws.{cut_sum}
use Rattle.bins.proofs.Occupied.{Two, some_occupied, one_at_most}
use Rattle.std.specs.Prelude.{None}
use Rattle.spread.specs.Spread.{SpreadsAbove}
use Rattle.spread.specs.Cut.{best_cut}
use Rattle.spread.proofs.Best.{two_occupied}
use Rattle.heap.specs.Heap.{item, sum_items}
use Rattle.heap.specs.Boxes.{BoxSpread}
use Rattle.rounds.specs.Loop.{no_item, with_spread, start, heap_of}
use Rattle.boxes.specs.Box.{whole_of}
use Rattle.rounds.proofs.Grids.{whole_sum}
use Rattle.rounds.proofs.Filled.{Each, Kept, Fit, at_start, each_rounds, start_each, heap_fit, heap_most}
use Rattle.rounds.proofs.Cover.{Additive, over, over_heap}
use Rattle.rounds.proofs.Ends.{Sane, sane_kept, start_sane, Cold, Ended, full as reached, cold}
use Rattle.rounds.proofs.Ends.{heap_end}

-- ---- sums over the boxes in use, whose terms are 1 at least, or at most
module _ (f : Bounds → ℕ) where
  over_least : (h : List BoxSpread) (n : ℕ) → n ≤ length h → ((p : ℕ) → p < n → 1 ≤ f (item no_item h p).bounds)
      → n ≤ over f h n
  unfolding over sum_items
  over_least h zero l all = omega arith
  over_least [] (suc n) l all = absurd (omega arith)
  over_least (x ∷ h) (suc n) l all =
      omega (arith, all 0 (omega arith), over_least h n (omega arith) (λ p m. all (suc p) (omega arith)))

  over_most : (h : List BoxSpread) (n : ℕ) → ((p : ℕ) → p < n → f (item no_item h p).bounds ≤ 1) → over f h n ≤ n
  unfolding over sum_items
  over_most h zero all = omega arith
  over_most [] (suc n) all = omega arith
  over_most (x ∷ h) (suc n) all = omega (arith, all 0 (omega arith), over_most h n (λ p m. all (suc p) (omega arith)))

-- ---- a box that is not to be cut has no two occupied bins
pub record Honest (g : Grid) (v : View) (x : BoxSpread) : Type 0 where
  pub sane : Sane g v x
  pub single : Cold x → Two g v x.bounds → ⊥

module _ {g : Grid} {v : View} (s : Sound limit g v) (spreads : SpreadsAbove g v) where
  -- one without a position
  zero_single : (x : Bounds) → best_cut g v x ≡ None → Two g v x → ⊥
  zero_single x q t =
      two_occupied g v x t.one.in_box t.other.in_box t.one.some t.other.some t.apart q

  -- one with its own spread
  spread_honest : (x : Bounds) → Sane g v (with_spread g v x) → Honest g v (with_spread g v x)
  unfolding with_spread
  spread_honest x h =
      record {
        sane = h;
        single = λ c t.
            let a = t.one in
            let b = t.other in
            let above = spreads.above x h.fit.within a.one a.two a.three b.one b.two b.three
            (in_holds a.in_box) (in_holds b.in_box) a.some b.some t.apart in
            rw c at above;
      }

  honest_kept : Kept g v (Honest g v)
  honest_kept =
      record {
        zero_too = λ x h q.
            record { sane = (sane_kept s).zero_too x h.sane q; single = λ c t. zero_single x.bounds q t };
        sides_too = λ x h {at} q.
            let both = (sane_kept s).sides_too x h.sane q in
            (spread_honest (low_side x.bounds at.dimension at.bin) both.0, spread_honest (high_side x.bounds at.dimension at.bin) both.1);
      }

  module _ (a : Accepted g) (l : 0 < total g v) where
    -- the start, at infinity, is to be cut
    start_honest : Honest g v (at_start g)
    unfolding lt
    start_honest = record { sane = start_sane a l; single = λ c t. true≢false c }

    heap_honest : (k : ℕ) → k ≤ 256 → Each (Honest g v) (heap_of g v k).room (heap_of g v k).boxes
    unfolding heap_of start
    heap_honest k most = each_rounds honest_kept k (2 * k) most (start g) (start_each g start_honest)

-- ---- the occupied bins of the boxes are those of the grid
occupied_adds : (g : Grid) (v : View) → Additive (occupied_in g v)
unfolding occupied_in
occupied_adds g v = record { adds = λ x d c h l. cut_sum g (marks v) x d c 0 h l }

pub occupied_whole : (g : Grid) (v : View) → occupied_in g v (whole_of g) ≡ sum_from 0 (bins_of g) (λ p. marks v p 0)
unfolding occupied_in
occupied_whole g v = whole_sum g (marks v) 0

-- ---- as many boxes as the smaller of k and the occupied bins
pub full : {g : Grid} {v : View} → Sound limit g v → Accepted g → 0 < total g v → SpreadsAbove g v → (k : ℕ) → 1 ≤ k
    → k ≤ 256
    → (heap_of g v k).boxes ≡ min k (occupied_in g v (whole_of g))
full {g} {v} s a l spreads k least most =
    go (heap_end s a l k most)
  where
    fit : Each (Fit g v) (heap_of g v k).room (heap_of g v k).boxes
    fit = heap_fit a l k most

    all : over (occupied_in g v) (heap_of g v k).room (heap_of g v k).boxes ≡ occupied_in g v (whole_of g)
    all = over_heap (occupied_adds g v) g v k most

    each_some : (heap_of g v k).boxes ≤ over (occupied_in g v) (heap_of g v k).room (heap_of g v k).boxes
    each_some =
        over_least (occupied_in g v) (heap_of g v k).room (heap_of g v k).boxes
        (omega (arith, fit.in_use.long, fit.in_use.most))
        (λ p m. some_occupied g v (item no_item (heap_of g v k).room p).bounds (fit.each p m).some)

    go : Ended k (heap_of g v k).room (heap_of g v k).boxes → (heap_of g v k).boxes ≡ min k (occupied_in g v (whole_of g))
    go (reached enough) = omega (arith, all, each_some, heap_most g v k least most)
    go (cold none) =
        let honest = heap_honest s spreads a l k most in
        let each-one : over (occupied_in g v) (heap_of g v k).room (heap_of g v k).boxes ≤ (heap_of g v k).boxes =
        over_most (occupied_in g v) (heap_of g v k).room (heap_of g v k).boxes
        (λ p m. one_at_most (fit.each p m).within ((honest.each p m).single (none.each p m))) in
        omega (arith, all, each_some, each-one, heap_most g v k least most)
