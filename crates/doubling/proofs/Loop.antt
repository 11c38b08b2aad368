-- The loop on a table whose numbers are all multiplied by a power of two: the same boxes in the same order after as
-- many rounds, their spreads grown.
-- Assumes nothing.
use Rattle.std.specs.Prelude.{Option, None, Some}
use mathlib.Core.Path.{◌≡◌, refl, sym, ap, ◌∙◌}
use mathlib.Core.Bool.{Bool, true, false, cond}
use mathlib.Core.List.{List, map}
use Prim.Native.Nat.{ℕ, zero, suc, ◌+◌, ◌-◌, ◌*◌, ◌≤◌, ◌<◌}
use native.Mathlib.Nat.{pos_of_ne-zero}
use native.Mathlib.Omega.{arith}
use borrow.Author.Tests.{ltb-true}
use lib.Dec.{ltb}
use lib.Ieee.{Float, lt}
use Rattle.grid.specs.declared.place.Grid.{Grid}
use Rattle.grid.specs.Grid.{Accepted}
use Rattle.table.specs.Cell.{View}
use Rattle.table.specs.Sound.{limit, total}
use Rattle.table.proofs.Soundness.{Sound}
use Rattle.boxes.specs.declared.sides.Bounds.{Bounds}
use Rattle.boxes.specs.Box.{low_side, high_side, Within}
use Rattle.bins.specs.Sum.{box_sum}
use Rattle.spread.specs.declared.position.Position.{Position}
use Rattle.spread.specs.Spread.{zero_of}
use Rattle.spread.specs.Cut.{best_cut}
use Rattle.spread.proofs.Best.{answered}
use Rattle.heap.specs.Heap.{item, put_in, take_out}
use Rattle.heap.proofs.View.{KeepsOrder, item_view, put_in_view, take_out_view}
use Rattle.heap.specs.Boxes.{BoxSpread}
use Rattle.rounds.specs.Loop.{by_spread, no_item, with_spread, with_zero, Heap, start_room, start, room_after, boxes_after}
use Rattle.rounds.specs.Loop.{round_room, round_boxes, round, rounds, heap_of}
use Rattle.spread.proofs.Cases.{low_box, high_box}
use Rattle.rounds.proofs.Filled.{Each, Fit, fit_kept, each_round, start_each, start_fit}
use Rattle.doubling.specs.Grow.{doubled, new_exponent, grow, grow_position, grow_box, grow_room, grow_heap}
use Rattle.doubling.proofs.Grow.{lt_grow, le_grow, zero_grow}
use Rattle.doubling.proofs.Cut.{spread_doubled, cut_doubled}

-- ---- the room
module _ (t : ℕ) where
  keeps_order : KeepsOrder (grow_box t) by_spread by_spread
  unfolding grow_box
  keeps_order =
      record {
        less = λ x y. lt_grow t x.spread y.spread;
        at_most = λ x y. le_grow t x.spread y.spread;
      }

  none_grow : grow_box t no_item ≡ no_item
  unfolding grow_box grow
  none_grow = refl

  pub item_grow : (h : List BoxSpread) (p : ℕ) → item no_item (grow_room t h) p ≡ grow_box t (item no_item h p)
  unfolding grow_room
  item_grow h p =
      ap (λ (z : BoxSpread). item z (map (grow_box t) h) p) (sym none_grow)
      ∙ item_view (grow_box t) by_spread by_spread keeps_order no_item h p

  put_grow : (h : List BoxSpread) (n : ℕ) (x : BoxSpread)
      → put_in by_spread no_item (grow_room t h) n (grow_box t x) ≡ grow_room t (put_in by_spread no_item h n x)
  unfolding grow_room
  put_grow h n x =
      ap (λ (z : BoxSpread). put_in by_spread z (map (grow_box t) h) n (grow_box t x)) (sym none_grow)
      ∙ put_in_view (grow_box t) by_spread by_spread keeps_order no_item h n x

  take_grow : (h : List BoxSpread) (n : ℕ)
      → take_out by_spread no_item (grow_room t h) n ≡ grow_room t (take_out by_spread no_item h n)
  unfolding grow_room
  take_grow h n =
      ap (λ (z : BoxSpread). take_out by_spread z (map (grow_box t) h) n) (sym none_grow)
      ∙ take_out_view (grow_box t) by_spread by_spread keeps_order no_item h n

  -- 0.0 stays, so whether a spread is above it does
  zero_box : (x : Bounds) → with_zero x ≡ grow_box t (with_zero x)
  unfolding grow_box grow new_exponent
  zero_box x = refl

  above_grow : (s : Float) → lt zero_of (grow t s) ≡ lt zero_of s
  above_grow s = ap (λ (z : Float). lt z (grow t s)) (sym (zero_grow t)) ∙ lt_grow t zero_of s

  -- and infinity
  start_grow : (g : Grid) → start g ≡ grow_heap t (start g)
  unfolding start start_room grow_heap grow_room grow_box grow new_exponent
  start_grow g = refl

  boxes_grow : (n : ℕ) (p : Option Position) → boxes_after n (grow_position t p) ≡ boxes_after n p
  unfolding boxes_after grow_position
  boxes_grow n (Some p) = refl
  boxes_grow n None = refl

  room_cond : (b : Bool) (x y : List BoxSpread) → cond b (grow_room t x) (grow_room t y) ≡ grow_room t (cond b x y)
  room_cond true x y = refl
  room_cond false x y = refl

  heap_cond : (b : Bool) (x y : Heap) → cond b (grow_heap t x) (grow_heap t y) ≡ grow_heap t (cond b x y)
  heap_cond true x y = refl
  heap_cond false x y = refl

-- ---- one round
module _ {g : Grid} {v : View} (s : Sound limit g v) (t : ℕ) (few : t ≤ 100) where
  box_grown : {x : Bounds} → Within g x → 1 ≤ box_sum g v x 0
      → with_spread g (doubled t v) x ≡ grow_box t (with_spread g v x)
  unfolding with_spread grow_box
  box_grown {x} w some = λ i. record { bounds = x; spread = spread_doubled s t few w some i }

  after_doubled : {x : Bounds} → Within g x → (p : Option Position) → best_cut g v x ≡ p → (h : List BoxSpread) (n : ℕ)
      → room_after g (doubled t v) (grow_room t h) n x (grow_position t p) ≡ grow_room t (room_after g v h n x p)
  unfolding room_after grow_position
  after_doubled {x} w (Some p) e h n =
      let good = (answered g v x e).1.split in
      let low = with_spread g v (low_side x p.dimension p.bin) in
      let high = with_spread g v (high_side x p.dimension p.bin) in
      (λ j. put_in by_spread no_item
      (put_in by_spread no_item (grow_room t h) n (box_grown (low_box v w e) (pos_of_ne-zero good.low) j)) (n + 1)
      (box_grown (high_box v w e) (pos_of_ne-zero good.high) j))
      ∙ ap (λ (k : List BoxSpread). put_in by_spread no_item k (n + 1) (grow_box t high)) (put_grow t h n low)
      ∙ put_grow t (put_in by_spread no_item h n low) (n + 1) high
  after_doubled {x} w None e h n =
      ap (put_in by_spread no_item (grow_room t h) n) (zero_box t x) ∙ put_grow t h n (with_zero x)

  module _ (h : List BoxSpread) (n : ℕ) (w : Within g (item no_item h 0).bounds) where
    abbrev top : BoxSpread
    top = item no_item h 0

    abbrev rest : List BoxSpread
    rest = take_out by_spread no_item h n

    room_doubled : round_room g (doubled t v) (grow_room t h) n ≡ grow_room t (round_room g v h n)
    unfolding round_room grow_box
    room_doubled =
        (λ i. cond (lt zero_of (item_grow t h 0 i).spread)
        (room_after g (doubled t v) (take_grow t h n i) (n - 1) (item_grow t h 0 i).bounds
        (best_cut g (doubled t v) (item_grow t h 0 i).bounds))
        (put_in by_spread no_item (take_grow t h n i) (n - 1) (item_grow t h 0 i)))
        ∙ (λ i. cond (above_grow t top.spread i)
        (room_after g (doubled t v) (grow_room t rest) (n - 1) top.bounds (cut_doubled s t few w i))
        (put_grow t rest (n - 1) top i))
        ∙ ap (λ (k : List BoxSpread).
        cond (lt zero_of top.spread) k (grow_room t (put_in by_spread no_item rest (n - 1) top)))
        (after_doubled w (best_cut g v top.bounds) refl rest (n - 1))
        ∙ room_cond t (lt zero_of top.spread) _ _

    boxes_doubled : round_boxes g (doubled t v) (grow_room t h) n ≡ round_boxes g v h n
    unfolding round_boxes grow_box
    boxes_doubled =
        (λ i. cond (lt zero_of (item_grow t h 0 i).spread)
        (boxes_after (n - 1) (best_cut g (doubled t v) (item_grow t h 0 i).bounds)) n)
        ∙ (λ i. cond (above_grow t top.spread i) (boxes_after (n - 1) (cut_doubled s t few w i)) n)
        ∙ ap (λ (k : ℕ). cond (lt zero_of top.spread) k n) (boxes_grow t (n - 1) (best_cut g v top.bounds))

  round_doubled : (h : Heap) → Within g (item no_item h.room 0).bounds
      → round g (doubled t v) (grow_heap t h) ≡ grow_heap t (round g v h)
  unfolding round grow_heap
  round_doubled h w =
      λ i. record {
        room = room_doubled h.room h.boxes w i;
        boxes = boxes_doubled h.room h.boxes w i;
        rounds = h.rounds + 1;
      }

  -- ---- all rounds
  rounds_doubled : (k : ℕ) → k ≤ 256 → (f : ℕ) (h : Heap) → Each (Fit g v) h.room h.boxes
      → rounds f g (doubled t v) k (grow_heap t h) ≡ grow_heap t (rounds f g v k h)
  unfolding rounds grow_heap grow_box round
  rounds_doubled k most zero h e = refl
  rounds_doubled k most (suc f) h e =
      go (ltb h.boxes k) refl
      (λ (l : h.boxes < k). rounds_doubled k most f (round g v h) (each_round (fit_kept g v) e (omega arith)))
    where
      above : Bool
      above = lt zero_of (item no_item h.room 0).spread

      within : Within g (item no_item h.room 0).bounds
      within = (e.each 0 e.in_use.some).within

      same_above : lt zero_of (item no_item (grow_room t h.room) 0).spread ≡ above
      same_above =
          ap (λ (x : BoxSpread). lt zero_of x.spread) (item_grow t h.room 0)
          ∙ above_grow t (item no_item h.room 0).spread

      go : (b : Bool) → ltb h.boxes k ≡ b
          → (h.boxes < k
          → rounds f g (doubled t v) k (grow_heap t (round g v h)) ≡ grow_heap t (rounds f g v k (round g v h)))
          → cond b (cond (lt zero_of (item no_item (grow_room t h.room) 0).spread)
          (rounds f g (doubled t v) k (round g (doubled t v) (grow_heap t h))) (round g (doubled t v) (grow_heap t h)))
          (grow_heap t h)
          ≡ grow_heap t (cond b (cond above (rounds f g v k (round g v h)) (round g v h)) h)
      go false q after = refl
      go true q after =
          (λ i. cond (same_above i) (rounds f g (doubled t v) k (round_doubled h within i)) (round_doubled h within i))
          ∙ ap (λ (z : Heap). cond above z (grow_heap t (round g v h))) (after (ltb-true h.boxes k q))
          ∙ heap_cond t above (rounds f g v k (round g v h)) (round g v h)

  pub heap_doubled : Accepted g → 0 < total g v → (k : ℕ) → k ≤ 256
      → heap_of g (doubled t v) k ≡ grow_heap t (heap_of g v k)
  unfolding heap_of start
  heap_doubled a some k l =
      ap (rounds (2 * k) g (doubled t v) k) (start_grow t g)
      ∙ rounds_doubled k l (2 * k) (start g) (start_each g (start_fit a some))
