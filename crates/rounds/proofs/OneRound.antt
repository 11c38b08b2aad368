-- One round, by the cases of the position that is found; and what every round keeps, all rounds keep.
-- Assumes nothing.
use mathlib.Core.Path.{◌≡◌, refl, ap}
use mathlib.Core.Bool.{Bool, true, false, cond}
use mathlib.Core.List.{List}
use Prim.Native.Nat.{ℕ, zero, suc, ◌+◌, ◌-◌, ◌<◌}
use borrow.Author.Tests.{ltb-true}
use lib.Dec.{ltb}
use lib.Ieee.{lt}
use Rattle.grid.specs.declared.place.Grid.{Grid}
use Rattle.table.specs.Cell.{View}
use Rattle.boxes.specs.declared.sides.Bounds.{Bounds}
use Rattle.boxes.specs.Box.{low_side, high_side}
use Rattle.spread.specs.declared.position.Position.{Position}
use Rattle.std.specs.Prelude.{Option, Some, None}
use Rattle.spread.specs.Spread.{zero_of}
use Rattle.spread.specs.Cut.{best_cut}
use Rattle.heap.specs.Heap.{item, put_in, take_out}
use Rattle.heap.specs.Boxes.{BoxSpread}
use Rattle.rounds.specs.Loop.{by_spread, no_item, with_spread, with_zero, Heap, room_after, boxes_after, round_room}
use Rattle.rounds.specs.Loop.{round_boxes, round, rounds}

module _ (g : Grid) (v : View) (h : List BoxSpread) (n : ℕ) (x : Bounds) {p : Option Position} where
  pub boxes_none : p ≡ None → boxes_after n p ≡ n + 1
  unfolding boxes_after
  boxes_none q = ap (boxes_after n) q

  pub room_none : p ≡ None → room_after g v h n x p ≡ put_in by_spread no_item h n (with_zero x)
  unfolding room_after
  room_none q = ap (room_after g v h n x) q

  pub boxes_cut : {at : Position} → p ≡ Some at → boxes_after n p ≡ n + 2
  unfolding boxes_after
  boxes_cut q = ap (boxes_after n) q

  pub room_cut : {at : Position} → p ≡ Some at
      → room_after g v h n x p ≡ put_in by_spread no_item (put_in by_spread no_item h n (with_spread g v (low_side x at.dimension at.bin)))
      (n + 1) (with_spread g v (high_side x at.dimension at.bin))
  unfolding room_after
  room_cut q = ap (room_after g v h n x) q

-- a round whose top is to be cut, and one that stops
module _ (g : Grid) (v : View) (h : List BoxSpread) (n : ℕ) where
  abbrev top : BoxSpread
  top = item no_item h 0

  module _ (e : lt zero_of top.spread ≡ true) where
    pub room_on_lem : round_room g v h n ≡ room_after g v (take_out by_spread no_item h n) (n - 1) top.bounds
        (best_cut g v top.bounds)
    unfolding round_room
    room_on_lem = rw e refl

    pub boxes_on : round_boxes g v h n ≡ boxes_after (n - 1) (best_cut g v top.bounds)
    unfolding round_boxes
    boxes_on = rw e refl

  module _ (e : lt zero_of top.spread ≡ false) where
    pub room_stops : round_room g v h n ≡ put_in by_spread no_item (take_out by_spread no_item h n) (n - 1) top
    unfolding round_room
    room_stops = rw e refl

    pub boxes_stops : round_boxes g v h n ≡ n
    unfolding round_boxes
    boxes_stops = rw e refl

  -- whatever holds of each of the three ends of a round holds after it
  pub round_cases : (Q : List BoxSpread → ℕ → Type 0)
      → (lt zero_of top.spread ≡ false → Q (put_in by_spread no_item (take_out by_spread no_item h n) (n - 1) top) n)
      → (lt zero_of top.spread ≡ true → best_cut g v top.bounds ≡ None
      → Q (put_in by_spread no_item (take_out by_spread no_item h n) (n - 1) (with_zero top.bounds)) (n - 1 + 1))
      → ((at : Position) → lt zero_of top.spread ≡ true → best_cut g v top.bounds ≡ Some at
      → Q (put_in by_spread no_item
      (put_in by_spread no_item (take_out by_spread no_item h n) (n - 1) (with_spread g v (low_side top.bounds at.dimension at.bin)))
      (n - 1 + 1) (with_spread g v (high_side top.bounds at.dimension at.bin))) (n - 1 + 2))
      → Q (round_room g v h n) (round_boxes g v h n)
  round_cases Q back none cut = go (lt zero_of top.spread) refl (best_cut g v top.bounds) refl
    where
      go : (b : Bool) → lt zero_of top.spread ≡ b → (p : Option Position) → best_cut g v top.bounds ≡ p
          → Q (round_room g v h n) (round_boxes g v h n)
      go false e p q = rw (room_stops e, boxes_stops e) (back e)
      go true e None q =
          rw (
            room_on_lem e,
            boxes_on e,
            room_none g v (take_out by_spread no_item h n) (n - 1) top.bounds q,
            boxes_none g v
                (take_out by_spread no_item h n) (n - 1) top.bounds q,
          ) (none e q)
      go true e (Some at) q =
          rw (
            room_on_lem e,
            boxes_on e,
            room_cut g v (take_out by_spread no_item h n) (n - 1) top.bounds q,
            boxes_cut g v
                (take_out by_spread no_item h n) (n - 1) top.bounds q,
          ) (cut at e q)

-- ---- what a round keeps where boxes lack, all rounds keep
module _ (g : Grid) (v : View) (k : ℕ) (Q : Heap → Type 0) (keeps : (h : Heap) → h.boxes < k → Q h → Q (round g v h))
  where
    pub rounds_keep : (f : ℕ) (h : Heap) → Q h → Q (rounds f g v k h)
    unfolding rounds
    rounds_keep zero h q = q
    rounds_keep (suc f) h q =
        go (ltb h.boxes k) refl (lt zero_of (item no_item h.room 0).spread) (rounds_keep f (round g v h))
      where
        go : (b : Bool) → ltb h.boxes k ≡ b → (c : Bool) → (Q (round g v h) → Q (rounds f g v k (round g v h)))
            → Q (cond b (cond c (rounds f g v k (round g v h)) (round g v h)) h)
        go false e c after = q
        go true e false after = keeps h (ltb-true h.boxes k e) q
        go true e true after = after (keeps h (ltb-true h.boxes k e) q)
