-- The loop of a cut (Rules, Loop). Definitions only.
use Rattle.std.specs.Prelude.{false, cond, List, ℕ, zero, suc, ◌+◌, ◌-◌, ◌*◌, ltb, set, replicate}
use Rattle.std.specs.Float.{inf}
use Rattle.std.specs.Float.Ieee.{lt}
use Rattle.grid.specs.declared.place.Grid.{Grid}
use Rattle.basics.specs.Range.{list_from}
use Rattle.table.specs.Cell.{View}
use Rattle.boxes.specs.declared.sides.Bounds.{Bounds}
use Rattle.sums.specs.Box.{stats_of}
use Rattle.boxes.specs.Box.{no_box, whole_of, low_side, high_side}
use Rattle.spread.specs.declared.position.Position.{Position}
use Rattle.std.specs.Prelude.{Option, Some, None}
use Rattle.spread.specs.Spread.{zero_of, spread_of}
use Rattle.spread.specs.Cut.{best_cut}
use Rattle.heap.specs.Heap.{item, put_in, take_out}
pub use Rattle.heap.specs.Boxes.{by_spread, no_item}
use Rattle.heap.specs.Boxes.{BoxSpread}
use Rattle.rounds.specs.declared.gather.Boxes.{Boxes}

-- a box with its own spread
unfoldable pub with_spread : Grid → View → Bounds → BoxSpread
with_spread g v x = record { bounds = x; spread = spread_of x (stats_of g v x) }

-- a box whose spread is 0.0
abbrev pub with_zero : Bounds → BoxSpread
with_zero x = record { bounds = x; spread = zero_of }

-- a room of 256 places, how many boxes stand in it, and how often a top was taken out
pub record Heap : Type 0 where
  pub room : List BoxSpread
  pub boxes : ℕ
  pub rounds : ℕ

-- "Start with the whole grid at spread infinity"
unfoldable pub start_room : Grid → List BoxSpread
start_room g = set (replicate 256 (with_zero no_box)) 0 (record { bounds = whole_of g; spread = inf false })

unfoldable pub start : Grid → Heap
start g = record { room = start_room g; boxes = 1; rounds = 0 }

-- the room and its boxes, once x has left a room with n boxes after it:
-- "If it can be cut, put in the low box, then the high box, with their spreads. Otherwise put it back with 0.0"
unfoldable pub room_after : Grid → View → List BoxSpread → ℕ → Bounds → Option Position → List BoxSpread
room_after g v h n x (Some p) =
    put_in by_spread no_item (put_in by_spread no_item h n (with_spread g v (low_side x p.dimension p.bin))) (n + 1)
    (with_spread g v (high_side x p.dimension p.bin))
room_after g v h n x None = put_in by_spread no_item h n (with_zero x)

unfoldable pub boxes_after : ℕ → Option Position → ℕ
boxes_after n (Some p) = n + 2
boxes_after n None = n + 1

-- one round: "take out the top. If its spread is not above 0, put it back and stop"
unfoldable pub round_room : Grid → View → List BoxSpread → ℕ → List BoxSpread
round_room g v h n =
    let top = item no_item h 0 in
    let rest = take_out by_spread no_item h n in
    cond (lt zero_of top.spread) (room_after g v rest (n - 1) top.bounds (best_cut g v top.bounds))
    (put_in by_spread no_item rest (n - 1) top)

unfoldable pub round_boxes : Grid → View → List BoxSpread → ℕ → ℕ
round_boxes g v h n =
    let top = item no_item h 0 in
    cond (lt zero_of top.spread) (boxes_after (n - 1) (best_cut g v top.bounds)) n

unfoldable pub round : Grid → View → Heap → Heap
round g v h =
    record {
      room = round_room g v h.room h.boxes;
      boxes = round_boxes g v h.room h.boxes;
      rounds = h.rounds + 1;
    }

-- "While there are fewer than k boxes", at most as many rounds as are given
unfoldable pub rounds : ℕ → Grid → View → ℕ → Heap → Heap
rounds zero g v k h = h
rounds (suc n) g v k h =
    let next = round g v h in
    let on = rounds n g v k next in
    cond (ltb h.boxes k) (cond (lt zero_of (item no_item h.room 0).spread) on next) h

-- all rounds: 2·k − 2 are enough
unfoldable pub heap_of : Grid → View → ℕ → Heap
heap_of g v k = rounds (2 * k) g v k (start g)

-- ---- the record of the boxes
-- "the boxes with their spreads in order; places past the last box are all zeros"
unfoldable pub places_of : List BoxSpread → ℕ → List BoxSpread
places_of h n = list_from 0 256 (λ i. cond (ltb i n) (item no_item h i) (with_zero no_box))

unfoldable pub boxes_of : Grid → View → ℕ → Boxes
boxes_of g v k =
    let h = heap_of g v k in
    record { boxes = h.boxes; rounds = h.rounds; places = places_of h.room h.boxes }
