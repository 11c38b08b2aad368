-- How the loop ends: with k boxes, or with none that is to be cut. Until then the heap is in order, and no spread is a
-- NaN.
-- Assumes nothing.
use mathlib.Core.Path.{◌≡◌, refl, ap, subst}
use mathlib.Core.Logic.{◌≢◌}
use mathlib.Core.Bool.{Bool, true, false, true≢false}
use mathlib.Core.List.{List}
use Prim.Native.Nat.{ℕ, zero, suc, ◌+◌, ◌-◌, ◌*◌, ◌≤◌, ◌<◌}
use native.Mathlib.Nat.{lt_of_not-le}
use native.Mathlib.Decide.{dec_le}
use native.Mathlib.Omega.{arith}
use lib.ListN.{length}
use lib.Ieee.{Float, nan, inf, fin, lt}
use Rattle.grid.specs.declared.place.Grid.{Grid}
use Rattle.grid.specs.Grid.{Accepted}
use Rattle.table.specs.Cell.{View}
use Rattle.table.specs.Sound.{limit, total}
use Rattle.table.proofs.Soundness.{Sound}
use Rattle.boxes.specs.declared.sides.Bounds.{Bounds}
use Rattle.bins.specs.Sum.{box_sum}
use Rattle.sums.specs.Box.{stats_of}
use Rattle.boxes.specs.Box.{low_side, high_side, Within}
use Rattle.spread.specs.Spread.{zero_of, spread_of}
use Rattle.spread.proofs.Finite.{spread_finite}
use Rattle.heap.specs.Heap.{item, put_in, take_out, InOrder, NoNaN}
use Rattle.basics.proofs.Compare.{not_less_trans, finite_number}
use Rattle.heap.proofs.Order.{put_in_order, take_out_order, top_greatest}
use Rattle.heap.specs.Boxes.{BoxSpread}
use Rattle.rounds.specs.Loop.{by_spread, Heap, no_item, with_spread, with_zero, start_room, start, round_room}
use Rattle.rounds.specs.Loop.{round_boxes, round, rounds, heap_of}
use Rattle.rounds.proofs.OneRound.{room_stops, boxes_stops, round_cases}
use Rattle.rounds.proofs.Filled.{InUse, Each, Kept, Fit, fit_kept, left_long, put_back, two_more, each_put}
use Rattle.rounds.proofs.Filled.{others, at_start, start_each, start_fit}
use Rattle.rounds.proofs.Fuel.{need, need_none, need_less, rounds_full, rounds_on, rounds_stop, start_need}

-- ---- no spread is a NaN
pub record Sane (g : Grid) (v : View) (x : BoxSpread) : Type 0 where
  pub fit : Fit g v x
  pub number : x.spread ≢ nan

module _ {g : Grid} {v : View} (s : Sound limit g v) where
  spread_number : {x : Bounds} → Within g x → (box_sum g v x 0 ≡ 0 → ⊥) → (with_spread g v x).spread ≢ nan
  unfolding with_spread
  spread_number {x} w n = finite_number (spread_of x (stats_of g v x)) (spread_finite s w (omega (arith, n)))

  pub sane_kept : Kept g v (Sane g v)
  unfolding with_spread
  sane_kept =
      record {
        zero_too = λ x h q. record { fit = (fit_kept g v).zero_too x h.fit q; number = finite_number zero_of tt };
        sides_too = λ x h q.
            let both = (fit_kept g v).sides_too x h.fit q in (
              record { fit = both.0; number = spread_number both.0.within both.0.some },
              record { fit = both.1; number = spread_number both.1.within both.1.some },
            );
      }

-- ---- a heap in order, whose boxes are sane
pub record Ordered (g : Grid) (v : View) (h : List BoxSpread) (n : ℕ) : Type 0 where
  pub sane : Each (Sane g v) h n
  pub order : InOrder by_spread no_item h n

numbers : {g : Grid} {v : View} {h : List BoxSpread} {n : ℕ} → ((p : ℕ) → p < n → Sane g v (item no_item h p))
    → NoNaN by_spread no_item h n
numbers e = record { number = λ p l. (e p l).number }

-- a box put in
put_ordered : {g : Grid} {v : View} (h : List BoxSpread) {n : ℕ} → length h ≡ 256 → n < 256
    → ((p : ℕ) → p < n → Sane g v (item no_item h p)) → InOrder by_spread no_item h n
    → (x : BoxSpread) → Sane g v x → Ordered g v (put_in by_spread no_item h n x) (n + 1)
put_ordered {g} {v} h {n} long l sane order x has =
    record {
      sane = each_put (Sane g v) h long l sane has;
      order = subst (InOrder by_spread no_item (put_in by_spread no_item h n x)) (next n)
          (put_in_order by_spread no_item h n x (omega arith) (numbers sane) has.number order);
    }
  where
    next : (n : ℕ) → suc n ≡ n + 1
    next n = omega arith

module _ {g : Grid} {v : View} (s : Sound limit g v) where
  pub ordered_round : {h : List BoxSpread} {n : ℕ} → Ordered g v h n → n < 256
      → Ordered g v (round_room g v h n) (round_boxes g v h n)
  ordered_round {h} {n} o l =
      round_cases g v h n (Ordered g v)
      (λ off. subst (Ordered g v (put_in by_spread no_item rest (n - 1) top)) (put_back u)
      (put_ordered rest (left_long u) (omega arith) rest_sane rest_order top (o.sane.each 0 u.some)))
      (λ on none. put_ordered rest (left_long u) (omega arith) rest_sane rest_order (with_zero top.bounds)
      ((sane_kept s).zero_too top (o.sane.each 0 u.some) none))
      (λ at on q.
      let both = (sane_kept s).sides_too top (o.sane.each 0 u.some) q in
      let low = put_ordered rest (left_long u) (omega arith) rest_sane rest_order
      (with_spread g v (low_side top.bounds at.dimension at.bin)) both.0 in
      subst (Ordered g v
      (put_in by_spread no_item (put_in by_spread no_item rest (n - 1) (with_spread g v (low_side top.bounds at.dimension at.bin)))
      (n - 1 + 1) (with_spread g v (high_side top.bounds at.dimension at.bin)))) (two_more (n - 1))
      (put_ordered (put_in by_spread no_item rest (n - 1) (with_spread g v (low_side top.bounds at.dimension at.bin)))
      low.sane.in_use.long (omega arith) low.sane.each low.order
      (with_spread g v (high_side top.bounds at.dimension at.bin)) both.1))
    where
      u : InUse h n
      u = o.sane.in_use

      top : BoxSpread
      top = item no_item h 0

      rest : List BoxSpread
      rest = take_out by_spread no_item h n

      rest_sane : (p : ℕ) → p < n - 1 → Sane g v (item no_item rest p)
      rest_sane = others (Sane g v) h o.sane

      rest_order : InOrder by_spread no_item rest (n - 1)
      rest_order =
          take_out_order by_spread no_item h n u.some (omega (arith, u.long, u.most)) (numbers o.sane.each)
          o.order

-- ---- boxes that are not to be cut
abbrev pub Cold : BoxSpread → Type 0
Cold x = lt zero_of x.spread ≡ false

-- where the top is not, none is
all_cold : {g : Grid} {v : View} {h : List BoxSpread} {n : ℕ} → Ordered g v h n → Cold (item no_item h 0) → (p : ℕ)
    → p < n → Cold (item no_item h p)
all_cold {g} {v} {h} {n} o cold p l =
    not_less_trans zero_of (item no_item h 0).spread (item no_item h p).spread
    (o.sane.each 0 o.sane.in_use.some).number cold
    (top_greatest by_spread no_item h n o.order (numbers o.sane.each) p l)

-- ---- the end
-- a heap with k boxes, or with none that is to be cut
pub data Ended (k : ℕ) (h : List BoxSpread) (n : ℕ) : Type 0 where
  full : k ≤ n → Ended k h n
  cold : Each Cold h n → Ended k h n

-- a round that stops leaves none that is to be cut
stop_cold : (g : Grid) (v : View) {h : List BoxSpread} {n : ℕ} → Ordered g v h n → Cold (item no_item h 0)
    → Each Cold (round_room g v h n) (round_boxes g v h n)
stop_cold g v {h} {n} o c =
    let u = o.sane.in_use in
    let all : Each Cold h n = record { in_use = u; each = all_cold o c } in
    rw (room_stops g v h n c, boxes_stops g v h n c)
    (subst (Each Cold (put_in by_spread no_item (take_out by_spread no_item h n) (n - 1) (item no_item h 0))) (put_back u)
    (each_put Cold (take_out by_spread no_item h n) (left_long u) (omega (arith, u.some, u.most)) (others Cold h all) c))

module _ {g : Grid} {v : View} (s : Sound limit g v) (k : ℕ) (most : k ≤ 256) where
  -- after as many rounds as are needed
  pub rounds_end : (f : ℕ) (h : Heap) → Ordered g v h.room h.boxes → need k h.room h.boxes ≤ f
      → Ended k (rounds f g v k h).room (rounds f g v k h).boxes
  unfolding round
  rounds_end zero h o p = let l = need_none k h.room h.boxes p in rw (rounds_full g v k h zero l) (full l)
  rounds_end (suc f) h o p =
      go (dec_le k h.boxes) (lt zero_of (item no_item h.room 0).spread) refl
      (λ l on. rounds_end f (round g v h) (ordered_round s o (omega arith))
      (omega (arith, need_less g v k most h.room h.boxes o.sane.in_use l on)))
    where
      go : Dec (k ≤ h.boxes) → (b : Bool) → lt zero_of (item no_item h.room 0).spread ≡ b
          → (h.boxes < k → lt zero_of (item no_item h.room 0).spread ≡ true
          → Ended k (rounds f g v k (round g v h)).room (rounds f g v k (round g v h)).boxes)
          → Ended k (rounds (suc f) g v k h).room (rounds (suc f) g v k h).boxes
      go (yes l) b t after = rw (rounds_full g v k h (suc f) l) (full l)
      go (no l) true t after = rw (rounds_on g v k h f (lt_of_not-le l) t) (after (lt_of_not-le l) t)
      go (no l) false t after = rw (rounds_stop g v k h f (lt_of_not-le l) t) (cold (stop_cold g v o t))

is_inf : Float → Bool
is_inf nan = false
is_inf (inf s) = true
is_inf (fin s m e) = false

-- the start, and so the end
pub start_sane : {g : Grid} {v : View} → Accepted g → 0 < total g v → Sane g v (at_start g)
unfolding is_inf
start_sane a l = record { fit = start_fit a l; number = λ q. true≢false (ap is_inf q) }

start_ordered : {g : Grid} {v : View} → Accepted g → 0 < total g v → Ordered g v (start_room g) 1
start_ordered {g} a l =
    record { sane = start_each g (start_sane a l); order = record { under = λ p m k. absurd (omega arith) } }

pub heap_end : {g : Grid} {v : View} → Sound limit g v → Accepted g → 0 < total g v → (k : ℕ) → k ≤ 256
    → Ended k (heap_of g v k).room (heap_of g v k).boxes
unfolding heap_of start
heap_end {g} s a l k most = rounds_end s k most (2 * k) (start g) (start_ordered a l) (omega (arith, start_need g k))
