-- How many rounds a loop has at most: 2·k − 2, and more rounds change nothing.
-- Assumes nothing.
use mathlib.Core.Path.{◌≡◌, refl, sym, ap, ◌∙◌}
use mathlib.Core.Bool.{Bool, true, false, cond, true≢false}
use mathlib.Core.List.{List}
use Prim.Native.Nat.{ℕ, zero, suc, ◌+◌, ◌-◌, ◌*◌, ◌≤◌, ◌<◌}
use native.Mathlib.Nat.{le_trans, lt_of_not-le}
use native.Mathlib.Decide.{dec_le}
use native.Mathlib.Omega.{arith}
use borrow.Author.Tests.{ltb-true, le-ltb, lt-ltb}
use lib.Dec.{ltb}
use lib.ListN.{length, take}
use lib.Ieee.{lt}
use Rattle.grid.specs.declared.place.Grid.{Grid}
use Rattle.table.specs.Cell.{View}
use Rattle.boxes.specs.declared.sides.Bounds.{Bounds}
use Rattle.boxes.specs.Box.{low_side, high_side}
use Rattle.spread.specs.Spread.{zero_of}
use Rattle.heap.specs.Heap.{item, put_in, take_out, sum_items}
use Rattle.heap.proofs.Keeps.{put_in_long, put_in_sum, take_out_sum}
use Rattle.heap.specs.Boxes.{BoxSpread}
use Rattle.rounds.specs.Loop.{by_spread, Heap, no_item, with_spread, with_zero, start_room, start, round_room}
use Rattle.rounds.specs.Loop.{round_boxes, round, rounds, heap_of}
use Rattle.rounds.proofs.OneRound.{round_cases}
use Rattle.rounds.proofs.Filled.{InUse, left_long, two_more, start_in_use, in_use_round}

-- ---- one step of the loop
module _ (g : Grid) (v : View) (k : ℕ) (h : Heap) where
  rounds_none : rounds zero g v k h ≡ h
  unfolding rounds
  rounds_none = refl

  pub rounds_full : (f : ℕ) → k ≤ h.boxes → rounds f g v k h ≡ h
  unfolding rounds
  rounds_full zero l = refl
  rounds_full (suc f) l = rw (le-ltb h.boxes k l) refl

  module _ (f : ℕ) (l : h.boxes < k) where
    pub rounds_on : lt zero_of (item no_item h.room 0).spread ≡ true
        → rounds (suc f) g v k h ≡ rounds f g v k (round g v h)
    unfolding rounds
    rounds_on e = rw (lt-ltb h.boxes k l, e) refl

    pub rounds_stop : lt zero_of (item no_item h.room 0).spread ≡ false → rounds (suc f) g v k h ≡ round g v h
    unfolding rounds
    rounds_stop e = rw (lt-ltb h.boxes k l, e) refl

-- ---- 1 for a box that is to be cut
unfoldable pub hot : BoxSpread → ℕ
hot x = cond (lt zero_of x.spread) 1 0

hot_high : (x : BoxSpread) → hot x ≤ 1
unfolding hot
hot_high x = go (lt zero_of x.spread)
  where
    go : (b : Bool) → cond b 1 0 ≤ 1
    go true = omega arith
    go false = omega arith

hot_zero : (x : Bounds) → hot (with_zero x) ≡ 0
unfolding hot lt
hot_zero x = refl

-- how many rounds there are still to come at most: none where there are k boxes
unfoldable pub need : ℕ → List BoxSpread → ℕ → ℕ
need k h n = cond (ltb n k) (2 * (k - 1 - n) + sum_items hot (take n h) + 1) 0

module _ (k : ℕ) (h : List BoxSpread) (n : ℕ) where
  need_is : n < k → need k h n ≡ 2 * (k - 1 - n) + sum_items hot (take n h) + 1
  unfolding need
  need_is l = rw (lt-ltb n k l) refl

  -- a bound that holds where boxes lack
  need_high : (m : ℕ) → (n < k → 2 * (k - 1 - n) + sum_items hot (take n h) + 1 ≤ m) → need k h n ≤ m
  unfolding need
  need_high m b = go (ltb n k) refl
    where
      go : (c : Bool) → ltb n k ≡ c → cond c (2 * (k - 1 - n) + sum_items hot (take n h) + 1) 0 ≤ m
      go true e = b (ltb-true n k e)
      go false e = omega arith

  -- none is needed where there are k boxes, and only there
  pub need_none : need k h n ≤ 0 → k ≤ n
  need_none p = elim (dec_le k n) [ yes l ↦ l | no l ↦ absurd (omega (arith, need_is (lt_of_not-le l))) ]

-- a box put in
hot_put : (h : List BoxSpread) (n : ℕ) (x : BoxSpread) → length h ≡ 256 → n < 256
    → sum_items hot (take (n + 1) (put_in by_spread no_item h n x)) ≡ hot x + sum_items hot (take n h)
hot_put h n x long l =
    ap (λ (m : ℕ). sum_items hot (take m (put_in by_spread no_item h n x))) (next n)
    ∙ put_in_sum by_spread no_item h n x (omega arith) hot
  where
    next : (n : ℕ) → n + 1 ≡ suc n
    next n = omega arith

-- one round less is needed after a round of a box that is to be cut
pub need_less : (g : Grid) (v : View) (k : ℕ) → k ≤ 256 → (h : List BoxSpread) (n : ℕ) → InUse h n → n < k
    → lt zero_of (item no_item h 0).spread ≡ true → suc (need k (round_room g v h n) (round_boxes g v h n)) ≤ need k h n
unfolding hot
need_less g v k most h n u l on =
    round_cases g v h n (λ r m. suc (need k r m) ≤ need k h n)
    (λ off. absurd (clash on off))
    (λ yes none.
    above (need_high k (put_in by_spread no_item rest (n - 1) (with_zero top.bounds)) (n - 1 + 1) _
    (λ m. omega (
      arith,
      before,
      hot_put rest (n - 1) (with_zero top.bounds) (left_long u) (omega arith),
      hot_zero
          top.bounds,
    ))))
    (λ at yes q.
    let low = with_spread g v (low_side top.bounds at.dimension at.bin) in
    let high = with_spread g v (high_side top.bounds at.dimension at.bin) in
    let put = put_in by_spread no_item rest (n - 1) low in
    let put-long : length put ≡ 256 = put_in_long by_spread no_item rest (n - 1) low (omega (arith, left_long u))
    ∙ left_long u in
    let last : sum_items hot (take (n - 1 + 2) (put_in by_spread no_item put (n - 1 + 1) high))
    ≡ hot high + sum_items hot (take (n - 1 + 1) put) =
    ap (λ (m : ℕ). sum_items hot (take m (put_in by_spread no_item put (n - 1 + 1) high))) (sym (two_more (n - 1)))
    ∙ hot_put put (n - 1 + 1) high put-long (omega arith) in
    above (need_high k (put_in by_spread no_item put (n - 1 + 1) high) (n - 1 + 2) _
    (λ m. omega
    (arith, before, last, hot_put rest (n - 1) low (left_long u) (omega arith), hot_high low, hot_high high))))
  where
    top : BoxSpread
    top = item no_item h 0

    rest : List BoxSpread
    rest = take_out by_spread no_item h n

    clash : {b : Bool} → b ≡ true → b ≡ false → ⊥
    clash p q = true≢false (sym p ∙ q)

    top_hot : hot top ≡ 1
    top_hot = ap (λ (b : Bool). cond b 1 0) on

    before : 1 + sum_items hot (take (n - 1) rest) ≡ sum_items hot (take n h)
    before =
        ap (λ (m : ℕ). m + sum_items hot (take (n - 1) rest)) (sym top_hot)
        ∙ take_out_sum by_spread no_item h n u.some (omega (arith, u.long, u.most)) hot

    above : {m : ℕ} → m ≤ 2 * (k - 1 - n) + sum_items hot (take n h) → suc m ≤ need k h n
    above {m} p = omega (arith, need_is k h n l)

-- ---- more rounds than are needed change nothing
module _ (g : Grid) (v : View) (k : ℕ) (most : k ≤ 256) where
  pub stable : (f e : ℕ) (h : Heap) → InUse h.room h.boxes → need k h.room h.boxes ≤ f
      → need k h.room h.boxes ≤ e → rounds f g v k h ≡ rounds e g v k h
  unfolding round
  stable zero zero h u p q = refl
  stable zero (suc e) h u p q =
      rounds_full g v k h zero (need_none k h.room h.boxes p)
      ∙ sym (rounds_full g v k h (suc e) (need_none k h.room h.boxes p))
  stable (suc f) zero h u p q =
      rounds_full g v k h (suc f) (need_none k h.room h.boxes q)
      ∙ sym (rounds_full g v k h zero (need_none k h.room h.boxes q))
  stable (suc f) (suc e) h u p q =
      go (dec_le k h.boxes) (lt zero_of (item no_item h.room 0).spread) refl
      (λ l on. stable f e (round g v h) (in_use_round g v u (omega arith))
      (omega (arith, need_less g v k most h.room h.boxes u l on))
      (omega (arith, need_less g v k most h.room h.boxes u l on)))
    where
      go : Dec (k ≤ h.boxes) → (b : Bool) → lt zero_of (item no_item h.room 0).spread ≡ b
          → (h.boxes < k → lt zero_of (item no_item h.room 0).spread ≡ true
          → rounds f g v k (round g v h) ≡ rounds e g v k (round g v h))
          → rounds (suc f) g v k h ≡ rounds (suc e) g v k h
      go (yes l) b t after = rounds_full g v k h (suc f) l ∙ sym (rounds_full g v k h (suc e) l)
      go (no l) true t after =
          rounds_on g v k h f (lt_of_not-le l) t ∙ after (lt_of_not-le l) t
          ∙ sym (rounds_on g v k h e (lt_of_not-le l) t)
      go (no l) false t after =
          rounds_stop g v k h f (lt_of_not-le l) t ∙ sym (rounds_stop g v k h e (lt_of_not-le l) t)

-- ---- the start
start_hot : (g : Grid) → sum_items hot (take 1 (start_room g)) ≡ 1
unfolding start_room sum_items hot lt
start_hot g = refl

pub start_need : (g : Grid) (k : ℕ) → need k (start_room g) 1 ≤ 2 * k - 2
start_need g k = need_high k (start_room g) 1 (2 * k - 2) (λ m. omega (arith, start_hot g))

-- 2·k − 2 rounds are enough
pub enough : (g : Grid) (v : View) (k f : ℕ) → k ≤ 256 → 2 * k - 2 ≤ f → rounds f g v k (start g) ≡ heap_of g v k
unfolding start heap_of
enough g v k f m h =
    stable g v k m f (2 * k) (start g) (start_in_use g) (le_trans (start_need g k) h) (omega (arith, start_need g k))

-- ---- no more rounds than are needed
module _ (g : Grid) (v : View) (k : ℕ) (most : k ≤ 256) where
  rounds_few : (f : ℕ) (h : Heap) → InUse h.room h.boxes
      → (rounds f g v k h).rounds ≤ h.rounds + need k h.room h.boxes
  unfolding round
  rounds_few zero h u = rw (rounds_none g v k h) (omega arith)
  rounds_few (suc f) h u =
      go (dec_le k h.boxes) (lt zero_of (item no_item h.room 0).spread) refl
      (λ l on. omega (
        arith,
        rounds_few f (round g v h) (in_use_round g v u (omega arith)),
        need_less g v k most h.room h.boxes u l on,
      ))
    where
      go : Dec (k ≤ h.boxes) → (b : Bool) → lt zero_of (item no_item h.room 0).spread ≡ b
          → (h.boxes < k → lt zero_of (item no_item h.room 0).spread ≡ true
          → (rounds f g v k (round g v h)).rounds ≤ h.rounds + need k h.room h.boxes)
          → (rounds (suc f) g v k h).rounds ≤ h.rounds + need k h.room h.boxes
      go (yes l) b t after = rw (rounds_full g v k h (suc f) l) (omega arith)
      go (no l) true t after = rw (rounds_on g v k h f (lt_of_not-le l) t) (after (lt_of_not-le l) t)
      go (no l) false t after =
          rw (rounds_stop g v k h f (lt_of_not-le l) t) (omega (arith, need_is k h.room h.boxes (lt_of_not-le l)))

  -- the top is taken out 2·k − 2 times at most
  pub few_rounds : (heap_of g v k).rounds ≤ 2 * k - 2
  unfolding start heap_of
  few_rounds = omega (arith, rounds_few (2 * k) (start g) (start_in_use g), start_need g k)

-- ---- what is still to come, from a room with n places in use after some rounds: it gives the heap at the end
pub record ToCome (g : Grid) (v : View) (k : ℕ) (h : List BoxSpread) (n after : ℕ) : Type 0 where
  pub left : ℕ
  pub covers : need k h n ≤ left
  pub few : after + need k h n ≤ 2 * k - 2
  pub gives : rounds left g v k (record { room = h; boxes = n; rounds = after }) ≡ heap_of g v k

-- the heap at the end
pub record AtEnd (g : Grid) (v : View) (k : ℕ) (h : List BoxSpread) (n after : ℕ) : Type 0 where
  pub room : h ≡ (heap_of g v k).room
  pub boxes : n ≡ (heap_of g v k).boxes
  pub rounds : after ≡ (heap_of g v k).rounds

at_end : {g : Grid} {v : View} {k : ℕ} {h : Heap} → h ≡ heap_of g v k → AtEnd g v k h.room h.boxes h.rounds
at_end e =
    record {
      room = ap (λ (h : Heap). h.room) e;
      boxes = ap (λ (h : Heap). h.boxes) e;
      rounds = ap (λ (h : Heap). h.rounds) e;
    }

module _ {g : Grid} {v : View} {k : ℕ} where
  pub come_start : {h : List BoxSpread} → h ≡ start_room g → ToCome g v k h 1 0
  unfolding heap_of start
  come_start e =
      record {
        left = 2 * k;
        covers = rw e (omega (arith, start_need g k));
        few = rw e (omega (arith, start_need g k));
        gives = λ i. rounds (2 * k) g v k (record { room = e i; boxes = 1; rounds = 0 });
      }

  module _ {h : List BoxSpread} {n after : ℕ} (c : ToCome g v k h n after) where
    here : Heap
    here = record { room = h; boxes = n; rounds = after }

    -- k boxes
    pub come_full : k ≤ n → AtEnd g v k h n after
    unfolding here
    come_full l = at_end (sym (rounds_full g v k here c.left l) ∙ c.gives)

    module _ (l : n < k) where
      -- one more round is within what is needed
      pub come_few : after + 1 ≤ 2 * k - 2
      come_few = omega (arith, c.few, need_is k h n l)

      -- the last round
      pub come_stop : lt zero_of (item no_item h 0).spread ≡ false
          → AtEnd g v k (round_room g v h n) (round_boxes g v h n) (after + 1)
      unfolding here round
      come_stop off = at_end (go c.left c.covers c.gives)
        where
          go : (f : ℕ) → need k h n ≤ f → rounds f g v k here ≡ heap_of g v k → round g v here ≡ heap_of g v k
          go zero m e = absurd (omega (arith, need_is k h n l))
          go (suc f) m e = sym (rounds_stop g v k here f l off) ∙ e

      -- one of others
      pub come_round : k ≤ 256 → InUse h n → lt zero_of (item no_item h 0).spread ≡ true
          → ToCome g v k (round_room g v h n) (round_boxes g v h n) (after + 1)
      unfolding here round
      come_round most u on = go c.left c.covers c.gives
        where
          go : (f : ℕ) → need k h n ≤ f → rounds f g v k here ≡ heap_of g v k
              → ToCome g v k (round_room g v h n) (round_boxes g v h n) (after + 1)
          go zero m e = absurd (omega (arith, need_is k h n l))
          go (suc f) m e =
              record {
                left = f;
                covers = omega (arith, need_less g v k most h n u l on);
                few = omega (arith, c.few, need_less g v k most h n u l on);
                gives = sym (rounds_on g v k here f l on) ∙ e;
              }
