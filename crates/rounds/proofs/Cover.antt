-- Whatever adds up over the two sides of every cut adds up over the boxes of the loop: their weights are the total,
-- and each bin lies in exactly one of them.
-- Assumes nothing.
use mathlib.Core.Path.{◌≡◌, refl, ap, subst, ◌∙◌}
use mathlib.Core.List.{List}
use Prim.Native.Nat.{ℕ, suc, ◌+◌, ◌-◌, ◌*◌, ◌≤◌, ◌<◌}
use native.Mathlib.Nat.{add-zero, le_of_lt}
use native.Mathlib.Omega.{arith}
use lib.ListN.{length, take}
use Rattle.grid.specs.declared.place.Grid.{Grid}
use Rattle.table.specs.Cell.{View}
use Rattle.boxes.specs.declared.sides.Bounds.{Bounds}
use Rattle.boxes.specs.Box.{min_at, max_at, low_side, high_side}
use Rattle.spread.proofs.Best.{answered}
use Rattle.heap.specs.Heap.{item, put_in, take_out, sum_items}
use Rattle.heap.proofs.Keeps.{put_in_long, put_in_sum, take_out_sum}
use Rattle.heap.specs.Boxes.{BoxSpread}
use Rattle.rounds.specs.Loop.{by_spread, no_item, with_spread, with_zero, start_room, start, round_room, round_boxes}
use Rattle.rounds.specs.Loop.{round, heap_of}
use Rattle.boxes.specs.Box.{whole_of}
use Rattle.rounds.proofs.OneRound.{round_cases, rounds_keep}
use Rattle.rounds.proofs.Filled.{InUse, left_long, put_back, two_more, in_use_round, start_in_use}

-- a number of a box that adds up over the two sides of every cut
pub record Additive (f : Bounds → ℕ) : Type 0 where
  pub adds : (x : Bounds) (d c : ℕ) → min_at x d ≤ c → c ≤ max_at x d → f x ≡ f (low_side x d c) + f (high_side x d c)

-- its sum over the boxes in use
unfoldable pub over : (Bounds → ℕ) → List BoxSpread → ℕ → ℕ
over f h n = sum_items (λ x. f x.bounds) (take n h)

-- a box put in
put_over : (f : Bounds → ℕ) (h : List BoxSpread) (n : ℕ) (x : BoxSpread) → length h ≡ 256 → n < 256
    → over f (put_in by_spread no_item h n x) (n + 1) ≡ f x.bounds + over f h n
unfolding over
put_over f h n x long l =
    ap (λ (m : ℕ). sum_items (λ x. f x.bounds) (take m (put_in by_spread no_item h n x))) (next n)
    ∙ put_in_sum by_spread no_item h n x (omega arith) (λ x. f x.bounds)
  where
    next : (n : ℕ) → n + 1 ≡ suc n
    next n = omega arith

-- the top taken out
take_over : (f : Bounds → ℕ) {h : List BoxSpread} {n : ℕ} → InUse h n
    → f (item no_item h 0).bounds + over f (take_out by_spread no_item h n) (n - 1) ≡ over f h n
unfolding over
take_over f {h} {n} u =
    take_out_sum by_spread no_item h n u.some (omega (arith, u.long, u.most)) (λ x. f x.bounds)

module _ {f : Bounds → ℕ} (a : Additive f) (g : Grid) (v : View) where
  pub over_round : {h : List BoxSpread} {n : ℕ} → InUse h n → n < 256
      → over f (round_room g v h n) (round_boxes g v h n) ≡ over f h n
  unfolding with_spread
  over_round {h} {n} u l =
      round_cases g v h n (λ r m. over f r m ≡ over f h n)
      (λ off. subst (λ (m : ℕ). over f (put_in by_spread no_item rest (n - 1) top) m ≡ over f h n) (put_back u)
      (put_over f rest (n - 1) top (left_long u) (omega arith) ∙ before))
      (λ on none. put_over f rest (n - 1) (with_zero top.bounds) (left_long u) (omega arith) ∙ before)
      (λ at on q.
      let low = with_spread g v (low_side top.bounds at.dimension at.bin) in
      let high = with_spread g v (high_side top.bounds at.dimension at.bin) in
      let put = put_in by_spread no_item rest (n - 1) low in
      let put-long : length put ≡ 256 = put_in_long by_spread no_item rest (n - 1) low (omega (arith, left_long u))
      ∙ left_long u in
      let in_box = (answered g v top.bounds q).1.inside in
      let both = a.adds top.bounds at.dimension at.bin (le_of_lt in_box.0) (le_of_lt in_box.1) in
      subst (λ (m : ℕ). over f (put_in by_spread no_item put (n - 1 + 1) high) m ≡ over f h n) (two_more (n - 1))
      (put_over f put (n - 1 + 1) high put-long (omega arith)
      ∙ cut (f (low_side top.bounds at.dimension at.bin)) (f (high_side top.bounds at.dimension at.bin))
      (put_over f rest (n - 1) low (left_long u) (omega arith)) both))
    where
      top : BoxSpread
      top = item no_item h 0

      rest : List BoxSpread
      rest = take_out by_spread no_item h n

      before : f top.bounds + over f rest (n - 1) ≡ over f h n
      before = take_over f u

      cut : (x y : ℕ) {z : ℕ} → z ≡ x + over f rest (n - 1) → f top.bounds ≡ x + y → y + z ≡ over f h n
      cut x y p q = omega (arith, before)

  -- the boxes of a loop make the whole grid
  pub over_heap : (k : ℕ) → k ≤ 256 → over f (heap_of g v k).room (heap_of g v k).boxes ≡ f (whole_of g)
  unfolding heap_of start start_room round over sum_items
  over_heap k most =
      (rounds_keep g v k (λ h. InUse h.room h.boxes × (over f h.room h.boxes ≡ over f (start_room g) 1))
      (λ h l e. (in_use_round g v e.0 (omega arith), over_round e.0 (omega arith) ∙ e.1))
      (2 * k) (start g) (start_in_use g, refl)).1
      ∙ add-zero (f (whole_of g))
