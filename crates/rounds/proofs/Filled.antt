-- Every box in use is a box of the grid that has some weight, from the start to the end of the loop.
-- Assumes nothing.
use mathlib.Core.Path.{◌≡◌, subst, ◌∙◌}
use mathlib.Core.Bool.{false}
use mathlib.Core.List.{List}
use Prim.Native.Nat.{ℕ, ◌+◌, ◌-◌, ◌*◌, ◌≤◌, ◌<◌}
use native.Mathlib.Omega.{arith}
use lib.ListN.{length, replicate, length-set, length-replicate}
use lib.Ieee.{inf}
use Rattle.grid.specs.declared.place.Grid.{Grid}
use Rattle.grid.specs.Grid.{Accepted}
use Rattle.table.specs.Cell.{View}
use Rattle.table.specs.Sound.{total}
use Rattle.table.proofs.Soundness.{total_is}
use Rattle.bins.specs.Sum.{box_sum}
use Rattle.boxes.specs.Box.{low_side, high_side, Within}
use Rattle.std.specs.Prelude.{Some, None}
use Rattle.spread.specs.declared.position.Position.{Position}
use Rattle.spread.specs.Cut.{best_cut}
use Rattle.spread.proofs.Best.{answered}
use Rattle.heap.specs.Heap.{item, put_in, take_out}
use Rattle.heap.proofs.Keeps.{put_in_long, put_in_all, take_out_long, take_out_all}
use Rattle.heap.specs.Boxes.{BoxSpread}
use Rattle.rounds.specs.Loop.{by_spread, Heap, no_item, with_spread, with_zero, start_room, round_room}
use Rattle.rounds.specs.Loop.{round_boxes, round, rounds, start, heap_of}
use Rattle.boxes.specs.Box.{no_box, whole_of}
use Rattle.boxes.proofs.Whole.{whole_within}
use Rattle.rounds.proofs.Grids.{whole_sum}
use Rattle.spread.proofs.Cases.{low_box, high_box}
use Rattle.rounds.proofs.OneRound.{round_cases, rounds_keep}

-- a room with n places in use
pub record InUse (h : List BoxSpread) (n : ℕ) : Type 0 where
  pub long : length h ≡ 256
  pub some : 0 < n
  pub most : n ≤ 256

-- once its top has left, and a box was put back, or two put in
module _ {h : List BoxSpread} {n : ℕ} (u : InUse h n) where
  pub left_long : length (take_out by_spread no_item h n) ≡ 256
  left_long = take_out_long by_spread no_item h n u.some (omega (arith, u.long, u.most)) ∙ u.long

  pub put_back : n - 1 + 1 ≡ n
  put_back = omega (arith, u.some)

pub two_more : (m : ℕ) → m + 1 + 1 ≡ m + 2
two_more m = omega arith

-- that, where each box in use has a property
pub record Each (P : BoxSpread → Type 0) (h : List BoxSpread) (n : ℕ) : Type 0 where
  pub in_use : InUse h n
  pub each : (p : ℕ) → p < n → P (item no_item h p)

-- a property that a box put back with 0.0 keeps, and that both sides of a cut have
pub record Kept (g : Grid) (v : View) (P : BoxSpread → Type 0) : Type 0 where
  pub zero_too : (x : BoxSpread) → P x → best_cut g v x.bounds ≡ None → P (with_zero x.bounds)
  pub sides_too : (x : BoxSpread) → P x → {at : Position} → best_cut g v x.bounds ≡ Some at
      → P (with_spread g v (low_side x.bounds at.dimension at.bin)) × P (with_spread g v (high_side x.bounds at.dimension at.bin))

module _ (P : BoxSpread → Type 0) (h : List BoxSpread) where
  -- a box put in
  pub each_put : {n : ℕ} → length h ≡ 256 → n < 256 → ((p : ℕ) → p < n → P (item no_item h p)) → {x : BoxSpread} → P x
      → Each P (put_in by_spread no_item h n x) (n + 1)
  each_put {n} long room all {x} has =
      record {
        in_use = record {
          long = put_in_long by_spread no_item h n x (omega arith)
              ∙ long;
          some = omega arith;
          most = omega arith;
        };
        each = λ p l. put_in_all by_spread no_item h n x (omega arith) P has all p (omega arith);
      }

  -- the others, once the top has left
  pub others : {n : ℕ} → Each P h n → (p : ℕ) → p < n - 1 → P (item no_item (take_out by_spread no_item h n) p)
  others {n} e =
      take_out_all by_spread no_item h n e.in_use.some (omega (arith, e.in_use.long, e.in_use.most)) P e.each

-- one round
pub each_round : {g : Grid} {v : View} {P : BoxSpread → Type 0} → Kept g v P → {h : List BoxSpread} {n : ℕ} → Each P h n
    → n < 256 → Each P (round_room g v h n) (round_boxes g v h n)
each_round {g} {v} {P} k {h} {n} e l =
    let top : P (item no_item h 0) = e.each 0 e.in_use.some in
    round_cases g v h n (Each P)
    (λ off. subst (Each P _) (put_back e.in_use)
    (each_put P _ (left_long e.in_use) (omega arith) (others P h e) top))
    (λ on none. each_put P _ (left_long e.in_use) (omega arith) (others P h e)
    (k.zero_too (item no_item h 0) top none))
    (λ at on q.
    let both = k.sides_too (item no_item h 0) top q in
    let low = each_put P _ (left_long e.in_use) (omega arith) (others P h e) both.0 in
    subst (Each P _) (two_more (n - 1)) (each_put P _ low.in_use.long (omega arith) low.each both.1))

-- the places in use alone
any_kept : (g : Grid) (v : View) → Kept g v (λ x. Unit {0})
any_kept g v = record { zero_too = λ x p q. tt; sides_too = λ x p q. (tt, tt) }

pub in_use_round : (g : Grid) (v : View) {h : List BoxSpread} {n : ℕ} → InUse h n → n < 256
    → InUse (round_room g v h n) (round_boxes g v h n)
in_use_round g v {h} {n} u l =
    (each_round (any_kept g v) {h = h} {n = n} (record { in_use = u; each = λ p m. tt }) l).in_use

-- all rounds
pub each_rounds : {g : Grid} {v : View} {P : BoxSpread → Type 0} → Kept g v P → (k f : ℕ) → k ≤ 256 → (h : Heap)
    → Each P h.room h.boxes → Each P (rounds f g v k h).room (rounds f g v k h).boxes
unfolding round
each_rounds {g} {v} {P} kept k f most =
    rounds_keep g v k (λ h. Each P h.room h.boxes) (λ h l e. each_round kept e (omega arith)) f

-- ---- every box in use is one of the grid
abbrev pub OfGrid : Grid → BoxSpread → Type 0
OfGrid g x = Within g x.bounds

pub of_grid_kept : (g : Grid) (v : View) → Kept g v (OfGrid g)
unfolding with_spread
of_grid_kept g v = record { zero_too = λ x h q. h; sides_too = λ x h q. (low_box v h q, high_box v h q) }

-- ---- no box is empty
pub record Fit (g : Grid) (v : View) (x : BoxSpread) : Type 0 where
  pub within : Within g x.bounds
  pub some : box_sum g v x.bounds 0 ≡ 0 → ⊥

pub fit_kept : (g : Grid) (v : View) → Kept g v (Fit g v)
unfolding with_spread
fit_kept g v =
    record {
      zero_too = λ x h q. record { within = h.within; some = h.some };
      sides_too = λ x h {at} q.
          let a = (answered g v x.bounds q).1.split in (
            record { within = low_box v h.within q; some = a.low },
            record { within = high_box v h.within q; some = a.high },
          );
    }

-- ---- the start
-- the whole grid at infinity
abbrev pub at_start : Grid → BoxSpread
at_start g = record { spread = inf false; bounds = whole_of g }

pub start_in_use : (g : Grid) → InUse (start_room g) 1
unfolding start_room
start_in_use g =
    record {
      long = length-set (replicate 256 (with_zero no_box)) 0 (at_start g) ∙ length-replicate 256 (with_zero no_box);
      some = omega arith;
      most = omega arith;
    }

-- it is the only box in use
pub start_each : {P : BoxSpread → Type 0} (g : Grid) → P (at_start g) → Each P (start_room g) 1
unfolding start_room
start_each {P} g has = record { in_use = start_in_use g; each = λ p m. first p (omega arith) }
  where
    first : (p : ℕ) → p ≡ 0 → P (item no_item (start_room g) p)
    first p e = rw e has

-- its weight is the total
pub start_fit : {g : Grid} {v : View} → Accepted g → 0 < total g v → Fit g v (at_start g)
start_fit {g} {v} a l = record { within = whole_within a; some = λ e. omega (arith, total_is g v, whole_sum g v 0) }

-- ---- the heap at the end
pub heap_fit : {g : Grid} {v : View} → Accepted g → 0 < total g v → (k : ℕ) → k ≤ 256
    → Each (Fit g v) (heap_of g v k).room (heap_of g v k).boxes
unfolding heap_of start
heap_fit {g} {v} a l k most = each_rounds (fit_kept g v) k (2 * k) most (start g) (start_each g (start_fit a l))

pub heap_in_use : (g : Grid) (v : View) (k : ℕ) → k ≤ 256 → InUse (heap_of g v k).room (heap_of g v k).boxes
unfolding heap_of start
heap_in_use g v k most = (each_rounds (any_kept g v) k (2 * k) most (start g) (start_each g tt)).in_use

-- no more than k boxes
round_most : (g : Grid) (v : View) (h : List BoxSpread) (n : ℕ) → 0 < n → round_boxes g v h n ≤ n + 1
round_most g v h n l =
    round_cases g v h n (λ r m. m ≤ n + 1) (λ off. omega arith) (λ on none. omega arith) (λ at on q. omega arith)

pub heap_most : (g : Grid) (v : View) (k : ℕ) → 1 ≤ k → k ≤ 256 → (heap_of g v k).boxes ≤ k
unfolding heap_of start round
heap_most g v k least most =
    (rounds_keep g v k (λ h. InUse h.room h.boxes × (h.boxes ≤ k))
    (λ h l e.
    let most-then = round_most g v h.room h.boxes e.0.some in
    (in_use_round g v e.0 (omega arith), omega arith))
    (2 * k) (start g) (start_in_use g, least)).1
