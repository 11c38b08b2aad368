-- At every round of the loop, for a sound table with a total above 0: no spread and no score is a NaN, infinity is the
-- spread of the starting box alone and only until it is taken out, and no box in the heap is empty.
-- Assumes nothing.
use mathlib.Core.Path.{◌≡◌, refl, ap}
use mathlib.Core.Bool.{true, true≢false}
use Prim.Native.Nat.{ℕ, suc, ◌*◌, ◌≤◌, ◌<◌}
use native.Mathlib.Nat.{pos_of_ne-zero}
use native.Mathlib.Omega.{arith}
use lib.Dec.{T}
use lib.Ieee.{lt}
use lib.Ieee.Scale.{finite}
use Rattle.basics.proofs.Compare.{finite_number}
use Rattle.grid.specs.declared.place.Grid.{Grid}
use Rattle.grid.specs.Grid.{Accepted}
use Rattle.table.specs.Cell.{View}
use Rattle.table.specs.Sound.{limit, sound, total}
use Rattle.table.proofs.Soundness.{Sound}
use Rattle.boxes.specs.declared.sides.Bounds.{Bounds}
use Rattle.boxes.specs.Box.{low_side, high_side}
use Rattle.boxes.proofs.Within.{low_within, high_within}
use Rattle.spread.proofs.Finite.{spread_finite, score_finite}
use Rattle.heap.specs.Boxes.{BoxSpread}
use Rattle.rounds.specs.Loop.{Heap, with_spread, with_zero, start_room, start, round_room, round_boxes, round, rounds}
use Rattle.rounds.specs.Loop.{heap_of}
use Rattle.rounds.proofs.OneRound.{round_cases, rounds_keep}
use Rattle.rounds.proofs.Filled.{Each, Kept, Fit, fit_kept, left_long, each_put, each_round, at_start}
use Rattle.rounds.proofs.Filled.{start_in_use, start_each, start_fit}
use Rattle.rounds.proofs.Fuel.{rounds_full, rounds_on}
use Rattle.rounds.proofs.Ends.{Sane, start_sane}
use Rattle.promises.specs.Finite.{heap_after, box_at, ScoresFinite, AllNumbers}

-- a box of the grid with some weight, whose spread is finite
record Measured (g : Grid) (v : View) (x : BoxSpread) : Type 0 where
  fit : Fit g v x
  finite_spread : T (finite x.spread)

-- a heap from which no top was taken out yet, or one in which every spread is finite
data Stage (g : Grid) (v : View) (h : Heap) : Type 0 where
  begun : h ≡ start g → Stage g v h
  later : 0 < h.rounds → Each (Measured g v) h.room h.boxes → Stage g v h

module _ {g : Grid} {v : View} (s : Sound limit g v) where
  zero_measured : (x : BoxSpread) → Fit g v x → Measured g v (with_zero x.bounds)
  zero_measured x f = record { fit = record { within = f.within; some = f.some }; finite_spread = tt }

  side_measured : (x : Bounds) → Fit g v (with_spread g v x) → Measured g v (with_spread g v x)
  unfolding with_spread
  side_measured x f =
      record { fit = f; finite_spread = spread_finite s f.within (pos_of_ne-zero f.some) }

  measured_kept : Kept g v (Measured g v)
  measured_kept =
      record {
        zero_too = λ x m q. zero_measured x m.fit;
        sides_too = λ x m {at} q.
            let both = (fit_kept g v).sides_too x m.fit q in (
              side_measured (low_side x.bounds at.dimension at.bin) both.0,
              side_measured (high_side x.bounds at.dimension at.bin) both.1,
            );
      }

  module _ (a : Accepted g) (l : 0 < total g v) where
    -- the first round takes the starting box out, and what comes in has a finite spread
    first_round : Each (Measured g v) (round_room g v (start_room g) 1) (round_boxes g v (start_room g) 1)
    unfolding start_room lt
    first_round =
        round_cases g v (start_room g) 1 (Each (Measured g v))
        (λ off. absurd (true≢false off))
        (λ on none. each_put (Measured g v) _ (left_long (start_in_use g)) (omega arith) (λ p m. absurd (omega arith))
        (zero_measured (at_start g) (start_fit a l)))
        (λ p on q.
        let both = (fit_kept g v).sides_too (at_start g) (start_fit a l) q in
        let low = each_put (Measured g v) _ (left_long (start_in_use g)) (omega arith) (λ p m. absurd (omega arith))
        (side_measured (low_side (at_start g).bounds p.dimension p.bin) both.0) in
        each_put (Measured g v) _ low.in_use.long (omega arith) low.each
        (side_measured (high_side (at_start g).bounds p.dimension p.bin) both.1))

    -- one round more
    next_stage : (h : Heap) → h.boxes < 256 → Stage g v h → Stage g v (round g v h)
    unfolding round start
    next_stage h m (begun e) = rw e (later (omega arith) first_round)
    next_stage h m (later some each) = later (omega arith) (each_round measured_kept each m)

  -- every position of a box of the grid, with weight on both sides
  fit_scores : (x : BoxSpread) → Fit g v x → ScoresFinite g v x.bounds
  fit_scores x f =
      record {
        finite_score = λ d bin more less low high.
            score_finite s (low_within f.within d bin more less) low (high_within f.within d bin less) high;
      }

  -- what a stage says of its heap
  stage_numbers : Accepted g → 0 < total g v → (h : Heap) → Stage g v h → AllNumbers g v h
  unfolding start start_room
  stage_numbers a l h (begun e) =
      rw e
      (record {
        number = λ p m. (only.each p m).number;
        starting = λ z. (refl, refl);
        finite_spread = λ m. absurd (omega arith);
        scores = λ p m. fit_scores (box_at (start g) p) (only.each p m).fit;
        some = λ p m. pos_of_ne-zero (only.each p m).fit.some;
      })
    where
      only : Each (Sane g v) (start_room g) 1
      only = start_each g (start_sane a l)
  stage_numbers a l h (later m each) =
      record {
        number = λ p n. finite_number (box_at h p).spread (each.each p n).finite_spread;
        starting = λ z. absurd (omega arith);
        finite_spread = λ n p q. (each.each p q).finite_spread;
        scores = λ p n. fit_scores (box_at h p) (each.each p n).fit;
        some = λ p n. pos_of_ne-zero (each.each p n).fit.some;
      }

-- ---- at k = 1 no top is ever taken out; at a larger k the starting box is, in the first round
module _ (g : Grid) (v : View) (k i : ℕ) where
  pub none_taken : k ≤ 1 → (heap_after i g v k).rounds ≡ 0
  unfolding heap_after start
  none_taken l = ap (λ (h : Heap). h.rounds) (rounds_full g v k (start g) i l)

  pub first_taken : 1 < k → 0 < (heap_after (suc i) g v k).rounds
  unfolding heap_after start start_room round lt
  first_taken l =
      rw (rounds_on g v k (start g) i l refl)
      (rounds_keep g v k (λ h. 0 < h.rounds) (λ h m p. omega arith) i (round g v (start g)) (omega arith))

-- ---- at every round, and so at the end
module _ {g : Grid} {v : View} (a : Accepted g) (e : sound limit g v ≡ true) (l : 0 < total g v) where
  pub all_numbers : (k : ℕ) → k ≤ 256 → (i : ℕ) → AllNumbers g v (heap_after i g v k)
  unfolding heap_after
  all_numbers k most i =
      let s : Sound limit g v = record { holds = e } in
      stage_numbers s a l (rounds i g v k (start g))
      (rounds_keep g v k (Stage g v) (λ h m. next_stage s a l h (omega arith)) i (start g) (begun refl))

  pub numbers_at_end : (k : ℕ) → k ≤ 256 → AllNumbers g v (heap_of g v k)
  unfolding heap_of heap_after
  numbers_at_end k most = all_numbers k most (2 * k)
