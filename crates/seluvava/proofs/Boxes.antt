-- The boxes of a record, written one after the other.
-- Assumes nothing.
use mathlib.Core.Path.{◌≡◌, refl, sym, ap, ◌∙◌}
use mathlib.Core.List.{List}
use Prim.Native.Nat.{ℕ, ◌+◌, ◌*◌, ◌≤◌, ◌<◌}
use native.Mathlib.Omega.{arith}
use lib.ListN.{length, get_or, take, set}
use lib.Seq.{length-take-le, get_or-take, take_all}
use lib.Ieee.{Float, nan}
use Rattle.boxes.specs.declared.sides.Bounds.{Bounds}
use Rattle.boxes.specs.Bytes.{box_bytes}
use Rattle.heap.specs.Boxes.{BoxSpread}
use Rattle.cutter.specs.Record.{CutRecord}
use Rattle.cutter.specs.Fronts.{filled, put_from}
use Rattle.rounds.specs.Loop.{no_item}
use Rattle.cutter.proofs.Fronts.{put_one, filled_next, length_filled_part}
use Rattle.seluvava.specs.Cut.{its_bytes, spread_of, told}
use Rattle.seluvava.specs.Inner.{with_box_at}

-- the six bytes of a box are six stores
pub six_bytes : (old : List ℕ) (i : ℕ) (x : Bounds)
    → with_box_at old i x
    ≡ set (set (set (set (set (set old (6 * i) x.r0) (6 * i + 1) x.r1) (6 * i + 2) x.g0) (6 * i + 3) x.g1)
    (6 * i + 4) x.b0) (6 * i + 5) x.b1
unfolding with_box_at put_from box_bytes
six_bytes old i x = simp (next 1, next 2, next 3, next 4) refl
  where
    next : (n : ℕ) → 6 * i + n + 1 ≡ 6 * i + (n + 1)
    next n = omega arith

pub six : (x : BoxSpread) → length (its_bytes x) ≡ 6
unfolding its_bytes box_bytes
six x = refl

pub one : (x : BoxSpread) → length (spread_of x) ≡ 1
unfolding spread_of
one x = refl

-- the boxes told of are the first places of the record
module _ (r : CutRecord) (long : length r.places ≡ 256) (few : r.boxes ≤ 256) where
  pub told_length : length (told r) ≡ r.boxes
  unfolding told
  told_length = length-take-le r.boxes r.places (omega arith)

  pub told_all : {i : ℕ} → i ≡ r.boxes → take i (told r) ≡ told r
  told_all {i} e = take_all i (told r) (omega (arith, told_length))

  module _ (i : ℕ) (l : i < r.boxes) {x : BoxSpread} (at : x ≡ get_or r.places i no_item) where
    item : get_or (told r) i no_item ≡ x
    unfolding told
    item = get_or-take r.boxes r.places i no_item l ∙ sym at

    pub boxes_next : (old : List ℕ) → 6 * r.boxes ≤ length old → {before later : List ℕ}
        → before ≡ filled 6 its_bytes (take i (told r)) old → later ≡ with_box_at before i x.bounds
        → later ≡ filled 6 its_bytes (take (i + 1) (told r)) old
    unfolding with_box_at its_bytes
    boxes_next old h {before} e f =
        filled_next 6 its_bytes six (told r) i no_item 0 (omega (arith, told_length)) old (omega (arith, told_length)) e
        (f ∙ ap (λ (y : BoxSpread). put_from before (6 * i) (its_bytes y)) (sym item))

    pub spreads_next : (old : List Float) → r.boxes ≤ length old → {before later : List Float}
        → before ≡ filled 1 spread_of (take i (told r)) old → later ≡ set before i x.spread
        → later ≡ filled 1 spread_of (take (i + 1) (told r)) old
    unfolding spread_of
    spreads_next old h {before} e f =
        filled_next 1 spread_of one (told r) i no_item nan (omega (arith, told_length)) old (omega (arith, told_length)) e
        (f ∙ put_one before i x.spread ∙ ap (λ (y : BoxSpread). put_from before (1 * i) (spread_of y)) (sym item))

  pub boxes_long : (i : ℕ) → i ≤ r.boxes → (old : List ℕ) → 6 * r.boxes ≤ length old
      → length (filled 6 its_bytes (take i (told r)) old) ≡ length old
  boxes_long i l old h =
      length_filled_part 6 its_bytes six (told r) i (omega (arith, told_length)) old (omega (arith, told_length))

  pub spreads_long : (i : ℕ) → i ≤ r.boxes → (old : List Float) → r.boxes ≤ length old
      → length (filled 1 spread_of (take i (told r)) old) ≡ length old
  spreads_long i l old h =
      length_filled_part 1 spread_of one (told r) i (omega (arith, told_length)) old (omega (arith, told_length))
