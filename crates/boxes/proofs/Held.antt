-- Which bins a box holds: those of its three runs, and each in one side of a cut.
-- Assumes nothing.
use mathlib.Core.Path.{◌≡◌, refl, sym}
use mathlib.Core.Bool.{Bool, true, false, cond, ◌&&◌, ◌||◌}
use Prim.Native.Nat.{ℕ, zero, suc, ◌+◌, ◌≤◌, ◌<◌}
use native.Mathlib.Decide.{dec_le}
use native.Mathlib.Omega.{arith}
use borrow.Author.Tests.{le-leb, lt-ltb, leb-true, ltb-true}
use lib.Dec.{leb, ltb}
use Rattle.grid.specs.declared.place.Grid.{Grid}
use Rattle.grid.specs.Grid.{Accepted, size_at, bins_of, bin_at}
use Rattle.basics.specs.Dimension.{choose}
use Rattle.basics.proofs.Range.{and_left, and_right, tests_same, never_true}
use Rattle.grid.proofs.Places.{bin_at_below}
use Rattle.boxes.specs.declared.sides.Bounds.{Bounds}
use Rattle.boxes.specs.Box.{min_at, max_at, whole_of, low_side, high_side}
use Rattle.boxes.specs.Holds.{lies, holds, holds_at}
use Rattle.boxes.proofs.Within.{InBox, in_low, in_high}

-- ---- a run of numbers
module _ (low end n : ℕ) where
  pub lies_by : low ≤ n → n < end → lies low end n ≡ true
  unfolding lies
  lies_by h l = rw (le-leb low n h) (lt-ltb n end l)

  pub lies_from : lies low end n ≡ true → low ≤ n
  unfolding lies
  lies_from e = leb-true low n (and_left (leb low n) (ltb n end) e)

  pub lies_below : lies low end n ≡ true → n < end
  unfolding lies
  lies_below e = ltb-true n end (and_right (leb low n) (ltb n end) e)

-- ---- the bins of a box
module _ {x : Bounds} {r gr b : ℕ} where
  pub holds_in : holds x r gr b ≡ true → InBox x r gr b
  unfolding holds
  holds_in e =
      let one : Bool = lies x.r0 x.r1 r in
      let two : Bool = lies x.g0 x.g1 gr in
      let three : Bool = lies x.b0 x.b1 b in
      let rest = and_right one (two && three) e in
      record {
        one = (lies_from _ _ _ (and_left one (two && three) e), lies_below _ _ _ (and_left one (two && three) e));
        two = (lies_from _ _ _ (and_left two three rest), lies_below _ _ _ (and_left two three rest));
        three = (lies_from _ _ _ (and_right two three rest), lies_below _ _ _ (and_right two three rest));
      }

  pub in_holds : InBox x r gr b → holds x r gr b ≡ true
  unfolding holds
  in_holds i =
      rw (
        lies_by x.r0 x.r1 r i.one.0 i.one.1,
        lies_by x.g0 x.g1 gr i.two.0 i.two.1,
        lies_by x.b0 x.b1 b i.three.0 i.three.1,
      )
      refl

-- the bin at a place is one of the box
abbrev pub PlaceIn : Grid → Bounds → ℕ → Type 0
PlaceIn g x p = InBox x (bin_at g 0 p) (bin_at g 1 p) (bin_at g 2 p)

module _ (g : Grid) (x : Bounds) (p : ℕ) where
  pub place_held : holds_at g x p ≡ true → PlaceIn g x p
  unfolding holds_at
  place_held e = holds_in e

  pub held_place : PlaceIn g x p → holds_at g x p ≡ true
  unfolding holds_at
  held_place i = in_holds i

-- the whole grid holds every place
pub whole_holds : {g : Grid} → Accepted g → (p : ℕ) → p < bins_of g → holds_at g (whole_of g) p ≡ true
unfolding whole_of size_at choose
whole_holds {g} a p h =
    held_place g (whole_of g) p
    (record {
      one = (omega arith, bin_at_below a p 0 h);
      two = (omega arith, bin_at_below a p 1 h);
      three = (omega arith, bin_at_below a p 2 h);
    })

-- ---- the two sides of a cut
low_below : (x : Bounds) {r gr b : ℕ} (d c : ℕ) → InBox (low_side x d c) r gr b → choose d r gr b < c
unfolding low_side choose
low_below x zero c i = i.one.1
low_below x (suc zero) c i = i.two.1
low_below x (suc (suc d)) c i = i.three.1

high_from : (x : Bounds) {r gr b : ℕ} (d c : ℕ) → InBox (high_side x d c) r gr b → c ≤ choose d r gr b
unfolding high_side choose
high_from x zero c i = i.one.0
high_from x (suc zero) c i = i.two.0
high_from x (suc (suc d)) c i = i.three.0

low_in : {x : Bounds} {r gr b : ℕ} (d c : ℕ) → c ≤ max_at x d → InBox (low_side x d c) r gr b → InBox x r gr b
unfolding low_side max_at choose
low_in zero c h i = record { one = (i.one.0, omega arith); two = i.two; three = i.three }
low_in (suc zero) c h i = record { one = i.one; two = (i.two.0, omega arith); three = i.three }
low_in (suc (suc d)) c h i = record { one = i.one; two = i.two; three = (i.three.0, omega arith) }

high_in : {x : Bounds} {r gr b : ℕ} (d c : ℕ) → min_at x d ≤ c → InBox (high_side x d c) r gr b → InBox x r gr b
unfolding high_side min_at choose
high_in zero c h i = record { one = (omega arith, i.one.1); two = i.two; three = i.three }
high_in (suc zero) c h i = record { one = i.one; two = (omega arith, i.two.1); three = i.three }
high_in (suc (suc d)) c h i = record { one = i.one; two = i.two; three = (omega arith, i.three.1) }

-- what passes the test of the whole passes that of one side
pub data Side (whole low high : Bool) : Type 0 where
  lower : low ≡ whole → high ≡ false → Side whole low high
  upper : low ≡ false → high ≡ whole → Side whole low high

module _ (g : Grid) (x : Bounds) (d c : ℕ) (h : min_at x d ≤ c) (l : c ≤ max_at x d) (p : ℕ) where
  abbrev bin : ℕ
  bin = choose d (bin_at g 0 p) (bin_at g 1 p) (bin_at g 2 p)

  pub side : Side (holds_at g x p) (holds_at g (low_side x d c) p) (holds_at g (high_side x d c) p)
  side = go (dec_le c bin)
    where
      go : Dec (c ≤ bin) → Side (holds_at g x p) (holds_at g (low_side x d c) p) (holds_at g (high_side x d c) p)
      go (yes k) =
          upper
          (never_true _ (λ e. past (low_below x d c (place_held g (low_side x d c) p e)) k))
          (tests_same _ _
          (λ e. held_place g x p (high_in d c h (place_held g (high_side x d c) p e)))
          (λ e. held_place g (high_side x d c) p (in_high (place_held g x p e) d c k)))
        where
          past : {a b : ℕ} → a < b → b ≤ a → ⊥
          past s t = omega arith
      go (no n) =
          let k : bin < c = omega arith in
          lower
          (tests_same _ _
          (λ e. held_place g x p (low_in d c l (place_held g (low_side x d c) p e)))
          (λ e. held_place g (low_side x d c) p (in_low (place_held g x p e) d c k)))
          (never_true _ (λ e. n (high_from x d c (place_held g (high_side x d c) p e))))

  pub cut_holds : holds_at g x p ≡ (holds_at g (low_side x d c) p || holds_at g (high_side x d c) p)
  cut_holds = go side
    where
      go : {a b c : Bool} → Side a b c → a ≡ (b || c)
      go (lower e f) = rw (e, f) (sym (mathlib.Core.Bool.or-false _))
      go (upper e f) = rw (e, f) refl

  -- a cut keeps the number of boxes that hold a place
  pub cut_holding : cond (holds_at g x p) 1 0
      ≡ cond (holds_at g (low_side x d c) p) 1 0 + cond (holds_at g (high_side x d c) p) 1 0
  cut_holding = go side
    where
      go : {a b c : Bool} → Side a b c → cond a 1 0 ≡ cond b 1 0 + cond c 1 0
      go (lower e f) = rw (e, f) (omega arith)
      go (upper e f) = rw (e, f) (omega arith)
