-- Boxes of a grid and the two sides of a cut, by dimension.
-- Assumes nothing.
use Prim.Native.Nat.{ℕ, zero, suc, ◌≤◌, ◌<◌}
use native.Mathlib.Nat.{le_of_lt}
use native.Mathlib.Omega.{arith}
use Rattle.grid.specs.declared.place.Grid.{Grid}
use Rattle.basics.specs.Dimension.{choose}
use Rattle.grid.specs.Grid.{Accepted, Inside, size_at}
use Rattle.boxes.specs.declared.sides.Bounds.{Bounds}
use Rattle.boxes.specs.Box.{min_at, max_at, Within, Ordered, low_side, high_side}

-- ---- a box of a grid
pub record Sides (g : Grid) (x : Bounds) : Type 0 where
  pub one : x.r0 < x.r1
  pub two : x.g0 < x.g1
  pub three : x.b0 < x.b1
  pub one_fits : x.r1 ≤ g.size1
  pub two_fits : x.g1 ≤ g.size2
  pub three_fits : x.b1 ≤ g.size3

pub sides : {g : Grid} {x : Bounds} → Within g x → Sides g x
unfolding min_at max_at size_at choose
sides w =
    record {
      one = w.some 0;
      two = w.some 1;
      three = w.some 2;
      one_fits = w.fits 0;
      two_fits = w.fits 1;
      three_fits = w.fits 2;
    }

-- an order that holds in each dimension
by_dimension : (R : ℕ → ℕ → Type 0) (d a b c x y z : ℕ) → R a x → R b y → R c z → R (choose d a b c) (choose d x y z)
unfolding choose
by_dimension R zero a b c x y z p q r = p
by_dimension R (suc zero) a b c x y z p q r = q
by_dimension R (suc (suc d)) a b c x y z p q r = r

within_by : {g : Grid} → Accepted g → (x : Bounds) → Sides g x → Within g x
unfolding min_at max_at size_at
within_by {g} a x s =
    record {
      accepted = a;
      some = λ d. by_dimension ◌<◌ d x.r0 x.g0 x.b0 x.r1 x.g1 x.b1 s.one s.two s.three;
      fits = λ d. by_dimension ◌≤◌ d x.r1 x.g1 x.b1 g.size1 g.size2 g.size3 s.one_fits
          s.two_fits s.three_fits;
    }

-- the two sides of a cut inside a box
pub low_within : {g : Grid} {x : Bounds} → Within g x → (d c : ℕ) → min_at x d < c → c < max_at x d
    → Within g (low_side x d c)
unfolding low_side min_at max_at choose
low_within {g} {x} w zero c h l =
    let s = sides w in
    within_by w.accepted _
    (record {
      one = h;
      two = s.two;
      three = s.three;
      one_fits = omega (arith, s.one_fits);
      two_fits =
          s.two_fits;
      three_fits = s.three_fits;
    })
low_within {g} {x} w (suc zero) c h l =
    let s = sides w in
    within_by w.accepted _
    (record {
      one = s.one;
      two = h;
      three = s.three;
      one_fits = s.one_fits;
      two_fits =
          omega (arith, s.two_fits);
      three_fits = s.three_fits;
    })
low_within {g} {x} w (suc (suc d)) c h l =
    let s = sides w in
    within_by w.accepted _
    (record {
      one = s.one;
      two = s.two;
      three = h;
      one_fits = s.one_fits;
      two_fits = s.two_fits;
      three_fits =
          omega (arith, s.three_fits);
    })

pub high_within : {g : Grid} {x : Bounds} → Within g x → (d c : ℕ) → c < max_at x d → Within g (high_side x d c)
unfolding high_side min_at max_at choose
high_within {g} {x} w zero c l =
    let s = sides w in
    within_by w.accepted _
    (record {
      one = l;
      two = s.two;
      three = s.three;
      one_fits = s.one_fits;
      two_fits = s.two_fits;
      three_fits =
          s.three_fits;
    })
high_within {g} {x} w (suc zero) c l =
    let s = sides w in
    within_by w.accepted _
    (record {
      one = s.one;
      two = l;
      three = s.three;
      one_fits = s.one_fits;
      two_fits = s.two_fits;
      three_fits =
          s.three_fits;
    })
high_within {g} {x} w (suc (suc d)) c l =
    let s = sides w in
    within_by w.accepted _
    (record {
      one = s.one;
      two = s.two;
      three = l;
      one_fits = s.one_fits;
      two_fits = s.two_fits;
      three_fits =
          s.three_fits;
    })

pub within_ordered : {g : Grid} {x : Bounds} → Within g x → Ordered x
within_ordered w = let s = sides w in
    record { one = le_of_lt s.one; two = le_of_lt s.two; three = le_of_lt s.three }

-- ---- the bins of a box
-- what it is in each dimension that a box holds a bin
pub record InBox (x : Bounds) (r gr b : ℕ) : Type 0 where
  pub one : (x.r0 ≤ r) × (r < x.r1)
  pub two : (x.g0 ≤ gr) × (gr < x.g1)
  pub three : (x.b0 ≤ b) × (b < x.b1)

pub in_low : {x : Bounds} {r gr b : ℕ} → InBox x r gr b → (d c : ℕ) → choose d r gr b < c → InBox (low_side x d c) r gr b
unfolding low_side choose
in_low i zero c h = record { one = (i.one.0, h); two = i.two; three = i.three }
in_low i (suc zero) c h = record { one = i.one; two = (i.two.0, h); three = i.three }
in_low i (suc (suc d)) c h = record { one = i.one; two = i.two; three = (i.three.0, h) }

pub in_high : {x : Bounds} {r gr b : ℕ} → InBox x r gr b → (d c : ℕ) → c ≤ choose d r gr b
    → InBox (high_side x d c) r gr b
unfolding high_side choose
in_high i zero c h = record { one = (h, i.one.1); two = i.two; three = i.three }
in_high i (suc zero) c h = record { one = i.one; two = (h, i.two.1); three = i.three }
in_high i (suc (suc d)) c h = record { one = i.one; two = i.two; three = (h, i.three.1) }

pub in_box : {x : Bounds} {r gr b : ℕ} → InBox x r gr b → (d : ℕ)
    → (min_at x d ≤ choose d r gr b) × (choose d r gr b < max_at x d)
unfolding min_at max_at choose
in_box i zero = i.one
in_box i (suc zero) = i.two
in_box i (suc (suc d)) = i.three

-- a bin of a box is one of the grid
pub bin_inside : {g : Grid} {x : Bounds} → Within g x → {r gr b : ℕ} → InBox x r gr b → Inside g r gr b
bin_inside w i =
    let e = sides w in
    record {
      accepted = w.accepted;
      one = omega (arith, i.one.1, e.one_fits);
      two =
          omega (arith, i.two.1, e.two_fits);
      three = omega (arith, i.three.1, e.three_fits);
    }
