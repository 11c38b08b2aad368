-- Places and their bins, in an accepted grid.
-- Assumes nothing.
use Rattle.std.specs.Prelude.{None, Option, Some}
use mathlib.Core.Path.{◌≡◌, refl, sym, ap, subst, ◌∙◌}
use mathlib.Core.List.{List}
use Prim.Native.Nat.{ℕ, zero, suc, ◌+◌, ◌*◌, ◌/◌, ◌%◌, ◌≤◌, ◌<◌}
use native.Mathlib.Nat.{add-zero, mul-le-mul, div-lt_iff_lt-mul, mod-lt, div-add-mod', add-mul, mul_assoc, mul-one}
use native.Mathlib.Nat.{zero-add}
use native.Mathlib.Omega.{arith}
use lib.Arith.{digits_lt, digits_div, digits_mod}
use lib.ListN.{get_or}
use Rattle.grid.specs.declared.place.Grid.{Grid}
use Rattle.pixels.specs.declared.colour.Rgb.{Rgb}
use Rattle.grid.specs.Size.{choices, shift_in, shift_of, bin_of}
use Rattle.basics.specs.Dimension.{choose}
use Rattle.grid.specs.Grid.{size_at, shift_at, grid_with, grid_of, rgb_grid, Accepted, bins_of, place_of, bin_at, Inside}
use Rattle.grid.specs.Grid.{colour_place, stride_at, steps_of, StepsOf}
use Rattle.pixels.specs.Colour.{component_at}
use Rattle.basics.proofs.Range.{list_at}
use Rattle.grid.proofs.Size.{Sized, sized, size_low, size_high, bin_lt}

pub choose_third : {A : Type 0} (d : ℕ) (x y z : A) → (d ≡ 0 → ⊥) → (d ≡ 1 → ⊥) → choose d x y z ≡ z
unfolding choose
choose_third zero x y z n m = absurd (n refl)
choose_third (suc zero) x y z n m = absurd (m refl)
choose_third (suc (suc d)) x y z n m = refl

-- the sizes of an answered grid are those asked for
pub record Chose (b1 b2 b3 : ℕ) (g : Grid) : Type 0 where
  pub accepted : Accepted g
  pub one : g.size1 ≡ b1
  pub two : g.size2 ≡ b2
  pub three : g.size3 ≡ b3

each_size : (b1 b2 b3 s1 s2 s3 : ℕ) → shift_of b1 ≡ Some s1 → shift_of b2 ≡ Some s2 → shift_of b3 ≡ Some s3
    → (d : ℕ) → shift_of (choose d b1 b2 b3) ≡ Some (choose d s1 s2 s3)
unfolding choose
each_size b1 b2 b3 s1 s2 s3 p q r zero = p
each_size b1 b2 b3 s1 s2 s3 p q r (suc zero) = q
each_size b1 b2 b3 s1 s2 s3 p q r (suc (suc d)) = r

refused_never : (g : Grid) → None ≡ Some g → ⊥
refused_never g q = let z : ◌≡◌ {A = ℕ} 0 1 = cc in omega arith

chose_with : (b1 b2 b3 : ℕ) (g : Grid) (x y z : Option ℕ) → shift_of b1 ≡ x → shift_of b2 ≡ y → shift_of b3 ≡ z
    → grid_with b1 b2 b3 x y z ≡ Some g → Chose b1 b2 b3 g
unfolding grid_with size_at shift_at
chose_with b1 b2 b3 g (Some s1) (Some s2) (Some s3) p q r e =
    let made : Grid = record { shift1 = s1; shift2 = s2; shift3 = s3; size1 = b1; size2 = b2; size3 = b3 } in
    let same : made ≡ g = cc in
    subst (λ (h : Grid). Chose b1 b2 b3 h) same
    (record { accepted = record { size = each_size b1 b2 b3 s1 s2 s3 p q r }; one = refl; two = refl; three = refl })
chose_with b1 b2 b3 g (Some s1) (Some s2) None p q r e = absurd (refused_never g e)
chose_with b1 b2 b3 g (Some s1) None z p q r e = absurd (refused_never g e)
chose_with b1 b2 b3 g None y z p q r e = absurd (refused_never g e)

pub chose : (b1 b2 b3 : ℕ) (g : Grid) → grid_of b1 b2 b3 ≡ Some g → Chose b1 b2 b3 g
unfolding grid_of
chose b1 b2 b3 g e = chose_with b1 b2 b3 g (shift_of b1) (shift_of b2) (shift_of b3) refl refl refl e

-- an accepted grid is that of its sizes
pub sizes_chosen : {g : Grid} → Accepted g → grid_of g.size1 g.size2 g.size3 ≡ Some g
unfolding grid_of grid_with size_at shift_at choose
sizes_chosen {g} a =
    λ i. grid_with g.size1 g.size2 g.size3 (a.size 0 i) (a.size 1 i) (a.size 2 i)

-- "`rgb()` is 16, 32, 16"
pub rgb_accepted : grid_of 16 32 16 ≡ Some rgb_grid
unfolding grid_of grid_with shift_of shift_in choices rgb_grid
rgb_accepted = refl

module _ {g : Grid} (a : Accepted g) where
  pub sized_at : (d : ℕ) → Sized (size_at g d) (shift_at g d)
  sized_at d = sized (size_at g d) (shift_at g d) (a.size d)

  pub one : Sized g.size1 g.shift1
  unfolding size_at shift_at choose
  one = sized_at 0

  pub two : Sized g.size2 g.shift2
  unfolding size_at shift_at choose
  two = sized_at 1

  pub three : Sized g.size3 g.shift3
  unfolding size_at shift_at choose
  three = sized_at 2

  -- the products that the code forms
  pub plane_high : g.size2 * g.size3 ≤ 16384
  plane_high = mul-le-mul (size_high two) (size_high three)

  pub rows_high : g.size1 * g.size2 ≤ 16384
  rows_high = mul-le-mul (size_high one) (size_high two)

  pub bins_high : bins_of g ≤ 2097152
  unfolding bins_of
  bins_high = mul-le-mul rows_high (size_high three)

-- a row of bins starts below the number of rows
pub row_lt : {g : Grid} {r gr b : ℕ} → Inside g r gr b → r * g.size2 + gr < g.size1 * g.size2
row_lt i = digits_lt i.one i.two

-- places below the number of bins
pub place_lt : {g : Grid} {r gr b : ℕ} → Inside g r gr b → place_of g r gr b < bins_of g
unfolding place_of bins_of
place_lt i = digits_lt (row_lt i) i.three

-- the bins of a place
pub bin_of_place : (g : Grid) (d r gr b : ℕ) → gr < g.size2 → b < g.size3
    → bin_at g d (place_of g r gr b) ≡ choose d r gr b
unfolding bin_at place_of choose
bin_of_place g zero r gr b h k =
    ap (λ (n : ℕ). n / g.size2) (digits_div (r * g.size2 + gr) k) ∙ digits_div r h
bin_of_place g (suc zero) r gr b h k =
    ap (λ (n : ℕ). n % g.size2) (digits_div (r * g.size2 + gr) k) ∙ digits_mod r h
bin_of_place g (suc (suc d)) r gr b h k = digits_mod (r * g.size2 + gr) k

-- place is one to one
pub place_once : {g : Grid} {r gr b r' gr' b' : ℕ} → Inside g r gr b → Inside g r' gr' b'
    → place_of g r gr b ≡ place_of g r' gr' b' → (d : ℕ) → choose d r gr b ≡ choose d r' gr' b'
place_once {g} {r} {gr} {b} {r'} {gr'} {b'} i j e d =
    sym (bin_of_place g d r gr b i.two i.three)
    ∙ ap (bin_at g d) e
    ∙ bin_of_place g d r' gr' b' j.two j.three

-- and each place is that of its bins
pub place_of_bins : (g : Grid) (p : ℕ) → place_of g (bin_at g 0 p) (bin_at g 1 p) (bin_at g 2 p) ≡ p
unfolding place_of bin_at choose
place_of_bins g p =
    ap (λ (n : ℕ). n * g.size3 + p % g.size3) (div-add-mod' (p / g.size3) g.size2) ∙ div-add-mod' p g.size3

pub bins_inside : {g : Grid} → Accepted g → (p : ℕ) → p < bins_of g → Inside g (bin_at g 0 p) (bin_at g 1 p) (bin_at g 2 p)
unfolding bin_at choose bins_of
bins_inside {g} a p h =
    record {
      accepted = a;
      one = (div-lt_iff_lt-mul {k = g.size2} {x = p / g.size3} {y = g.size1} (omega (arith, size_low (two a)))
          ).1 ((div-lt_iff_lt-mul {k = g.size3} {x = p} {y = g.size1 * g.size2}
          (omega (arith, size_low (three a)))).1 h);
      two = mod-lt (p / g.size3) {m = g.size2} (omega (arith, size_low (two a)));
      three = mod-lt p {m = g.size3} (omega (arith, size_low (three a)));
    }

pub bin_at_below : {g : Grid} → Accepted g → (p d : ℕ) → p < bins_of g → bin_at g d p < size_at g d
unfolding bin_at size_at choose
bin_at_below a p zero h = (bins_inside a p h).one
bin_at_below a p (suc zero) h = (bins_inside a p h).two
bin_at_below a p (suc (suc d)) h = (bins_inside a p h).three

-- a colour's components are bytes
pub record Bytes (x : Rgb) : Type 0 where
  pub one : x.c1 < 256
  pub two : x.c2 < 256
  pub three : x.c3 < 256

pub colour_inside : {g : Grid} → Accepted g → {x : Rgb} → Bytes x
    → Inside g (bin_of g.shift1 x.c1) (bin_of g.shift2 x.c2) (bin_of g.shift3 x.c3)
colour_inside {g} a {x} b =
    record {
      accepted = a;
      one = bin_lt (one a) x.c1 b.one;
      two = bin_lt (two a) x.c2 b.two;
      three =
          bin_lt (three a) x.c3 b.three;
    }

chosen_bin : (g : Grid) (x : Rgb) (d : ℕ)
    → choose d (bin_of g.shift1 x.c1) (bin_of g.shift2 x.c2) (bin_of g.shift3 x.c3)
    ≡ bin_of (shift_at g d) (component_at x d)
unfolding choose shift_at component_at
chosen_bin g x zero = refl
chosen_bin g x (suc zero) = refl
chosen_bin g x (suc (suc d)) = refl

-- the bins of a colour's place
pub colour_bin : {g : Grid} → Accepted g → {x : Rgb} → Bytes x → (d : ℕ)
    → bin_at g d (colour_place g x) ≡ bin_of (shift_at g d) (component_at x d)
unfolding colour_place
colour_bin {g} a {x} b d =
    let i = colour_inside a b in
    bin_of_place g d (bin_of g.shift1 x.c1) (bin_of g.shift2 x.c2) (bin_of g.shift3 x.c3) i.two
    i.three ∙ chosen_bin g x d

pub colour_place_lt : {g : Grid} → Accepted g → {x : Rgb} → Bytes x → colour_place g x < bins_of g
unfolding colour_place
colour_place_lt a b = place_lt (colour_inside a b)

-- the step of a component
pub step_at : (g : Grid) (d c : ℕ) → c < 256 → get_or (steps_of g d) c 0 ≡ bin_of (shift_at g d) c * stride_at g d
unfolding steps_of
step_at g d c h = list_at 0 256 (λ k. bin_of (shift_at g d) k * stride_at g d) c 0 h
    ∙ ap (λ (k : ℕ). bin_of (shift_at g d) k * stride_at g d) (zero-add c)

-- in the last dimension it is the bin itself
pub last_step : (g : Grid) (c : ℕ) → c < 256 → get_or (steps_of g 2) c 0 ≡ bin_of g.shift3 c
unfolding shift_at stride_at choose
last_step g c h = step_at g 2 c h ∙ mul-one (bin_of g.shift3 c)

-- the three steps add up to the place
steps_add : (g : Grid) (x : Rgb) → Bytes x
    → get_or (steps_of g 0) x.c1 0 + get_or (steps_of g 1) x.c2 0 + get_or (steps_of g 2) x.c3 0 ≡ colour_place g x
unfolding colour_place place_of stride_at shift_at choose
steps_add g x b =
    let r = bin_of g.shift1 x.c1 in
    let gr = bin_of g.shift2 x.c2 in
    omega (
      arith,
      step_at g 0 x.c1 b.one,
      step_at g 1 x.c2 b.two,
      step_at g 2 x.c3 b.three,
      add-mul (r * g.size2) gr g.size3,
      mul_assoc r g.size2 g.size3,
      mul-one (bin_of g.shift3 x.c3),
    )

pub steps_place : {g : Grid} {t1 t2 t3 : List ℕ} → StepsOf g t1 t2 t3 → {x : Rgb} → Bytes x
    → get_or t1 x.c1 0 + get_or t2 x.c2 0 + get_or t3 x.c3 0 ≡ colour_place g x
steps_place {g} s {x} b = rw (s.one, s.two, s.three) (steps_add g x b)

-- the places where rows and planes start
pub row_start : (g : Grid) (r gr : ℕ) → place_of g r gr 0 ≡ place_of g r 0 0 + gr * g.size3
unfolding place_of
row_start g r gr = omega (arith, add-mul (r * g.size2) gr g.size3, add-zero (r * g.size2))

pub plane_start : (g : Grid) (r : ℕ) → place_of g r 0 0 ≡ 0 + r * (g.size2 * g.size3)
unfolding place_of
plane_start g r = rw (add-zero (r * g.size2)) (omega (arith, mul_assoc r g.size2 g.size3))

-- and the places along a row
pub place_along : (g : Grid) (r gr b : ℕ) → place_of g r gr 0 + b ≡ place_of g r gr b
unfolding place_of
place_along g r gr b = ap (λ (n : ℕ). n + b) (add-zero ((r * g.size2 + gr) * g.size3))
