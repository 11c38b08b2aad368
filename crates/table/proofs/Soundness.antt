-- Laws of sound tables, so that what stands above needs no inside of `sound`.
-- Assumes nothing.
use Rattle.std.proofs.Common.{◌≡◌, ℕ, zero, suc, ◌+◌, ◌*◌, ◌^◌, ◌<◌, ◌≤◌, Bool, true, false, ◌&&◌, leb, refl, ap, ◌∙◌, lt_trans, mul_comm, add-mul, mul-le-mul, mul-le-mul_left, zero-mul, arith, lit<, lit≤, le-leb, leb-true}
use borrow.Author.Tests.{lt-leb}
use lib.Dec.{leb-zero}
use Rattle.grid.specs.declared.place.Grid.{Grid}
use Rattle.grid.specs.declared.dimension.Span.{Span}
use Rattle.basics.specs.Range.{sum_from, all_from}
use Rattle.grid.specs.Size.{span_of}
use Rattle.grid.specs.Grid.{Accepted, bins_of, bin_at, shift_at}
use Rattle.basics.specs.Dimension.{choose}
use Rattle.basics.proofs.Range.{sum_same, sum_zero, sum_le, sum_scale, term_le, and_left, and_right, all_true, all_at}
use Rattle.basics.proofs.Range.{all_same}
use Rattle.grid.proofs.Size.{in_size, span_byte}
use Rattle.grid.proofs.Places.{sized_at, bin_at_below}
use Rattle.table.specs.declared.cell.Cell.{Cell}
use Rattle.table.specs.Layouts.{Layout}
use Rattle.table.specs.Layouts.{Wide, Narrow}
use Rattle.table.specs.Cell.{View, zeros, number_of}
use Rattle.table.specs.Table.{Held}
use Rattle.table.specs.Sound.{limit, limit_of, between, squared_span, plus_span, squares_span}
use Rattle.table.specs.Sound.{in_bounds, span_at, bin_sound, total, sound}

-- ---- the bounds of one bin, as facts
pub record Keeps (span : ℕ → Span) (f : ℕ → ℕ) : Type 0 where
  pub low : (d : ℕ) → d < 3 → f 0 * (span d).low ≤ f (d + 1)
  pub high : (d : ℕ) → d < 3 → f (d + 1) ≤ f 0 * (span d).high
  pub squares_low : f 0 * (squares_span span).low ≤ f 4
  pub squares_high : f 4 ≤ f 0 * (squares_span span).high

-- what a test of bounds says, and what it takes
between_low : (s : Span) (n sum : ℕ) → between s n sum ≡ true → n * s.low ≤ sum
unfolding between
between_low s n sum e = leb-true (n * s.low) sum (and_left (leb (n * s.low) sum) (leb sum (n * s.high)) e)

between_high : (s : Span) (n sum : ℕ) → between s n sum ≡ true → sum ≤ n * s.high
unfolding between
between_high s n sum e = leb-true sum (n * s.high) (and_right (leb (n * s.low) sum) (leb sum (n * s.high)) e)

between_both : (s : Span) (n sum : ℕ) → n * s.low ≤ sum → sum ≤ n * s.high → between s n sum ≡ true
unfolding between
between_both s n sum l h = simp (le-leb _ _ l, le-leb _ _ h)

pub keeps : (span : ℕ → Span) (f : ℕ → ℕ) → in_bounds span f ≡ true → Keeps span f
unfolding in_bounds
keeps span f e =
    let each : Bool = all_from 0 3 (λ d. between (span d) (f 0) (f (d + 1))) in
    let all : Bool = between (squares_span span) (f 0) (f 4) in
    let sum : (d : ℕ) → d < 3 → between (span d) (f 0) (f (d + 1)) ≡ true =
    λ d h. all_at 0 3 (λ k. between (span k) (f 0) (f (k + 1))) (and_left each all e) d (omega arith) (omega arith) in
    record {
      low = λ d h. between_low (span d) (f 0) (f (d + 1)) (sum d h);
      high = λ d h. between_high (span d) (f 0) (f (d + 1)) (sum d h);
      squares_low = between_low (squares_span span) (f 0) (f 4) (and_right each all e);
      squares_high = between_high (squares_span span) (f 0) (f 4) (and_right each all e);
    }

pub kept : {span : ℕ → Span} {f : ℕ → ℕ} → Keeps span f → in_bounds span f ≡ true
unfolding in_bounds
kept {span} {f} k =
    rw (all_true 0 3 (λ d. between (span d) (f 0) (f (d + 1)))
    (λ d a b. between_both (span d) (f 0) (f (d + 1)) (k.low d (omega arith)) (k.high d (omega arith))))
    (between_both (squares_span span) (f 0) (f 4) k.squares_low k.squares_high)

pub keeps_zero : (span : ℕ → Span) → Keeps span (λ j. 0)
keeps_zero span =
    record {
      low = λ d h. omega (arith, zero-mul (span d).low);
      high = λ d h. omega arith;
      squares_low = omega (arith, zero-mul (squares_span span).low);
      squares_high = omega arith;
    }

pub keeps_plus : {span : ℕ → Span} {f h : ℕ → ℕ} → Keeps span f → Keeps span h → Keeps span (λ j. f j + h j)
keeps_plus {span} {f} {h} a b =
    record {
      low = λ d l. omega (arith, a.low d l, b.low d l, add-mul (f 0) (h 0) (span d).low);
      high = λ d l. omega (arith, a.high d l, b.high d l, add-mul (f 0) (h 0) (span d).high);
      squares_low = omega (arith, a.squares_low, b.squares_low, add-mul (f 0) (h 0) (squares_span span).low);
      squares_high = omega (arith, a.squares_high, b.squares_high, add-mul (f 0) (h 0) (squares_span span).high);
    }

-- where each component of a colour lies between low and high, its squares lie between theirs
module _ (span : ℕ → Span) (c : ℕ → ℕ) where
  pub squares_above : ((d : ℕ) → d < 3 → (span d).low ≤ c d)
      → (squares_span span).low ≤ c 0 * c 0 + c 1 * c 1 + c 2 * c 2
  unfolding squares_span plus_span squared_span
  squares_above h =
      let each : (d : ℕ) → d < 3 → (span d).low * (span d).low ≤ c d * c d = λ d l. mul-le-mul (h d l) (h d l) in
      omega (arith, each 0 (lit< tt), each 1 (lit< tt), each 2 (lit< tt))

  pub squares_below : ((d : ℕ) → d < 3 → c d ≤ (span d).high)
      → c 0 * c 0 + c 1 * c 1 + c 2 * c 2 ≤ (squares_span span).high
  unfolding squares_span plus_span squared_span
  squares_below h =
      let each : (d : ℕ) → d < 3 → c d * c d ≤ (span d).high * (span d).high = λ d l. mul-le-mul (h d l) (h d l) in
      omega (arith, each 0 (lit< tt), each 1 (lit< tt), each 2 (lit< tt))

-- ---- the bounds of a cell, as the code tests them one after the other
regrouped : (a b c d : Bool) → ((a && (b && (c && true))) && d) ≡ (a && (b && (c && d)))
regrouped true true true d = refl
regrouped true true false d = refl
regrouped true false c d = refl
regrouped false b c d = refl

-- the squares of three spans, added as the code adds them
abbrev squares3 : Span → Span → Span → Span
squares3 s1 s2 s3 = plus_span (plus_span (squared_span s1) (squared_span s2)) (squared_span s3)

-- the tests before one that held, and it or the rest
cell_bounds : (s1 s2 s3 : Span) (c : Cell)
    → in_bounds (λ d. choose d s1 s2 s3) (number_of c)
    ≡ (between s1 c.weight c.sum1
    && (between s2 c.weight c.sum2
    && (between s3 c.weight c.sum3 && between (squares3 s1 s2 s3) c.weight c.squares)))
unfolding in_bounds all_from choose number_of squares_span
cell_bounds s1 s2 s3 c =
    regrouped (between s1 c.weight c.sum1) (between s2 c.weight c.sum2) (between s3 c.weight c.sum3)
    (between (squares3 s1 s2 s3) c.weight c.squares)

between_none : (s : Span) (sum : ℕ) → between s 0 sum ≡ leb sum 0
unfolding between
between_none s sum = rw (zero-mul s.low, zero-mul s.high, leb-zero sum) refl

-- an empty bin has zeros beside its weight
empty_bounds : (s1 s2 s3 : Span) (c : Cell) → c.weight ≡ 0
    → in_bounds (λ d. choose d s1 s2 s3) (number_of c)
    ≡ (leb c.sum1 0 && (leb c.sum2 0 && (leb c.sum3 0 && leb c.squares 0)))
empty_bounds s1 s2 s3 c e =
    cell_bounds s1 s2 s3 c
    ∙ (λ i. between s1 (e i) c.sum1
    && (between s2 (e i) c.sum2
    && (between s3 (e i) c.sum3 && between (squares3 s1 s2 s3) (e i) c.squares)))
    ∙ (λ i. between_none s1 c.sum1 i
    && (between_none s2 c.sum2 i
    && (between_none s3 c.sum3 i && between_none (squares3 s1 s2 s3) c.squares i)))

module _ (s1 s2 s3 : Span) (c : Cell) where
  abbrev within : Bool
  within = leb c.weight limit && in_bounds (λ d. choose d s1 s2 s3) (number_of c)

  pub heavy_cell : limit < c.weight → within ≡ false
  heavy_cell h = rw (lt-leb c.weight limit h) refl

  pub empty_cell : c.weight ≡ 0
      → within ≡ (leb c.sum1 0 && (leb c.sum2 0 && (leb c.sum3 0 && leb c.squares 0)))
  empty_cell e =
      ap (λ (b : Bool). b && in_bounds (λ d. choose d s1 s2 s3) (number_of c)) (le-leb c.weight limit (omega arith))
      ∙ empty_bounds s1 s2 s3 c e

  pub light_cell : c.weight ≤ limit
      → within
      ≡ (between s1 c.weight c.sum1
      && (between s2 c.weight c.sum2
      && (between s3 c.weight c.sum3 && between (squares3 s1 s2 s3) c.weight c.squares)))
  light_cell h =
      ap (λ (b : Bool). b && in_bounds (λ d. choose d s1 s2 s3) (number_of c)) (le-leb c.weight limit h)
      ∙ cell_bounds s1 s2 s3 c

-- ---- views that agree
abbrev pub Agree : ℕ → View → View → Type 0
Agree n v u = (p j : ℕ) → p < n → j < 5 → v p j ≡ u p j

pub bounds_same : (span : ℕ → Span) (f h : ℕ → ℕ) → ((j : ℕ) → j < 5 → f j ≡ h j) → in_bounds span f ≡ in_bounds span h
unfolding in_bounds all_from
bounds_same span f h e =
    λ i. (between (span 0) (e 0 (lit< tt) i) (e 1 (lit< tt) i)
    && (between (span 1) (e 0 (lit< tt) i) (e 2 (lit< tt) i)
    && (between (span 2) (e 0 (lit< tt) i) (e 3 (lit< tt) i) && true)))
    && between (squares_span span) (e 0 (lit< tt) i) (e 4 (lit< tt) i)

module _ (g : Grid) (v u : View) (e : Agree (bins_of g) v u) where
  pub total_same : total g v ≡ total g u
  unfolding total
  total_same = sum_same 0 (bins_of g) (λ p. v p 0) (λ p. u p 0) (λ p a b. e p 0 (omega arith) (omega arith))

  pub sound_same : (most : ℕ) → sound most g v ≡ sound most g u
  unfolding sound bin_sound
  sound_same most =
      let bins = all_same 0 (bins_of g) (bin_sound g v) (bin_sound g u)
      (λ p a b. bounds_same (span_at g p) (v p) (u p) (λ j h. e p j (omega arith) h)) in
      λ i. bins i && leb (total_same i) most

-- ---- a table is sound by its bins and its total
pub record Sound (most : ℕ) (g : Grid) (v : View) : Type 0 where
  pub holds : sound most g v ≡ true

pub sound_by : (most : ℕ) (g : Grid) (v : View) → ((p : ℕ) → p < bins_of g → Keeps (span_at g p) (v p)) → total g v ≤ most
    → Sound most g v
unfolding sound bin_sound
sound_by most g v k l =
    record {
      holds = rw (all_true 0 (bins_of g) (bin_sound g v) (λ p a b. kept (k p (omega arith))))
          (le-leb (total g v) most l);
    }

-- an empty table
pub zeros_total : (g : Grid) → total g zeros ≡ 0
unfolding total
zeros_total g = sum_zero 0 (bins_of g)

pub zeros_sound : (most : ℕ) (g : Grid) → Sound most g zeros
zeros_sound most g = sound_by most g zeros (λ p h. keeps_zero (span_at g p)) (omega (arith, zeros_total g))

-- ---- what a sound table has
module _ {most : ℕ} {g : Grid} {v : View} (s : Sound most g v) where
  pub sound_keeps : (p : ℕ) → p < bins_of g → Keeps (span_at g p) (v p)
  unfolding sound bin_sound
  sound_keeps p h =
      keeps (span_at g p) (v p)
      (all_at 0 (bins_of g) (bin_sound g v)
      (and_left (all_from 0 (bins_of g) (bin_sound g v)) (leb (total g v) most) s.holds) p (omega arith) (omega arith))

  pub total_high : total g v ≤ most
  unfolding sound
  total_high =
      leb-true (total g v) most (and_right (all_from 0 (bins_of g) (bin_sound g v)) (leb (total g v) most) s.holds)

-- a table that is sound for a limit is sound for a larger one
pub sound_wider : {few most : ℕ} {g : Grid} {v : View} → few ≤ most → Sound few g v → Sound most g v
sound_wider {few} {most} {g} {v} l s =
    sound_by most g v (sound_keeps s) (omega (arith, total_high s))

-- and below a total that is within both, sound for either
pub sound_limit : {few most : ℕ} (g : Grid) (v : View) → total g v ≤ few → few ≤ most → sound few g v ≡ sound most g v
unfolding sound
sound_limit {few} {most} g v h k =
    rw (le-leb (total g v) few h, le-leb (total g v) most (omega (arith, h, k))) refl

-- no layout's limit is above the wide one's
pub limit_high : (l : Layout) → limit_of l ≤ limit
limit_high Wide = lit≤ tt
limit_high Narrow = lit≤ tt

pub sound_in : (l : Layout) {g : Grid} {v : View} → Sound (limit_of l) g v → Sound limit g v
sound_in l s = sound_wider (limit_high l) s

-- "all weights total": the total is the sum of the weights
pub total_is : (g : Grid) (v : View) → total g v ≡ sum_from 0 (bins_of g) (λ p. v p 0)
unfolding total
total_is g v = refl

-- a weight is at most the total
pub weight_high : (g : Grid) (v : View) (p : ℕ) → p < bins_of g → v p 0 ≤ total g v
unfolding total
weight_high g v p h = term_le 0 (bins_of g) (λ q. v q 0) p (omega arith) (omega arith)

pub span_is : (g : Grid) (p d : ℕ) → span_at g p d ≡ span_of (shift_at g d) (bin_at g d p)
unfolding span_at
span_is g p d = refl

-- the span of a place of an accepted grid is one of bytes
pub span_at_byte : {g : Grid} → Accepted g → (p d : ℕ) → p < bins_of g → (span_at g p d).high ≤ 255
unfolding span_at
span_at_byte {g} a p d h =
    span_byte (shift_at g d) (bin_at g d p) (in_size (sized_at a d) (bin_at g d p) (bin_at_below a p d h))

module _ {most : ℕ} {g : Grid} {v : View} (a : Accepted g) (s : Sound most g v) (p : ℕ) (h : p < bins_of g) where
  pub sums_high : (d : ℕ) → d < 3 → v p (d + 1) ≤ 255 * v p 0
  sums_high d l =
      omega (arith, (sound_keeps s p h).high d l, mul-le-mul_left (v p 0) (span_at_byte a p d h), mul_comm (v p 0) 255)

  -- no sum of three squares of bytes is above 195,075
  pub squares_high : v p 4 ≤ 195075 * v p 0
  unfolding squares_span plus_span squared_span
  squares_high =
      let byte : (d : ℕ) → (span_at g p d).high * (span_at g p d).high ≤ 65025 =
      λ d. mul-le-mul {n₂ = 255} {m₂ = 255} (span_at_byte a p d h) (span_at_byte a p d h) in
      let all : (squares_span (span_at g p)).high ≤ 195075 = omega (arith, byte 0, byte 1, byte 2) in
      omega (arith, (sound_keeps s p h).squares_high, mul-le-mul_left (v p 0) all, mul_comm (v p 0) 195075)

  pub number_high : (j : ℕ) → j < 5 → v p j ≤ 195075 * v p 0
  number_high zero l = omega arith
  number_high (suc zero) l = omega (arith, sums_high 0 (omega arith))
  number_high (suc (suc zero)) l = omega (arith, sums_high 1 (omega arith))
  number_high (suc (suc (suc zero))) l = omega (arith, sums_high 2 (omega arith))
  number_high (suc (suc (suc (suc zero)))) l = squares_high
  number_high (suc (suc (suc (suc (suc j))))) l = absurd (omega arith)

  -- "every total stays below 195,075 · 2^32 < 2^50"
  pub number_below : most ≤ limit → (j : ℕ) → j < 5 → v p j < 2 ^ 50
  number_below m j l = omega (arith, number_high j l, weight_high g v p h, total_high s)

  -- so that a cell of it, written, fits its place
  pub sound_held : most ≤ limit → {c : Cell} → ((j : ℕ) → j < 5 → number_of c j ≡ v p j) → Held c
  sound_held m e = record { fits = λ j l. rw (e j l) (lt_trans (number_below m j l) (lit< tt)) }

-- the sums of a component over all bins are at most 255 times the total
pub components_high : {most : ℕ} {g : Grid} {v : View} → Accepted g → Sound most g v → (d : ℕ) → d < 3
    → sum_from 0 (bins_of g) (λ p. v p (d + 1)) ≤ 255 * total g v
unfolding total
components_high {most} {g} {v} a s d l =
    let each : sum_from 0 (bins_of g) (λ p. v p (d + 1)) ≤ sum_from 0 (bins_of g) (λ p. 255 * v p 0) =
    sum_le 0 (bins_of g) (λ p. v p (d + 1)) (λ p. 255 * v p 0) (λ p h k. sums_high a s p (omega arith) d l) in
    omega (arith, sum_scale 255 0 (bins_of g) (λ p. v p 0))

-- and so are those of the weight
pub numbers_high : {most : ℕ} {g : Grid} {v : View} → Accepted g → Sound most g v → (j : ℕ) → j < 4
    → sum_from 0 (bins_of g) (λ p. v p j) ≤ 255 * total g v
numbers_high {g = g} {v} a s zero h = omega (arith, total_is g v)
numbers_high a s (suc zero) h = components_high a s 0 (lit< tt)
numbers_high a s (suc (suc zero)) h = components_high a s 1 (lit< tt)
numbers_high a s (suc (suc (suc zero))) h = components_high a s 2 (lit< tt)
numbers_high a s (suc (suc (suc (suc j)))) h = absurd (omega arith)
