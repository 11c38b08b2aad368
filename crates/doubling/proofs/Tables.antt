-- A table multiplied by a power of two: its total, its moments, its soundness, and how small the power is; and means
-- and remainders of multiplied sums.
-- Assumes nothing.
use mathlib.Core.Path.{◌≡◌, sym, ap, ◌∙◌}
use mathlib.Core.Logic.{inl, inr}
use Prim.Native.Nat.{ℕ, ◌+◌, ◌*◌, ◌/◌, ◌%◌, ◌^◌, ◌≤◌, ◌<◌}
use native.Mathlib.Nat.{le_trans, le_of_eq, lt_of_not-le, not-le_of_lt, mul_assoc, mul_comm, mul_left_comm}
use native.Mathlib.Nat.{mul_right_comm, zero-mul, one-mul, mul-pos, mul-le-mul_right, add-mul, eq-zero-or-pos}
use native.Mathlib.Nat.{div-zero, div-add-mod'}
use native.Mathlib.Omega.{arith}
use native.Mathlib.Decide.{dec_le}
use lib.Dec.{lit<}
use lib.Pow.{pow_pos, pow_mono}
use lib.Ieee.Nearest.{div_same}
use Rattle.basics.specs.Range.{sum_from}
use Rattle.basics.proofs.Range.{sum_scale}
use Rattle.grid.specs.declared.place.Grid.{Grid}
use Rattle.grid.specs.declared.dimension.Span.{Span}
use Rattle.grid.specs.Grid.{bins_of, bin_at, place_of}
use Rattle.table.specs.Cell.{View}
use Rattle.table.specs.Sound.{limit, total, squares_span}
use Rattle.table.proofs.Soundness.{Keeps, Sound, sound_by, sound_keeps, total_is}
use Rattle.bins.specs.Sum.{sum3, bin_sum}
use Rattle.bins.proofs.Boxes.{sum3_scale}
use Rattle.sums.specs.Moments.{below_sum, moments_of}
use Rattle.doubling.specs.Grow.{doubled}

ruleset ac = (mul_assoc, mul_comm, mul_left_comm)

pub total_doubled : (t : ℕ) (g : Grid) (v : View) → total g (doubled t v) ≡ total g v * 2 ^ t
unfolding doubled
total_doubled t g v =
    total_is g (doubled t v)
    ∙ (λ i. sum_from 0 (bins_of g) (λ p. mul_comm (v p 0) (2 ^ t) i))
    ∙ sum_scale (2 ^ t) 0 (bins_of g) (λ p. v p 0)
    ∙ mul_comm (2 ^ t) (sum_from 0 (bins_of g) (λ p. v p 0))
    ∙ ap (λ (n : ℕ). n * 2 ^ t) (sym (total_is g v))

pub moments_doubled : (t : ℕ) (g : Grid) (v : View) (p j : ℕ)
    → moments_of g (doubled t v) p j ≡ moments_of g v p j * 2 ^ t
unfolding moments_of below_sum bin_sum doubled
moments_doubled t g v p j =
    let n = bin_at g 0 p + 1 in
    let m = bin_at g 1 p + 1 in
    let k = bin_at g 2 p + 1 in
    let at : ℕ → ℕ → ℕ → ℕ = λ r gr z. v (place_of g r gr z) j in
    (λ i. sum3 0 n 0 m 0 k (λ r gr z. mul_comm (at r gr z) (2 ^ t) i))
    ∙ sum3_scale (2 ^ t) 0 n 0 m 0 k at
    ∙ mul_comm (2 ^ t) (sum3 0 n 0 m 0 k at)

-- bounds are products of the weight
keeps_times : {span : ℕ → Span} {f : ℕ → ℕ} (k : ℕ) → Keeps span f → Keeps span (λ j. f j * k)
keeps_times {span} {f} k h =
    record {
      low = λ d l. low (span d).low (f (d + 1)) (h.low d l);
      high = λ d l. high (span d).high (f (d + 1)) (h.high d l);
      squares_low = low (squares_span span).low (f 4) h.squares_low;
      squares_high = high (squares_span span).high (f 4) h.squares_high;
    }
  where
    low : (b n : ℕ) → f 0 * b ≤ n → f 0 * k * b ≤ n * k
    low b n l = le_trans (le_of_eq (mul_right_comm (f 0) k b)) (mul-le-mul_right k l)

    high : (b n : ℕ) → n ≤ f 0 * b → n * k ≤ f 0 * k * b
    high b n l = le_trans (mul-le-mul_right k l) (le_of_eq (mul_right_comm (f 0) b k))

pub sound_doubled : (t : ℕ) {most : ℕ} {g : Grid} {v : View} → Sound most g v → total g v * 2 ^ t ≤ most
    → Sound most g (doubled t v)
unfolding doubled
sound_doubled t {most} {g} {v} s h =
    sound_by most g (doubled t v) (λ p l. keeps_times (2 ^ t) (sound_keeps s p l))
    (le_trans (le_of_eq (total_doubled t g v)) h)

-- a power with which some weight is within the limit is small
pub power_few : (t n : ℕ) → 0 < n → n * 2 ^ t ≤ limit → t ≤ 31
power_few t n some h = go (dec_le t 31)
  where
    large : 32 ≤ t → 2 ^ 32 ≤ n * 2 ^ t
    large l = le_trans (pow_mono l) (le_trans (le_of_eq (sym (one-mul (2 ^ t)))) (mul-le-mul_right (2 ^ t) some))

    go : Dec (t ≤ 31) → t ≤ 31
    go (yes l) = l
    go (no m) = absurd (not-le_of_lt (lit< {m = limit} {n = 2 ^ 32} tt) (le_trans (large (lt_of_not-le m)) h))

-- ---- means and remainders
module _ (s n t : ℕ) where
  abbrev k : ℕ
  k = 2 ^ t

  pub mean_doubled : (s * k) / (n * k) ≡ s / n
  mean_doubled = elim (eq-zero-or-pos n) [
    | inl z ↦ ap (λ (i : ℕ). (s * k) / i) (ap (λ (i : ℕ). i * k) z ∙ zero-mul k) ∙ div-zero (s * k) ∙ sym (div-zero s)
        ∙ ap (λ (i : ℕ). s / i) (sym z)
    | inr p ↦ div_same (s * k) (n * k) s n (mul-pos p (pow_pos t)) p (simp ac)
  ]

  pub remainder_doubled : (s * k) % (n * k) ≡ s % n * k
  remainder_doubled =
      let q = s / n in
      let r = (s * k) % (n * k) in
      let many : q * (n * k) + r ≡ s * k =
      ap (λ (z : ℕ). z * (n * k) + r) (sym mean_doubled) ∙ div-add-mod' (s * k) (n * k) in
      let once : q * (n * k) + s % n * k ≡ s * k =
      ap (λ (z : ℕ). z + s % n * k) (sym (mul_assoc q n k)) ∙ sym (add-mul (q * n) (s % n) k)
      ∙ ap (λ (z : ℕ). z * k) (div-add-mod' s n) in
      left (q * (n * k)) r (s % n * k) (many ∙ sym once)
    where
      left : (a x y : ℕ) → a + x ≡ a + y → x ≡ y
      left a x y h = omega arith
