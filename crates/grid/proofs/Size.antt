-- Facts of a size, once over the shift: size · 2^shift = 256 gives them all.
-- Assumes nothing.
use Rattle.std.specs.Prelude.{None, Some}
use mathlib.Core.Path.{◌≡◌, refl, sym, ap, ◌∙◌}
use mathlib.Core.Bool.{Bool, true, false, cond, ◌&&◌}
use mathlib.Core.List.{List, [], ◌∷◌}
use Prim.Native.Nat.{ℕ, suc, ◌+◌, ◌-◌, ◌*◌, ◌/◌, ◌%◌, ◌^◌, ◌≤◌, ◌<◌}
use native.Mathlib.Nat.{mul-le-mul_left, mul-le-mul_right, div-lt_iff_lt-mul, div-mul-le_self, lt-div-mul-add}
use native.Mathlib.Nat.{div-eq_of_lt-le, suc-mul, add-mul, one-mul, mod-eq_of_lt, lt_of_mul-lt-mul_right}
use native.Mathlib.Nat.{mul-div_cancel}
use native.Mathlib.Omega.{arith}
use borrow.Author.Tests.{eqb-true, leb-true}
use lib.Dec.{eqb, leb}
use lib.Pow.{pow_pos, pow_mono, pow-add, pow-lt}
use Rattle.grid.specs.Size.{choices, shift_in, shift_of, bin_of, span_of, InSize}
use Rattle.basics.proofs.Range.{and_left, and_right}

pub record Sized (size shift : ℕ) : Type 0 where
  pub whole : size * 2 ^ shift ≡ 256
  pub some : 1 ≤ shift
  pub few : shift ≤ 7

-- the rule of a choice, tested over the whole list at once
fair : ℕ × ℕ → Bool
fair c = eqb (c.0 * 2 ^ c.1) 256 && (leb 1 c.1 && leb c.1 7)

right : List (ℕ × ℕ) → Bool
right [] = true
right (c ∷ cs) = fair c && right cs

fair_sized : (c : ℕ × ℕ) → fair c ≡ true → Sized c.0 c.1
unfolding fair
fair_sized c e =
    let rest = and_right (eqb (c.0 * 2 ^ c.1) 256) (leb 1 c.1 && leb c.1 7) e in
    record {
      whole = eqb-true (c.0 * 2 ^ c.1) 256 (and_left (eqb (c.0 * 2 ^ c.1) 256) (leb 1 c.1 && leb c.1 7) e);
      some = leb-true 1 c.1 (and_left (leb 1 c.1) (leb c.1 7) rest);
      few = leb-true c.1 7 (and_right (leb 1 c.1) (leb c.1 7) rest);
    }

sized_in : (cs : List (ℕ × ℕ)) → right cs ≡ true → (size shift : ℕ) → shift_in cs size ≡ Some shift → Sized size shift
unfolding right shift_in
sized_in [] t size shift e = absurd (never e)
  where
    never : None ≡ Some shift → ⊥
    never q = let z : ◌≡◌ {A = ℕ} 0 1 = cc in omega arith
sized_in (c ∷ cs) t size shift e =
    go (eqb size c.0) refl e (sized_in cs (and_right (fair c) (right cs) t) size shift)
  where
    go : (b : Bool) → eqb size c.0 ≡ b → cond b (Some c.1) (shift_in cs size) ≡ Some shift
        → (shift_in cs size ≡ Some shift → Sized size shift) → Sized size shift
    go true q p later =
        let s : shift ≡ c.1 = cc in
        rw (s, eqb-true size c.0 q) (fair_sized c (and_left (fair c) (right cs) t))
    go false q p later = later p

pub sized : (size shift : ℕ) → shift_of size ≡ Some shift → Sized size shift
unfolding shift_of choices right fair
sized size shift e = sized_in choices refl size shift e

eight : (s : ℕ) → s < 8 → (8 - s) + s ≡ 8
eight s l = omega arith

module _ {size shift : ℕ} (s : Sized size shift) where
  pub width_low : 2 ≤ 2 ^ shift
  width_low = pow_mono {i = 1} {j = shift} s.some

  pub width_high : 2 ^ shift ≤ 128
  width_high = pow_mono {i = shift} {j = 7} s.few

  -- so a number times the size is the number shifted left by what the shift lacks to 8
  pub size_power : size ≡ 2 ^ (8 - shift)
  size_power =
      let split : 2 ^ (8 - shift) * 2 ^ shift ≡ 256 =
      sym (pow-add 2 (8 - shift) shift) ∙ ap (λ (k : ℕ). 2 ^ k) (eight shift (omega (arith, s.few))) in
      sym (mul-div_cancel size (pow_pos shift))
      ∙ ap (λ (k : ℕ). k / 2 ^ shift) (s.whole ∙ sym split)
      ∙ mul-div_cancel (2 ^ (8 - shift)) (pow_pos shift)

  pub shifted_left : (n : ℕ) → n * size < 2 ^ 64 → n * 2 ^ (8 - shift) % 2 ^ 64 ≡ n * size
  shifted_left n h = rw (← size_power) (mod-eq_of_lt h)

  pub size_low : 2 ≤ size
  size_low = low size (omega (arith, mul-le-mul_left size width_high, s.whole))
    where
      low : (b : ℕ) → 256 ≤ b * 128 → 2 ≤ b
      low b h = omega arith

  pub size_high : size ≤ 128
  size_high = omega (arith, mul-le-mul_left size width_low, s.whole)

  -- a byte's bin is below the size
  pub bin_lt : (c : ℕ) → c < 256 → bin_of shift c < size
  unfolding bin_of
  bin_lt c h = (div-lt_iff_lt-mul {k = 2 ^ shift} {x = c} {y = size} (pow_pos shift)).1 (omega (arith, s.whole))

  -- a bin below the size is one that some component has
  pub in_size : (bin : ℕ) → bin < size → InSize shift bin
  in_size bin h =
      record {
        shift_below = omega arith;
        bin_below =
            omega (
              arith,
              mul-le-mul_right {m = suc bin} {n = size} (2 ^ shift) h,
              suc-mul bin (2 ^ shift),
              s.whole,
              width_low,
            );
      }

-- no value of a byte's bin is above 255
pub span_byte : (shift bin : ℕ) → InSize shift bin → (span_of shift bin).high ≤ 255
unfolding span_of
span_byte shift bin h =
    let split : 2 ^ (8 - shift) * 2 ^ shift ≡ 256 =
    sym (pow-add 2 (8 - shift) shift) ∙ ap (λ (k : ℕ). 2 ^ k) (eight shift h.shift_below) in
    let below : bin < 2 ^ (8 - shift) = lt_of_mul-lt-mul_right (2 ^ shift) (rw split h.bin_below) in
    omega (
      arith,
      mul-le-mul_right {m = suc bin} {n = 2 ^ (8 - shift)} (2 ^ shift) below,
      suc-mul bin (2 ^ shift),
      pow_pos shift,
    )

-- a component lies in the span of its bin
pub span_low : (shift c : ℕ) → (span_of shift (bin_of shift c)).low ≤ c
unfolding bin_of span_of
span_low shift c = div-mul-le_self c (2 ^ shift)

pub span_high : (shift c : ℕ) → c ≤ (span_of shift (bin_of shift c)).high
unfolding bin_of span_of
span_high shift c = omega (arith, lt-div-mul-add {a = c} {b = 2 ^ shift} (pow_pos shift), pow_pos shift)

-- and what lies in the span of a bin has that bin
pub span_only : (shift bin c : ℕ) → (span_of shift bin).low ≤ c → c ≤ (span_of shift bin).high → bin_of shift c ≡ bin
unfolding bin_of span_of
span_only shift bin c l h =
    div-eq_of_lt-le {k = bin} (2 ^ shift) {m = c} l
    (omega (arith, add-mul bin 1 (2 ^ shift), one-mul (2 ^ shift), pow_pos shift))

-- a shifted 1, as the machine has it
pub width_is : (shift : ℕ) → shift < 8 → (1 * 2 ^ shift) % 2 ^ 64 ≡ 2 ^ shift
width_is shift h = rw (one-mul (2 ^ shift)) (mod-eq_of_lt (pow-lt {i = shift} {j = 64} (omega arith)))
