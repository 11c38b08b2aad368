-- Laws of the step table that carries the squares: how large its numbers are, how it is filled, and that three of them
-- give a place and a sum of squares, one below 2^32 and the other above.
-- Assumes nothing.
use mathlib.Core.Path.{◌≡◌, refl, sym, ap, ◌∙◌}
use mathlib.Core.Bool.{Bool, cond}
use mathlib.Core.List.{List}
use Prim.Native.Nat.{ℕ, zero, suc, ◌+◌, ◌*◌, ◌/◌, ◌%◌, ◌≤◌, ◌<◌}
use native.Mathlib.Nat.{zero-add, mul-le-mul, lt_of_lt_of_le, lt_of_not-le}
use native.Mathlib.Decide.{ℕ_discrete, dec_le}
use native.Mathlib.Omega.{arith}
use borrow.Author.Tests.{eq-eqb, ne_eqb}
use lib.Dec.{eqb}
use lib.ListN.{length, get_or, set, length-set}
use lib.Seq.{get_or-set_same, get_or-set_other}
use lib.Pow.{shr_le}
use Rattle.grid.specs.declared.place.Grid.{Grid}
use Rattle.pixels.specs.declared.colour.Rgb.{Rgb}
use Rattle.grid.specs.Size.{bin_of}
use Rattle.grid.specs.Grid.{Accepted, colour_place, shift_at, stride_at, steps_of}
use Rattle.basics.specs.Dimension.{choose}
use Rattle.basics.proofs.Range.{length_list, list_at, list_is}
use Rattle.grid.proofs.Size.{size_high}
use Rattle.grid.proofs.Places.{Bytes, plane_high, bins_high, three, step_at, steps_place, colour_place_lt}
use Rattle.adder.specs.Add.{step_number, step_table, StepTable}
use Rattle.adder.specs.Inner.{squares_of, with_dimension}
use Rattle.adder.proofs.Loading.{square_byte}

-- ---- its numbers
stride_high : {g : Grid} → Accepted g → (d : ℕ) → stride_at g d ≤ 16384
unfolding stride_at choose
stride_high a zero = plane_high a
stride_high a (suc zero) = omega (arith, size_high (three a))
stride_high a (suc (suc d)) = omega arith

pub step_high : {g : Grid} → Accepted g → (d c : ℕ) → c < 256 → get_or (steps_of g d) c 0 ≤ 4177920
unfolding bin_of
step_high {g} a d c h =
    rw (step_at g d c h) (mul-le-mul {n₂ = 255} {m₂ = 16384} (omega (arith, shr_le c (shift_at g d))) (stride_high a d))

-- number i, by its dimension and its value
pub step_number_lem : (g : Grid) (d c : ℕ) {i : ℕ} → i ≡ 256 * d + c → c < 256
    → step_number g i ≡ get_or (steps_of g d) c 0 + 4294967296 * (c * c)
unfolding step_number
step_number_lem g d c {i} e h =
    λ j. get_or (steps_of g (which i d c e h j)) (value i d c e h j) 0
    + 4294967296 * (value i d c e h j * value i d c e h j)
  where
    which : (i d c : ℕ) → i ≡ 256 * d + c → c < 256 → i / 256 ≡ d
    which i d c e h = omega arith

    value : (i d c : ℕ) → i ≡ 256 * d + c → c < 256 → i % 256 ≡ c
    value i d c e h = omega arith

-- ---- its filling, a dimension at a time
-- the first n numbers of a dimension are filled in, and the others are as they were
pub record Part (steps : List ℕ) (d n : ℕ) (old new : List ℕ) : Type 0 where
  pub long : length new ≡ 768
  pub filled : (c : ℕ) → c < n → get_or new (256 * d + c) 0 ≡ get_or steps c 0 + 4294967296 * (c * c)
  pub before : (i : ℕ) → i < 256 * d → get_or new i 0 ≡ get_or old i 0
  pub behind : (i : ℕ) → 256 * d + n ≤ i → get_or new i 0 ≡ get_or old i 0

module _ (steps : List ℕ) (d : ℕ) (old : List ℕ) where
  pub part_none : length old ≡ 768 → Part steps d 0 old old
  part_none e =
      record { long = e; filled = λ c l. absurd (omega arith); before = λ i l. refl; behind = λ i l. refl }

  pub part_more : {n : ℕ} {new : List ℕ} → Part steps d n old new → d < 3 → n < 256
      → Part steps d (n + 1) old (set new (256 * d + n) (get_or steps n 0 + 4294967296 * (n * n)))
  part_more {n} {new} p h l =
      let x = get_or steps n 0 + 4294967296 * (n * n) in
      record {
        long = length-set new (256 * d + n) x ∙ p.long;
        filled = λ c k. elim (ℕ_discrete c n) [
          | yes q ↦ rw q (get_or-set_same new (256 * d + n) x 0 (omega (arith, p.long)))
          | no q ↦ get_or-set_other new (256 * d + n) (256 * d + c) x 0 (λ r. q (omega arith)) ∙ p.filled c (omega arith)
        ];
        before = λ i k. get_or-set_other new (256 * d + n) i x 0 (λ r. omega arith) ∙ p.before i k;
        behind = λ i k. get_or-set_other new (256 * d + n) i x 0 (λ r. omega arith) ∙ p.behind i (omega arith);
      }

  pub part_all : (g : Grid) → steps ≡ steps_of g d → {new : List ℕ} → Part steps d 256 old new
      → new ≡ with_dimension g d old
  unfolding with_dimension
  part_all g q {new} p = list_is 768 (λ i. cond (eqb (i / 256) d) (step_number g i) (get_or old i 0)) new 0 p.long each
    where
      there : (i : ℕ) → i / 256 ≡ d → i ≡ 256 * d + i % 256
      there i e = omega arith

      outside : (i : ℕ) → (i / 256 ≡ d → ⊥) → Dec (i < 256 * d) → get_or new i 0 ≡ get_or old i 0
      outside i n (yes l) = p.before i l
      outside i n (no l) = p.behind i (past i n (lt_of_not-le l))
        where
          past : (i : ℕ) → (i / 256 ≡ d → ⊥) → 256 * d < suc i → 256 * d + 256 ≤ i
          past i n k = omega (arith, n, k)

      each : (i : ℕ) → i < 768 → get_or new i 0 ≡ cond (eqb (i / 256) d) (step_number g i) (get_or old i 0)
      each i l = elim (ℕ_discrete (i / 256) d) [
        | yes e ↦ ap (λ (k : ℕ). get_or new k 0) (there i e) ∙ p.filled (i % 256) (omega arith)
            ∙ ap (λ (t : List ℕ). get_or t (i % 256) 0 + 4294967296 * ((i % 256) * (i % 256))) q
            ∙ sym (step_number_lem g d (i % 256) (there i e) (omega arith))
            ∙ ap (λ (b : Bool). cond b (step_number g i) (get_or old i 0)) (sym (eq-eqb (i / 256) d e))
        | no e ↦ outside i e (dec_le (suc i) (256 * d))
            ∙ ap (λ (b : Bool). cond b (step_number g i) (get_or old i 0)) (sym (ne_eqb (i / 256) d e))
      ]

-- all three parts, whatever was there
with_at : (g : Grid) (d : ℕ) (t : List ℕ) (i : ℕ) → i < 768
    → get_or (with_dimension g d t) i 0 ≡ cond (eqb (i / 256) d) (step_number g i) (get_or t i 0)
unfolding with_dimension
with_at g d t i h =
    list_at 0 768 (λ k. cond (eqb (k / 256) d) (step_number g k) (get_or t k 0)) i 0 h
    ∙ ap (λ (k : ℕ). cond (eqb (k / 256) d) (step_number g k) (get_or t k 0)) (zero-add i)

pub with_long : (g : Grid) (d : ℕ) (t : List ℕ) → length (with_dimension g d t) ≡ 768
unfolding with_dimension
with_long g d t = length_list 0 768 _

pub three_parts : (g : Grid) (t : List ℕ)
    → with_dimension g 2 (with_dimension g 1 (with_dimension g 0 t)) ≡ step_table g
unfolding step_table
three_parts g t =
    list_is 768 (step_number g) (with_dimension g 2 two) 0 long (λ i h. with_at g 2 two i h ∙ each i h (i / 256) refl)
  where
    one : List ℕ
    one = with_dimension g 0 t

    two : List ℕ
    two = with_dimension g 1 one

    long : length (with_dimension g 2 two) ≡ 768
    long = with_long g 2 two

    each : (i : ℕ) → i < 768 → (d : ℕ) → i / 256 ≡ d
        → cond (eqb (i / 256) 2) (step_number g i) (get_or two i 0) ≡ step_number g i
    each i h zero e =
        ap (λ (d : ℕ). cond (eqb d 2) (step_number g i) (get_or two i 0)) e
        ∙ with_at g 1 one i h
        ∙ ap (λ (d : ℕ). cond (eqb d 1) (step_number g i) (get_or one i 0)) e
        ∙ with_at g 0 t i h
        ∙ ap (λ (d : ℕ). cond (eqb d 0) (step_number g i) (get_or t i 0)) e
    each i h (suc zero) e =
        ap (λ (d : ℕ). cond (eqb d 2) (step_number g i) (get_or two i 0)) e
        ∙ with_at g 1 one i h
        ∙ ap (λ (d : ℕ). cond (eqb d 1) (step_number g i) (get_or one i 0)) e
    each i h (suc (suc zero)) e = ap (λ (d : ℕ). cond (eqb d 2) (step_number g i) (get_or two i 0)) e
    each i h (suc (suc (suc d))) e = absurd (omega arith)

-- ---- what is looked up
pub squares_small : {x : Rgb} → Bytes x → squares_of x ≤ 195075
unfolding squares_of
squares_small {x} b =
    omega (arith, square_byte x.c1 b.one, square_byte x.c2 b.two, square_byte x.c3 b.three)

module _ {g : Grid} {steps : List ℕ} (s : StepTable g steps) {x : Rgb} (b : Bytes x) where
  -- the number of a value in a dimension
  step_in : (d c : ℕ) {i : ℕ} → i ≡ 256 * d + c → d < 3 → c < 256
      → get_or steps i 0 ≡ get_or (steps_of g d) c 0 + 4294967296 * (c * c)
  unfolding step_table
  step_in d c {i} e l h =
      ap (λ (t : List ℕ). get_or t i 0) s.filled
      ∙ list_at 0 768 (step_number g) i 0 (omega (arith, e))
      ∙ ap (step_number g) (zero-add i)
      ∙ step_number_lem g d c e h

  pub looked_up : get_or steps x.c1 0 + get_or steps (256 + x.c2) 0 + get_or steps (512 + x.c3) 0
      ≡ colour_place g x + 4294967296 * squares_of x
  unfolding squares_of
  looked_up =
      omega (
        arith,
        step_in 0 x.c1 {i = x.c1} (omega arith) (omega arith) b.one,
        step_in 1 x.c2 {i = 256 + x.c2} (omega arith) (omega arith) b.two,
        step_in 2 x.c3 {i = 512 + x.c3} (omega arith) (omega arith) b.three,
        steps_place {g = g} (record { accepted = s.accepted; one = refl; two = refl; three = refl }) b,
      )

  pub place_small : colour_place g x < 2097152
  place_small = lt_of_lt_of_le (colour_place_lt s.accepted b) (bins_high s.accepted)

  -- the two numbers apart
  module _ {v : ℕ} (e : v ≡ colour_place g x + 4294967296 * squares_of x) where
    pub place_below : v % 4294967296 ≡ colour_place g x
    place_below = omega (arith, place_small)

    pub squares_above : v / 4294967296 ≡ squares_of x
    squares_above = omega (arith, place_small)
