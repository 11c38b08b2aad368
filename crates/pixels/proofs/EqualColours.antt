-- Laws of a run of one colour: each colour of it is the first, and it is found by counting the bytes that differ.
-- Assumes nothing.
use mathlib.Core.Path.{◌≡◌, refl, sym, ap, ◌∙◌}
use mathlib.Core.Bool.{Bool, true, false, ◌&&◌, true≢false}
use mathlib.Core.List.{List}
use Prim.Native.Nat.{ℕ, zero, suc, ◌+◌, ◌-◌, ◌*◌, ◌≤◌, ◌<◌}
use native.Mathlib.Nat.{add-zero, add-suc, mul_comm}
use native.Mathlib.Omega.{arith}
use native.Mathlib.Decide.{ℕ_discrete}
use borrow.Author.Tests.{eq-eqb, ne_eqb, eqb-true}
use lib.Dec.{eqb}
use lib.ListN.{get_or}
use Rattle.pixels.specs.declared.colour.Rgb.{Rgb}
use Rattle.basics.specs.Range.{sum_from}
use Rattle.pixels.specs.Colour.{colour_at}
use Rattle.pixels.specs.Equal.{same_colour, equal_colours, differs}
use Rattle.basics.proofs.Range.{sum_blocks, sum_same, sum_zero, term_le, all_true, all_at, and_left, and_right}
use Rattle.basics.proofs.Range.{tests_same}

-- ---- two colours
same_colour_lem : (x y : Rgb) → x ≡ y → same_colour x y ≡ true
unfolding same_colour
same_colour_lem x y e =
    let at : (f : Rgb → ℕ) → eqb (f x) (f y) ≡ true = λ f. eq-eqb (f x) (f y) (ap f e) in
    rw (at (λ z. z.c1), at (λ z. z.c2), at (λ z. z.c3)) refl

colours_same : (x y : Rgb) → same_colour x y ≡ true → x ≡ y
unfolding same_colour
colours_same x y e =
    let one : Bool = eqb x.c1 y.c1 in
    let two : Bool = eqb x.c2 y.c2 in
    let three : Bool = eqb x.c3 y.c3 in
    let rest = and_right one (two && three) e in
    λ k. record {
      c1 = eqb-true x.c1 y.c1 (and_left one (two && three) e) k;
      c2 = eqb-true x.c2 y.c2 (and_left two three rest) k;
      c3 = eqb-true x.c3 y.c3 (and_right two three rest) k;
    }

module _ (bytes : List ℕ) where
  -- ---- a run
  pub one_colour : (i : ℕ) → equal_colours bytes i ≡ true → (j : ℕ) → j ≤ 64 → colour_at bytes (i + j) ≡ colour_at bytes i
  unfolding equal_colours
  one_colour i e zero h = ap (colour_at bytes) (add-zero i)
  one_colour i e (suc j) h =
      colours_same (colour_at bytes (i + suc j)) (colour_at bytes i)
      (all_at 1 64 (λ j. same_colour (colour_at bytes (i + j)) (colour_at bytes i)) e (suc j) (omega arith) (omega arith))

  -- ---- bytes that differ from those three after them
  pub alike : (p : ℕ) → get_or bytes p 0 ≡ get_or bytes (p + 3) 0 → differs bytes p ≡ 0
  unfolding differs
  alike p e = rw (eq-eqb (get_or bytes p 0) (get_or bytes (p + 3) 0) e) refl

  pub unlike : (p : ℕ) → (get_or bytes p 0 ≡ get_or bytes (p + 3) 0 → ⊥) → differs bytes p ≡ 1
  unfolding differs
  unlike p n = rw (ne_eqb (get_or bytes p 0) (get_or bytes (p + 3) 0) n) refl

  none_differs : (p a b : ℕ) → a ≡ p → b ≡ p + 3 → get_or bytes b 0 ≡ get_or bytes a 0 → differs bytes p ≡ 0
  none_differs p a b e f h =
      alike p (ap (λ (q : ℕ). get_or bytes q 0) (sym e) ∙ sym h ∙ ap (λ (q : ℕ). get_or bytes q 0) f)

  differs_none : (p a b : ℕ) → a ≡ p → b ≡ p + 3 → differs bytes p ≡ 0 → get_or bytes b 0 ≡ get_or bytes a 0
  differs_none p a b e f h =
      ap (λ (q : ℕ). get_or bytes q 0) f
      ∙ sym (go (ℕ_discrete (get_or bytes p 0) (get_or bytes (p + 3) 0)))
      ∙ ap (λ (q : ℕ). get_or bytes q 0) (sym e)
    where
      go : Dec (get_or bytes p 0 ≡ get_or bytes (p + 3) 0) → get_or bytes p 0 ≡ get_or bytes (p + 3) 0
      go (yes d) = d
      go (no d) = absurd (omega (arith, unlike p d))

  -- how many bytes of colour k differ from those of the next
  abbrev changes : ℕ → ℕ
  changes k = sum_from (k * 3) 3 (differs bytes)

  same_next : (k : ℕ) → colour_at bytes (suc k) ≡ colour_at bytes k → changes k ≡ 0
  unfolding sum_from colour_at
  same_next k e =
      omega (
        arith,
        none_differs (k * 3) (3 * k) (3 * suc k) (omega arith) (omega arith) (ap (λ (x : Rgb). x.c1) e),
        none_differs (suc (k * 3)) (3 * k + 1) (3 * suc k + 1) (omega arith) (omega arith) (ap (λ (x : Rgb). x.c2) e),
        none_differs (suc (suc (k * 3))) (3 * k + 2) (3 * suc k + 2) (omega arith) (omega arith)
            (ap (λ (x : Rgb). x.c3) e),
      )

  next_same : (k : ℕ) → changes k ≡ 0 → colour_at bytes (suc k) ≡ colour_at bytes k
  unfolding sum_from colour_at
  next_same k e = λ j. record {
    c1 = differs_none (k * 3) (3 * k) (3 * suc k) (omega arith) (omega arith) (omega arith) j;
    c2 = differs_none (suc (k * 3)) (3 * k + 1) (3 * suc k + 1) (omega arith) (omega arith) (omega arith) j;
    c3 = differs_none (suc (suc (k * 3))) (3 * k + 2) (3 * suc k + 2) (omega arith) (omega arith) (omega arith) j;
  }

  -- the colours that follow i are colour i where none changes
  run : (i n : ℕ) → ((j : ℕ) → j < n → changes (i + j) ≡ 0) → (j : ℕ) → j ≤ n
      → colour_at bytes (i + j) ≡ colour_at bytes i
  run i n h zero l = ap (colour_at bytes) (add-zero i)
  run i n h (suc j) l = ap (colour_at bytes) (add-suc i j) ∙ next_same (i + j) (h j (omega arith))
      ∙ run i n h j (omega arith)

  module _ (i : ℕ) where
    counted_by_colours : sum_from (3 * i) 192 (differs bytes) ≡ sum_from i 64 changes
    counted_by_colours = ap (λ (p : ℕ). sum_from p 192 (differs bytes)) (mul_comm 3 i)
        ∙ sum_blocks 64 3 i (differs bytes)

    unchanged : equal_colours bytes i ≡ true → sum_from i 64 changes ≡ 0
    unchanged e =
        sum_same i 64 changes (λ k. 0)
        (λ k a b. same_next k (at (suc k) (omega arith) (omega arith) ∙ sym (at k a (omega arith))))
        ∙ sum_zero i 64
      where
        there : (i k : ℕ) → i ≤ k → k ≡ i + (k - i)
        there i k h = omega arith

        at : (k : ℕ) → i ≤ k → k ≤ i + 64 → colour_at bytes k ≡ colour_at bytes i
        at k a b = ap (colour_at bytes) (there i k a) ∙ one_colour i e (k - i) (omega arith)

    never_changes : sum_from i 64 changes ≡ 0 → equal_colours bytes i ≡ true
    unfolding equal_colours
    never_changes e =
        all_true 1 64 (λ j. same_colour (colour_at bytes (i + j)) (colour_at bytes i))
        (λ j a b. same_colour_lem (colour_at bytes (i + j)) (colour_at bytes i) (run i 64 none j (omega arith)))
      where
        none : (k : ℕ) → k < 64 → changes (i + k) ≡ 0
        none k h = omega (arith, term_le i 64 changes (i + k) (omega arith) (omega arith))

    -- the 65 colours from i on are equal exactly where none of the 192 bytes differs
    pub counted : eqb (sum_from (3 * i) 192 (differs bytes)) 0 ≡ equal_colours bytes i
    counted =
        tests_same (eqb (sum_from (3 * i) 192 (differs bytes)) 0) (equal_colours bytes i)
        (λ e. never_changes (sym counted_by_colours ∙ eqb-true (sum_from (3 * i) 192 (differs bytes)) 0 e))
        (λ e. eq-eqb (sum_from (3 * i) 192 (differs bytes)) 0 (counted_by_colours ∙ unchanged e))

    -- and only where its ends are
    pub ends_differ : same_colour (colour_at bytes (i + 64)) (colour_at bytes i) ≡ false → false ≡ equal_colours bytes i
    ends_differ f =
        tests_same false (equal_colours bytes i) (λ e. absurd (true≢false (sym e)))
        (λ e. sym f ∙ same_colour_lem (colour_at bytes (i + 64)) (colour_at bytes i) (one_colour i e 64 (omega arith)))
