-- All 240 colours differ: one test, computed at each two of them.
-- Assumes nothing.
use mathlib.Core.Path.{◌≡◌, refl, sym, ap, ◌∙◌}
use mathlib.Core.Bool.{true, not, true≢false}
use Prim.Native.Nat.{ℕ, ◌-◌, ◌≤◌, ◌<◌}
use native.Mathlib.Nat.{lt_of_not-le}
use native.Mathlib.Decide.{dec_le}
use native.Mathlib.Omega.{arith}
use borrow.Author.Tests.{eq-eqb, not-true}
use Rattle.basics.specs.Range.{all_from}
use Rattle.basics.specs.Dimension.{choose}
use Rattle.basics.proofs.Range.{all_at}
use Rattle.pixels.specs.declared.colour.Rgb.{Rgb}
use Rattle.pixels.specs.Equal.{same_colour}
use Rattle.terminal.specs.Colours.{level_of, cube_level, grey_level, level_at, fixed_colour, all_differ}

pub all_differ_lem : all_differ ≡ true
unfolding all_differ same_colour all_from fixed_colour level_at cube_level grey_level level_of choose
all_differ_lem = refl

itself : (x : Rgb) → same_colour x x ≡ true
unfolding same_colour
itself x = simp (eq-eqb x.c1 x.c1 refl, eq-eqb x.c2 x.c2 refl, eq-eqb x.c3 x.c3 refl)

-- a colour is none of those before it
differ : (n m : ℕ) → n ≤ 255 → 16 ≤ m → m < n → fixed_colour n ≡ fixed_colour m → ⊥
unfolding all_differ
differ n m h k l e =
    let row = all_at 16 240 (λ n. all_from 16 (n - 16) (λ m. not (same_colour (fixed_colour n) (fixed_colour m))))
    all_differ_lem n (omega arith) (omega arith) in
    let one = all_at 16 (n - 16) (λ m. not (same_colour (fixed_colour n) (fixed_colour m))) row m k (omega arith) in
    true≢false
    (sym (itself (fixed_colour n)) ∙ ap (same_colour (fixed_colour n)) e
    ∙ not-true (same_colour (fixed_colour n) (fixed_colour m)) one)

pub distinct : (n m : ℕ) → 16 ≤ n → n ≤ 255 → 16 ≤ m → m ≤ 255 → fixed_colour n ≡ fixed_colour m → n ≡ m
distinct n m a b c d e = go (dec_le n m) (dec_le m n)
  where
    go : Dec (n ≤ m) → Dec (m ≤ n) → n ≡ m
    go (yes h) (yes k) = omega arith
    go (no h) k = absurd (differ n m b c (lt_of_not-le h) e)
    go (yes h) (no k) = absurd (differ m n d a (lt_of_not-le k) (sym e))
