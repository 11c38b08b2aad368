-- The 240 fixed colours of a terminal, and the numbers that a palette's entries get (Rules, Terminal).
-- Assumes nothing.
use mathlib.Core.Path.{◌≡◌, refl, sym, ap, ◌∙◌}
use mathlib.Core.Logic.{◌↔◌}
use mathlib.Core.List.{List}
use Prim.Native.Nat.{ℕ, suc, ◌+◌, ◌*◌, ◌/◌, ◌%◌, ◌-◌, ◌≤◌, ◌<◌}
use native.Mathlib.Nat.{mul-le-mul, lt_of_not-le, add-zero}
use native.Mathlib.Decide.{dec_le}
use native.Mathlib.Omega.{arith}
use borrow.Author.Tests.{lt-ltb, le-ltb}
use lib.ListN.{length, get_or, drop}
use Rattle.basics.specs.Answer.{refuse}
use Rattle.basics.specs.Dimension.{choose}
use Rattle.pixels.specs.declared.colour.Rgb.{Rgb}
use Rattle.pixels.specs.Colour.{colour_at}
use Rattle.terminal.specs.Colours.{level_of, cube_level, grey_level, level_at, fixed_colour, fixed_table}
use Rattle.terminal.specs.Nearest.{difference_of, square_of, apart, distance_of, nearest_of, entries_in, nearest_at}
use Rattle.terminal.specs.Nearest.{nearest_number, nearest_later, CanNearest}
use Rattle.terminal.proofs.Laws.{table_at}
use Rattle.terminal.proofs.Lowest.{Lowest, lowest_is, lowest_one}
use Rattle.terminal.proofs.Distinct.{distinct}
use Rattle.terminal.proofs.Calls.{number_passed, number_accepted, numbers_at, numbers_rest, numbers_length}
use Rattle.terminal.proofs.Calls.{nearest_refused, nearest_done}
use Rattle.promises.specs.Numbers.{chain, ascends, lowest_of}
use Rattle.promises.specs.Terminal.{IsNearest, nearest_tests, nearest_applies}
use Rattle.promises.proofs.Numbers.{lowest}

-- ---- the colours
-- "Number 16 + 36·r + 6·g + b has the levels 0, 95, 135, 175, 215, 255 at r, g and b"
pub cube_colours : (r g b : ℕ) → r ≤ 5 → g ≤ 5 → b ≤ 5
    → fixed_colour (16 + 36 * r + 6 * g + b) ≡ record { c1 = level_of r; c2 = level_of g; c3 = level_of b }
unfolding fixed_colour level_at cube_level choose
cube_colours r g b hr hg hb =
    let n = 16 + 36 * r + 6 * g + b in
    let in-cube = lt-ltb n 232 (omega arith) in
    let red : (n - 16) / 36 ≡ r = omega arith in
    let green : (n - 16) / 6 % 6 ≡ g = omega arith in
    let blue : (n - 16) % 6 ≡ b = omega arith in
    rw (in-cube, red, green, blue) refl

-- "number 232 + i has 8 + 10·i three times"
pub grey_colours : (i : ℕ) → i ≤ 23
    → fixed_colour (232 + i) ≡ record { c1 = 8 + 10 * i; c2 = 8 + 10 * i; c3 = 8 + 10 * i }
unfolding fixed_colour level_at grey_level
grey_colours i h =
    let beyond = le-ltb (232 + i) 232 (omega arith) in
    let back : 232 + i - 232 ≡ i = omega arith in
    rw (beyond, back) refl

-- "a table of 720 numbers, three a colour from number 16 on"
pub table_colours : (n : ℕ) → 16 ≤ n → n ≤ 255 → colour_at fixed_table (n - 16) ≡ fixed_colour n
unfolding colour_at fixed_colour
table_colours n h k =
    let back : 16 + (n - 16) ≡ n = omega arith in
    let red = ap (λ (j : ℕ). get_or fixed_table j 0) (sym (add-zero (3 * (n - 16)))) ∙ at 0 (omega arith) in
    let one = at 1 (omega arith) in
    let two = at 2 (omega arith) in
    λ i. record {
      c1 = (red ∙ ap (λ (m : ℕ). level_at m 0) back) i;
      c2 = (one ∙ ap (λ (m : ℕ). level_at m 1) back) i;
      c3 = (two ∙ ap (λ (m : ℕ). level_at m 2) back) i;
    }
  where
    at : (d : ℕ) → d < 3 → get_or fixed_table (3 * (n - 16) + d) 0 ≡ level_at (16 + (n - 16)) d
    at d l = table_at (n - 16) d (omega arith) l

-- "All 240 colours differ."
pub all_240_differ : (n m : ℕ) → 16 ≤ n → n ≤ 255 → 16 ≤ m → m ≤ 255 → fixed_colour n ≡ fixed_colour m → n ≡ m
all_240_differ n m a b c d e = distinct n m a b c d e

-- ---- the nearest to one colour
pub nearest_is : (x : Rgb) → IsNearest x (nearest_of x)
unfolding nearest_of
nearest_is x =
    let l = lowest_is 16 (distance_of x) 239 in
    record {
      from16 = l.from;
      to255 = omega (arith, l.to);
      none_closer = λ n h k. l.least n h (omega arith);
      lower_farther = l.first;
    }

-- and no other number is
pub nearest_one : (x : Rgb) (r s : ℕ) → IsNearest x r → IsNearest x s → r ≡ s
nearest_one x r s p q = lowest_one 16 (distance_of x) 239 r s (below r p) (below s q)
  where
    below : (r : ℕ) → IsNearest x r → Lowest 16 (distance_of x) 239 r
    below r p =
        record {
          from = p.from16;
          to = omega (arith, p.to255);
          least = λ n h k. p.none_closer n h (omega arith);
          first = p.lower_farther;
        }

-- a squared distance of 0 is that of a colour from itself
no_difference : (a : ℕ) → square_of a a ≡ 0
unfolding square_of difference_of
no_difference a = let z : (a - a) + (a - a) ≡ 0 = omega arith in rw z refl

own_distance : (n : ℕ) → distance_of (fixed_colour n) n ≡ 0
unfolding distance_of apart
own_distance n =
    let x = fixed_colour n in
    omega (arith, no_difference x.c1, no_difference x.c2, no_difference x.c3)

none_apart : (a b : ℕ) → difference_of a b ≡ 0 → a ≡ b
unfolding difference_of
none_apart a b z = omega arith

same_component : (a b : ℕ) → square_of a b ≡ 0 → a ≡ b
unfolding square_of
same_component a b e = go (dec_le 1 (difference_of a b))
  where
    go : Dec (1 ≤ difference_of a b) → a ≡ b
    go (yes h) = let p : 1 * 1 ≤ difference_of a b * difference_of a b = mul-le-mul h h in absurd (omega arith)
    go (no h) = none_apart a b (omega (arith, lt_of_not-le h))

same_colour_lem : (x y : Rgb) → apart x y ≡ 0 → x ≡ y
unfolding apart
same_colour_lem x y e =
    let a = same_component x.c1 y.c1 (omega arith) in
    let b = same_component x.c2 y.c2 (omega arith) in
    let c = same_component x.c3 y.c3 (omega arith) in
    λ i. record { c1 = a i; c2 = b i; c3 = c i }

-- "each of the 240 has its own number"
pub own_number : (n : ℕ) → 16 ≤ n → n ≤ 255 → nearest_of (fixed_colour n) ≡ n
unfolding distance_of
own_number n h k =
    let r = nearest_of (fixed_colour n) in
    let is = nearest_is (fixed_colour n) in
    let none : distance_of (fixed_colour n) r ≡ 0 = omega (arith, own_distance n, is.none_closer n h k) in
    sym (distinct n r h k is.from16 is.to255 (same_colour_lem (fixed_colour n) (fixed_colour r) none))

-- ---- the call
module _ (palette answers : List ℕ) where
  pub nearest_lowest : nearest_number palette answers ≡ lowest_of (nearest_applies palette answers)
  unfolding nearest_number nearest_applies nearest_tests chain ascends refuse
  nearest_lowest = lowest (nearest_tests palette answers) 1 (omega arith) refl

  pub nearest_exactly : (nearest_number palette answers ≡ 0) ↔ CanNearest palette answers
  nearest_exactly = (number_passed palette answers, number_accepted palette answers)

  -- "A refusal writes nothing."
  pub refused_nearest : {n : ℕ} → nearest_number palette answers ≡ suc n → nearest_later palette answers ≡ answers
  refused_nearest e = nearest_refused palette answers e

  module _ (done : nearest_number palette answers ≡ 0) where
    at : (i : ℕ) → i < entries_in palette → get_or (nearest_later palette answers) i 0 ≡ nearest_at palette i
    at i h =
        ap (λ (l : List ℕ). get_or l i 0) (nearest_done palette answers done)
        ∙ numbers_at palette answers (number_passed palette answers done) i h

    -- each entry's place has the number of the nearest colour
    pub each_nearest : (i : ℕ) → i < entries_in palette
        → IsNearest (colour_at palette i) (get_or (nearest_later palette answers) i 0)
    unfolding nearest_at
    each_nearest i h = rw (at i h) (nearest_is (colour_at palette i))

    pub each_own : (i n : ℕ) → i < entries_in palette → 16 ≤ n → n ≤ 255 → colour_at palette i ≡ fixed_colour n
        → get_or (nearest_later palette answers) i 0 ≡ n
    unfolding nearest_at
    each_own i n h from to same = at i h ∙ ap nearest_of same ∙ own_number n from to

    -- "Places past the entries stay."
    pub past_stay : drop (entries_in palette) (nearest_later palette answers) ≡ drop (entries_in palette) answers
    past_stay =
        ap (drop (entries_in palette)) (nearest_done palette answers done)
        ∙ numbers_rest palette answers (number_passed palette answers done)

    pub as_long : length (nearest_later palette answers) ≡ length answers
    as_long =
        ap length (nearest_done palette answers done)
        ∙ numbers_length palette answers (number_passed palette answers done)
