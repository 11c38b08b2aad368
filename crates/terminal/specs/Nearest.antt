-- The call nearest (Rules, Terminal; Rules, Answers). Definitions only.
use Rattle.std.specs.Prelude.{◌≡◌, not, cond, ◌&&◌, List, ◌++◌, ℕ, zero, suc, ◌+◌, ◌*◌, ◌/◌, ◌%◌, ◌-◌, ◌≤◌, eqb, leb, ltb, length, drop}
use Rattle.basics.specs.Answer.{refuse, when_done}
use Rattle.basics.specs.Range.{list_from}
use Rattle.pixels.specs.declared.colour.Rgb.{Rgb}
use Rattle.pixels.specs.Colour.{colour_at}
use Rattle.terminal.specs.Colours.{fixed_colour}

-- ---- the nearest to one colour
-- the difference of two components, whichever is the larger
unfoldable pub difference_of : ℕ → ℕ → ℕ
difference_of a b = (a - b) + (b - a)

unfoldable pub square_of : ℕ → ℕ → ℕ
square_of a b = difference_of a b * difference_of a b

-- "the sum of the three squared differences of their components"
unfoldable pub apart : Rgb → Rgb → ℕ
apart x y = square_of x.c1 y.c1 + square_of x.c2 y.c2 + square_of x.c3 y.c3

-- the squared distance of a colour from that of number n
unfoldable pub distance_of : Rgb → ℕ → ℕ
distance_of x n = apart x (fixed_colour n)

-- of a first number and some more after it, the one "with the smallest" f, "the lowest number on a tie"
unfoldable pub least_from : ℕ → ℕ → (ℕ → ℕ) → ℕ
least_from first zero f = first
least_from first (suc more) f =
    let best = least_from first more f in
    cond (ltb (f (first + suc more)) (f best)) (first + suc more) best

-- "numbers 16 to 255"
unfoldable pub nearest_of : Rgb → ℕ
nearest_of x = least_from 16 239 (distance_of x)

-- ---- the call
-- how many entries a palette has
abbrev pub entries_in : List ℕ → ℕ
entries_in palette = length palette / 3

-- "for each entry of the palette"
unfoldable pub nearest_at : List ℕ → ℕ → ℕ
nearest_at palette i = nearest_of (colour_at palette i)

-- "a palette of 3..768 bytes, a multiple of three; a list of answers that is not shorter than its entries"
unfoldable pub nearest_number : List ℕ → List ℕ → ℕ
nearest_number palette answers =
    refuse (not (leb 3 (length palette) && leb (length palette) 768)) 5
    (refuse (not (eqb (length palette % 3) 0)) 5
    (refuse (ltb (length answers) (entries_in palette)) 5 0))

-- what a call is given that nothing refuses
pub record CanNearest (palette answers : List ℕ) : Type 0 where
  pub some : 3 ≤ length palette
  pub few : length palette ≤ 768
  pub threes : length palette % 3 ≡ 0
  pub room : entries_in palette ≤ length answers

-- a list with the numbers in front: "Places past the entries stay."
unfoldable pub numbers_for : List ℕ → List ℕ → List ℕ
numbers_for palette answers = list_from 0 (entries_in palette) (nearest_at palette) ++ drop (entries_in palette) answers

-- the list afterwards: "A refusal writes nothing."
unfoldable pub nearest_later : List ℕ → List ℕ → List ℕ
nearest_later palette answers =
    when_done (nearest_number palette answers) (numbers_for palette answers) answers
