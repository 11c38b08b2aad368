-- What the numbers of a palette's entries are, and when nearest is refused (Rules, Terminal; Rules, Answers).
-- Definitions only.
use Rattle.std.specs.Prelude.{Bool, not, ◌&&◌, List, [], ◌∷◌, ℕ, ◌%◌, ◌≤◌, ◌<◌, eqb, leb, ltb, length}
use Rattle.pixels.specs.declared.colour.Rgb.{Rgb}
use Rattle.sums.specs.declared.source.Source.TheVariants.{Moments}
use Rattle.cutter.specs.Cut.{cut_later}
use Rattle.terminal.specs.Nearest.{distance_of, entries_in}
use Rattle.lines.specs.Listing.{lent_zeros}
use Rattle.promises.specs.Numbers.{Tests, applies}

-- r is one of the numbers, "no colour is closer", and each lower number is farther
pub record IsNearest (x : Rgb) (r : ℕ) : Type 0 where
  pub from16 : 16 ≤ r
  pub to255 : r ≤ 255
  pub none_closer : (n : ℕ) → 16 ≤ n → n ≤ 255 → distance_of x r ≤ distance_of x n
  pub lower_farther : (n : ℕ) → 16 ≤ n → n < r → distance_of x r < distance_of x n

-- the answers of nearest: 5 alone (Rules, Answers)
unfoldable pub nearest_tests : List ℕ → List ℕ → Tests
nearest_tests palette answers =
    (5, not (leb 3 (length palette) && leb (length palette) 768))
    ∷ (5, not (eqb (length palette % 3) 0))
    ∷ (5, ltb (length answers) (entries_in palette))
    ∷ []

unfoldable pub nearest_applies : List ℕ → List ℕ → ℕ → Bool
nearest_applies palette answers = applies (nearest_tests palette answers)

-- the palette that the listing program lists
abbrev pub listed_palette : List ℕ → List ℕ
listed_palette t = (cut_later Moments 8 8 8 16 t lent_zeros).results.palette
