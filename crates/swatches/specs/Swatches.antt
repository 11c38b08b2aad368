-- The listing for a terminal (Rules, Listing): each line after the first behind a swatch. Definitions only.
use Rattle.std.specs.Prelude.{List, [], ◌∷◌, ◌++◌, ℕ, zero, suc, get_or, replicate}
use Rattle.basics.specs.Answer.{when_done}
use Rattle.sums.specs.declared.source.Source.TheVariants.{Moments}
use Rattle.cutter.specs.Cut.{cut_record, cut_later}
use Rattle.lines.specs.Text.{named_of, head_of, line_at, total_of, refused_of}
use Rattle.lines.specs.Listing.{lent_zeros}
use Rattle.terminal.specs.Nearest.{nearest_later}

-- ---- lines
-- the bytes of `ESC[48;5;`, and those of `m`, two spaces, `ESC[0m` and a space
unfoldable pub before_number : List ℕ
before_number = 27 ∷ 91 ∷ 52 ∷ 56 ∷ 59 ∷ 53 ∷ 59 ∷ []

unfoldable pub behind_number : List ℕ
behind_number = 109 ∷ 32 ∷ 32 ∷ 27 ∷ 91 ∷ 48 ∷ 109 ∷ 32 ∷ []

-- "A swatch is the escape `ESC[48;5;Nm`, two spaces, the escape `ESC[0m` and a space"
unfoldable pub swatch_of : ℕ → List ℕ
swatch_of number = named_of before_number number ++ behind_number

-- the line of box i: "each line after the first stands behind a swatch of its colour"
abbrev pub swatch_line_at : List ℕ → List ℕ → List ℕ → ℕ → List ℕ
swatch_line_at palette counts numbers i = swatch_of (get_or numbers i 0) ++ line_at palette counts i

-- the lines of the first boxes, in order
unfoldable pub swatch_lines : List ℕ → List ℕ → List ℕ → ℕ → List ℕ
swatch_lines palette counts numbers zero = []
swatch_lines palette counts numbers (suc n) =
    swatch_lines palette counts numbers n ++ swatch_line_at palette counts numbers n

-- the complete text for the numbers of boxes and rounds, the palette, the counts and the terminal's numbers
unfoldable pub swatch_listing : ℕ → ℕ → List ℕ → List ℕ → List ℕ → List ℕ
swatch_listing boxes rounds palette counts numbers =
    head_of boxes (total_of counts boxes) rounds ++ swatch_lines palette counts numbers boxes

-- ---- the text for the table that was loaded
-- the numbers that nearest gives a palette of 16 entries
unfoldable pub numbers_of : List ℕ → List ℕ
numbers_of palette = nearest_later palette (replicate 16 0)

unfoldable pub cut_swatches : List ℕ → List ℕ
cut_swatches t =
    let r = cut_record Moments 8 8 8 16 t lent_zeros in
    let later = (cut_later Moments 8 8 8 16 t lent_zeros).results in
    when_done r.number
    (swatch_listing r.boxes r.rounds later.palette later.counts (numbers_of later.palette))
    (refused_of r.number)

-- "On a refusal it writes only `refused N`": the lowest refusal of the loads, or else that of the cut
unfoldable pub swatch_text : ℕ → List ℕ → List ℕ
swatch_text number t = when_done number (cut_swatches t) (refused_of number)

-- every text has room in so many bytes
abbrev pub swatch_text_room : ℕ
swatch_text_room = 2752
