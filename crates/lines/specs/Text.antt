-- The text that the listing program writes (Rules, Listing), as a list of bytes. Definitions only.
use Rattle.std.specs.Prelude.{◌≡◌, cond, List, [], ◌∷◌, ◌++◌, ℕ, zero, suc, ◌+◌, ◌*◌, ◌/◌, ◌%◌, ltb, length, get_or, drop}
use Rattle.std.proofs.lemmas.List.Edits.{sets}
use Rattle.basics.specs.Range.{sum_from}

-- ---- decimals
-- the digits of a number in ASCII, the most significant first, where it has no more than so many
unfoldable pub digits_within : ℕ → ℕ → List ℕ
digits_within zero n = []
digits_within (suc most) n =
    let front = digits_within most (n / 10) in
    cond (ltb n 10) [] front ++ (48 + n % 10) ∷ []

-- the digits of a number: it has no more of them than itself and one
unfoldable pub decimal_of : ℕ → List ℕ
decimal_of n = digits_within (suc n) n

-- ---- lines
-- the bytes of the words `boxes`, `total`, `rounds` and `refused`, with the spaces around them
unfoldable pub boxes_word : List ℕ
boxes_word = 98 ∷ 111 ∷ 120 ∷ 101 ∷ 115 ∷ 32 ∷ []

unfoldable pub total_word : List ℕ
total_word = 32 ∷ 116 ∷ 111 ∷ 116 ∷ 97 ∷ 108 ∷ 32 ∷ []

unfoldable pub rounds_word : List ℕ
rounds_word = 32 ∷ 114 ∷ 111 ∷ 117 ∷ 110 ∷ 100 ∷ 115 ∷ 32 ∷ []

unfoldable pub refused_word : List ℕ
refused_word = 114 ∷ 101 ∷ 102 ∷ 117 ∷ 115 ∷ 101 ∷ 100 ∷ 32 ∷ []

unfoldable pub newline : List ℕ
newline = 10 ∷ []

-- a number after its name
unfoldable pub named_of : List ℕ → ℕ → List ℕ
named_of name n = name ++ decimal_of n

-- "Its first line gives the number of boxes, the total and the number of rounds."
unfoldable pub head_of : ℕ → ℕ → ℕ → List ℕ
head_of boxes total rounds =
    named_of boxes_word boxes ++ named_of total_word total ++ named_of rounds_word rounds ++ newline

-- a number after a space
unfoldable pub field_of : ℕ → List ℕ
field_of n = (32 ∷ []) ++ decimal_of n

-- "Each line after the first gives index, red, green, blue, count"
unfoldable pub line_of : ℕ → ℕ → ℕ → ℕ → ℕ → List ℕ
line_of index red green blue count =
    decimal_of index ++ field_of red ++ field_of green ++ field_of blue ++ field_of count ++ newline

-- the line of box i
abbrev pub line_at : List ℕ → List ℕ → ℕ → List ℕ
line_at palette counts i =
    line_of i (get_or palette (3 * i) 0) (get_or palette (3 * i + 1) 0) (get_or palette (3 * i + 2) 0) (get_or counts i 0)

-- the lines of the first boxes, in order
unfoldable pub lines_of : List ℕ → List ℕ → ℕ → List ℕ
lines_of palette counts zero = []
lines_of palette counts (suc n) = lines_of palette counts n ++ line_at palette counts n

-- the weight of the first boxes together
unfoldable pub total_of : List ℕ → ℕ → ℕ
total_of counts n = sum_from 0 n (λ i. get_or counts i 0)

-- the complete text for the numbers of boxes and rounds, the palette and the counts
unfoldable pub listing_of : ℕ → ℕ → List ℕ → List ℕ → List ℕ
listing_of boxes rounds palette counts = head_of boxes (total_of counts boxes) rounds ++ lines_of palette counts boxes

-- "On a refusal it writes only `refused N`"
unfoldable pub refused_of : ℕ → List ℕ
refused_of number = named_of refused_word number ++ newline

-- a lent buffer with a text at its start, and after it what stood there
unfoldable pub with_text : List ℕ → List ℕ → List ℕ
with_text text old = text ++ drop (length text) old

-- ---- a text that is put into a buffer, part by part
-- the buffer `before` with a text from place `at` on is `after`, and the place behind the text is `end`
pub record Put (before : List ℕ) (at : ℕ) (text after : List ℕ) (end : ℕ) : Type 0 where
  pub later : after ≡ sets before at text
  pub ends : end ≡ at + length text

-- every line has room in so many bytes
abbrev pub line_room : ℕ
line_room = 128
