-- The header of a PPM (Rules, Frames), as what is left of a file's bytes after each part of it. Definitions only.
use Rattle.std.specs.Prelude.{Bool, false, not, ◌&&◌, ◌||◌, cond, List, [], ◌∷◌, ℕ, ◌+◌, ◌-◌, ◌*◌, eqb, leb, length, drop}
use Rattle.basics.specs.Answer.{Answer}
use Rattle.ppm.specs.declared.header.Header.{Header}
use Rattle.ppm.specs.declared.header.Header.TheVariants.{Image, Maximum, Malformed}

-- ---- bytes
-- CR or LF
unfoldable pub is_line_end : ℕ → Bool
is_line_end c = eqb c 13 || eqb c 10

-- "Whitespace is a blank, TAB, CR or LF."
unfoldable pub is_blank : ℕ → Bool
is_blank c = eqb c 32 || (eqb c 9 || is_line_end c)

unfoldable pub is_digit : ℕ → Bool
is_digit c = leb 48 c && leb c 57

-- `#`
abbrev pub hash : ℕ
hash = 35

-- ---- gaps
-- "a comment goes from `#` through the next CR or LF": whether one is open after a byte
unfoldable pub opens : Bool → ℕ → Bool
opens within c = not (is_line_end c) && (within || eqb c hash)

-- a byte of a gap: "whitespace and comments in any order"
unfoldable pub in_gap : Bool → ℕ → Bool
in_gap within c = within || (is_blank c || eqb c hash)

-- what follows a gap, within a comment or not
unfoldable pub after_gap : Bool → List ℕ → List ℕ
after_gap within [] = []
after_gap within (c ∷ cs) = cond (in_gap within c) (after_gap (opens within c) cs) (c ∷ cs)

-- "with at least one whitespace that is no part of a comment"
unfoldable pub has_blank : Bool → List ℕ → Bool
has_blank within [] = false
has_blank within (c ∷ cs) = in_gap within c && ((not within && is_blank c) || has_blank (opens within c) cs)

-- ---- numbers
-- "A number is decimal digits, one or more": whether one stands in front, its value behind the digits that were read
-- already, and what follows it
unfoldable pub is_number : List ℕ → Bool
is_number [] = false
is_number (c ∷ cs) = is_digit c

unfoldable pub value_from : ℕ → List ℕ → ℕ
value_from value [] = value
value_from value (c ∷ cs) = cond (is_digit c) (value_from (10 * value + (c - 48)) cs) value

unfoldable pub after_number : List ℕ → List ℕ
after_number [] = []
after_number (c ∷ cs) = cond (is_digit c) (after_number cs) (c ∷ cs)

-- ---- fields
-- a field that was read, with what follows it, or none
pub data Field : Type 0 where
  None : Field
  Read : ℕ → List ℕ → Field

-- a gap and a number after it
unfoldable pub field_of : List ℕ → Field
field_of bytes =
    cond (has_blank false bytes && is_number (after_gap false bytes))
    (Read (value_from 0 (after_gap false bytes)) (after_number (after_gap false bytes)))
    None

-- what comes of a field and of what follows it, or of none
unfoldable pub on_field : {A : Type 0} → Field → A → (ℕ → List ℕ → A) → A
on_field None none read = none
on_field (Read value rest) none read = read value rest

-- ---- the header
-- `P6` in front
unfoldable pub is_magic : List ℕ → Bool
is_magic [] = false
is_magic (a ∷ []) = false
is_magic (a ∷ b ∷ rest) = eqb a 80 && eqb b 54

-- one whitespace in front
unfoldable pub starts_blank : List ℕ → Bool
starts_blank [] = false
starts_blank (c ∷ cs) = is_blank c

-- the number of bytes that follow it
unfoldable pub behind_blank : List ℕ → ℕ
behind_blank rest = length rest - 1

-- "Width and height are each 1 to 65,535"
unfoldable pub is_side : ℕ → Bool
is_side n = leb 1 n && leb n 65535

-- what three numbers with one whitespace behind them say, of a file of so many bytes: "a side that is none is malformed",
-- and then a maximum that is another
unfoldable pub image_of : ℕ → ℕ → ℕ → ℕ → List ℕ → Header
image_of bytes width height maximum rest =
    cond (starts_blank rest && (is_side width && is_side height))
    (cond (eqb maximum 255)
    (Image (record { width = width; height = height; pixels = bytes - behind_blank rest }))
    Maximum)
    Malformed

-- "`P6`, a gap, the width, a gap, the height, a gap, the maximum, one whitespace"
unfoldable pub header_of : List ℕ → Header
header_of file =
    cond (is_magic file)
    (on_field (field_of (drop 2 file)) Malformed (λ width one.
    on_field (field_of one) Malformed (λ height two.
    on_field (field_of two) Malformed (λ maximum rest.
    image_of (length file) width height maximum rest))))
    Malformed

-- ---- its cases: answer and values
unfoldable pub header_answer : Header → Answer
header_answer (Image i) = record { number = 0; values = i.width ∷ i.height ∷ i.pixels ∷ [] }
header_answer Maximum = record { number = 11; values = [] }
header_answer Malformed = record { number = 10; values = [] }
