-- The grammar of a PPM's header (Rules, Frames), to be held beside the Netpbm page: what a gap, a number and a whole
-- header are, and the one plain header of an image. Nothing here reads a file. Definitions only.
use Rattle.std.specs.Prelude.{◌≡◌, Bool, true, false, ◌&&◌, cond, List, [], ◌∷◌, ◌++◌, map, ℕ, ◌+◌, ◌*◌, ◌≤◌, eqb, leb, length}
use Rattle.lines.specs.Text.{decimal_of}
use Rattle.ppm.specs.declared.header.Header.{Header}
use Rattle.ppm.specs.declared.header.Header.TheVariants.{Image, Maximum, Malformed}

-- ---- whitespace
pub data LineEnd : Type 0 where
  CR : LineEnd
  LF : LineEnd

-- Whitespace is a blank, TAB, CR or LF.
pub data White : Type 0 where
  Blank : White
  Tab : White
  Line : LineEnd → White

unfoldable pub end_byte : LineEnd → ℕ
end_byte CR = 13
end_byte LF = 10

unfoldable pub white_byte : White → ℕ
white_byte Blank = 32
white_byte Tab = 9
white_byte (Line end) = end_byte end

-- ---- gaps
-- A gap has whitespace and comments in any order; a comment has what stands between its `#` and its line end.
pub data Piece : Type 0 where
  Space : White → Piece
  Comment : List ℕ → LineEnd → Piece

-- A comment goes from `#` through the next CR or LF.
unfoldable pub piece_text : Piece → List ℕ
piece_text (Space white) = white_byte white ∷ []
piece_text (Comment inside end) = 35 ∷ inside ++ end_byte end ∷ []

unfoldable pub pieces_text : List Piece → List ℕ
pieces_text [] = []
pieces_text (piece ∷ pieces) = piece_text piece ++ pieces_text pieces

-- It is the next one: none stands inside.
abbrev pub NoLineEnd : List ℕ → Type 0
NoLineEnd [] = Unit {0}
NoLineEnd (c ∷ cs) = (c ≡ 13 → ⊥) × (c ≡ 10 → ⊥) × NoLineEnd cs

abbrev pub ArePieces : List Piece → Type 0
ArePieces [] = Unit {0}
ArePieces (Space white ∷ pieces) = ArePieces pieces
ArePieces (Comment inside end ∷ pieces) = NoLineEnd inside × ArePieces pieces

-- whether there is whitespace that is no part of a comment
unfoldable pub some_space : List Piece → Bool
some_space [] = false
some_space (Space white ∷ pieces) = true
some_space (Comment inside end ∷ pieces) = some_space pieces

-- a text that is a gap: there is at least one
pub record Gap (text : List ℕ) : Type 0 where
  pub pieces : List Piece
  pub are : ArePieces pieces
  pub some : some_space pieces ≡ true
  pub is : text ≡ pieces_text pieces

-- ---- numbers
-- Numbers are decimal digits.
abbrev pub AreDigits : List ℕ → Type 0
AreDigits [] = Unit {0}
AreDigits (d ∷ ds) = (d ≤ 9) × AreDigits ds

-- the digits 0 to 9 are the bytes from 48 on
unfoldable pub digits_text : List ℕ → List ℕ
digits_text ds = map (λ d. 48 + d) ds

-- what digits are worth, behind a number that was said before
unfoldable pub worth_from : ℕ → List ℕ → ℕ
worth_from before [] = before
worth_from before (d ∷ ds) = worth_from (10 * before + d) ds

-- a text that is a number of some value: leading zeros are allowed, and any number of digits from one on
pub record Number (text : List ℕ) (value : ℕ) : Type 0 where
  pub digits : List ℕ
  pub are : AreDigits digits
  pub some : 1 ≤ length digits
  pub is : text ≡ digits_text digits
  pub worth : value ≡ worth_from 0 digits

-- ---- the header
-- `P6`; gap; width; gap; height; gap; maximum; one whitespace
pub record WellFormed (text : List ℕ) (width height maximum : ℕ) : Type 0 where
  pub gap1 : List ℕ
  pub is_gap1 : Gap gap1
  pub number1 : List ℕ
  pub is_width : Number number1 width
  pub gap2 : List ℕ
  pub is_gap2 : Gap gap2
  pub number2 : List ℕ
  pub is_height : Number number2 height
  pub gap3 : List ℕ
  pub is_gap3 : Gap gap3
  pub number3 : List ℕ
  pub is_maximum : Number number3 maximum
  pub last : White
  pub is : text ≡ 80 ∷ 54 ∷ gap1 ++ number1 ++ gap2 ++ number2 ++ gap3 ++ number3 ++ white_byte last ∷ []

-- Width and height are each 1 to 65,535.
abbrev pub IsSide : ℕ → Type 0
IsSide n = (1 ≤ n) × (n ≤ 65535)

-- a file that is a well-formed text with such sides, and then pixels from a place on
pub record InGrammar (file : List ℕ) (width height maximum place : ℕ) : Type 0 where
  pub text : List ℕ
  pub pixels : List ℕ
  pub is : file ≡ text ++ pixels
  pub formed : WellFormed text width height maximum
  pub wide : IsSide width
  pub high : IsSide height
  pub starts : place ≡ length text

-- ---- what a reader is to say
-- of a well-formed text: malformed where a side is none, then another maximum than 255, and else the image
unfoldable pub a_side : ℕ → Bool
a_side n = leb 1 n && leb n 65535

unfoldable pub said_of : ℕ → ℕ → ℕ → ℕ → Header
said_of width height maximum place =
    cond (a_side width && a_side height)
    (cond (eqb maximum 255) (Image (record { width = width; height = height; pixels = place })) Maximum)
    Malformed

-- a file of the grammar whose maximum is not 255
pub record OtherMaximum (file : List ℕ) : Type 0 where
  pub width : ℕ
  pub height : ℕ
  pub maximum : ℕ
  pub place : ℕ
  pub has : InGrammar file width height maximum place
  pub other : maximum ≡ 255 → ⊥

-- of any file: an image where it is of the grammar with 255, the maximum where it has another, and malformed where it
-- isn't of the grammar
abbrev pub RightOf : List ℕ → Header → Type 0
RightOf file (Image f) = InGrammar file f.width f.height 255 f.pixels
RightOf file Maximum = OtherMaximum file
RightOf file Malformed = (width height maximum place : ℕ) → InGrammar file width height maximum place → ⊥

-- ---- the plain header of an image
-- `P6`, newline, width, blank, height, newline, `255`, newline, with no comment and no zero in front
unfoldable pub plain_header : ℕ → ℕ → List ℕ
plain_header width height =
    80 ∷ 54 ∷ 10 ∷ decimal_of width ++ 32 ∷ decimal_of height ++ 10 ∷ 50 ∷ 53 ∷ 53 ∷ 10 ∷ []
