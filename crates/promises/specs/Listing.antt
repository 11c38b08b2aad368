-- The listing program over its whole input (Rules, Listing), by the definitions of the contracts of `lines`: what was
-- read so far, batch by batch, and what is then written. Definitions only.
use Rattle.std.specs.Prelude.{◌≡◌, List, [], ◌∷◌, ◌++◌, ℕ, ◌%◌, ◌<◌, length, get_or, replicate}
use Rattle.grid.specs.declared.place.Grid.{Grid}
use Rattle.lines.specs.Listing.{empty_table, text_of}
use Rattle.lines.specs.Reading.{Progress, progress, after_all}

-- before anything is read
unfoldable pub at_first : Progress
at_first = progress 0 empty_table 0

-- the text that is written for an input that came in these batches
unfoldable pub written_for : List (List ℕ) → List ℕ
written_for batches = let s = after_all at_first batches in text_of s.number s.table

-- ---- "from standard input in batches"
-- batches of bytes that split no pixel
abbrev pub WholePixels : List (List ℕ) → Type 0
WholePixels [] = Unit {0}
WholePixels (batch ∷ rest) = (length batch % 3 ≡ 0) × ((k : ℕ) → get_or batch k 0 < 256) × WholePixels rest

-- what was read in these batches
unfoldable pub read_in : List (List ℕ) → List ℕ
read_in [] = []
read_in (batch ∷ rest) = batch ++ read_in rest

-- ---- the example
-- "four pixels, one black and then three white"
unfoldable pub four_pixels : List ℕ
four_pixels = 0 ∷ 0 ∷ 0 ∷ 255 ∷ 255 ∷ 255 ∷ 255 ∷ 255 ∷ 255 ∷ 255 ∷ 255 ∷ 255 ∷ []

-- the grid 8,8,8, whose shifts are 5
abbrev pub grid8 : Grid
grid8 = record { shift1 = 5; shift2 = 5; shift3 = 5; size1 = 8; size2 = 8; size3 = 8 }

-- their table: black once in the first of the 512 bins, white three times in the last
unfoldable pub four_table : List ℕ
four_table = 1 ∷ (replicate 2554 0 ++ (3 ∷ 765 ∷ 765 ∷ 765 ∷ 585225 ∷ []))

-- the lines "boxes 2 total 4 rounds 2", "0 255 255 255 3" and "1 0 0 0 1"
unfoldable pub three_lines : List ℕ
three_lines =
    (98 ∷ 111 ∷ 120 ∷ 101 ∷ 115 ∷ 32 ∷ 50 ∷ [])
    ++ (32 ∷ 116 ∷ 111 ∷ 116 ∷ 97 ∷ 108 ∷ 32 ∷ 52 ∷ [])
    ++ (32 ∷ 114 ∷ 111 ∷ 117 ∷ 110 ∷ 100 ∷ 115 ∷ 32 ∷ 50 ∷ 10 ∷ [])
    ++ (48 ∷ 32 ∷ 50 ∷ 53 ∷ 53 ∷ 32 ∷ 50 ∷ 53 ∷ 53 ∷ 32 ∷ 50 ∷ 53 ∷ 53 ∷ 32 ∷ 51 ∷ 10 ∷ [])
    ++ (49 ∷ 32 ∷ 48 ∷ 32 ∷ 48 ∷ 32 ∷ 48 ∷ 32 ∷ 49 ∷ 10 ∷ [])

-- the line `refused N` for 3 and for 8
unfoldable pub refused3 : List ℕ
refused3 = 114 ∷ 101 ∷ 102 ∷ 117 ∷ 115 ∷ 101 ∷ 100 ∷ 32 ∷ 51 ∷ 10 ∷ []

unfoldable pub refused8 : List ℕ
refused8 = 114 ∷ 101 ∷ 102 ∷ 117 ∷ 115 ∷ 101 ∷ 100 ∷ 32 ∷ 56 ∷ 10 ∷ []
