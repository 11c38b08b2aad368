-- Sound tables (Rules, Sound), over a view and for any limit of the total. Definitions only.
use Rattle.std.specs.Prelude.{None, Option, Some}
use Rattle.std.specs.Prelude.{ℕ, ◌+◌, ◌*◌, ◌≤◌, Bool, cond, ◌&&◌, [], ◌∷◌, nat_le}
use Rattle.grid.specs.declared.place.Grid.{Grid}
use Rattle.grid.specs.declared.dimension.Span.{Span}
use Rattle.basics.specs.Answer.{Answer}
use Rattle.basics.specs.Range.{sum_from, all_from}
use Rattle.grid.specs.Size.{span_of}
use Rattle.grid.specs.Grid.{Inside, shift_at, bin_at, bins_of}
use Rattle.table.specs.Cell.{View}
use Rattle.table.specs.Layouts.{Layout}
use Rattle.table.specs.Layouts.{Wide, Narrow}
use Rattle.table.specs.Layout.{TableIn, TableOfIn}

-- the largest total of a table in the wide layout
abbrev pub limit : ℕ
limit = 4294967295

-- and in each layout: the narrow one "takes totals up to 16,843,008"
abbrev pub limit_of : Layout → ℕ
limit_of Wide = limit
limit_of Narrow = 16843008

-- the answer beyond a layout's limit: "refused with 15, in the place of 7"
abbrev pub passed_number : Layout → ℕ
passed_number Wide = 7
passed_number Narrow = 15

-- the sum of n values of one bin "lies between n·low and n·high"
unfoldable pub between : Span → ℕ → ℕ → Bool
between s n sum = nat_le (n * s.low) sum && nat_le sum (n * s.high)

-- a low and a high, squared
unfoldable pub squared_span : Span → Span
squared_span s = record { low = s.low * s.low; high = s.high * s.high }

-- two lows and two highs, added
unfoldable pub plus_span : Span → Span → Span
plus_span s t = record { low = s.low + t.low; high = s.high + t.high }

-- "the sum of the three squared lows" and "the sum of the three squared highs"
unfoldable pub squares_span : (ℕ → Span) → Span
squares_span span = plus_span (plus_span (squared_span (span 0)) (squared_span (span 1))) (squared_span (span 2))

-- "A bin keeps its bounds if every component sum lies between n·low and n·high" by its spans, "and the squares lie
-- between n times the sum of the three squared lows and n times the sum of the three squared highs"
unfoldable pub in_bounds : (ℕ → Span) → (ℕ → ℕ) → Bool
in_bounds span numbers =
    all_from 0 3 (λ d. between (span d) (numbers 0) (numbers (d + 1)))
    && between (squares_span span) (numbers 0) (numbers 4)

-- the span of the bin at a place, in dimension d
unfoldable pub span_at : Grid → ℕ → ℕ → Span
span_at g p d = span_of (shift_at g d) (bin_at g d p)

unfoldable pub bin_sound : Grid → View → ℕ → Bool
bin_sound g v p = in_bounds (span_at g p) (v p)

unfoldable pub total : Grid → View → ℕ
total g v = sum_from 0 (bins_of g) (λ p. v p 0)

-- "A table is sound if each bin keeps its bounds and all weights total at most" the limit
unfoldable pub sound : ℕ → Grid → View → Bool
sound most g v = all_from 0 (bins_of g) (bin_sound g v) && nat_le (total g v) most

-- the total of a sound table, or that it is not sound
unfoldable pub sound_total : ℕ → Grid → View → Option ℕ
sound_total most g v = cond (sound most g v) (Some (total g v)) None

-- the answer and the values of each case; open, so that a call's chain of answers reads through it
abbrev pub sound_answer : Option ℕ → Answer
sound_answer (Some n) = record { number = 0; values = n ∷ [] }
sound_answer None = record { number = 6; values = [] }

-- the answer that every call gives for a table that is not sound
abbrev pub unsound_number : ℕ
unsound_number = (sound_answer None).number

-- ---- what is asked of who tests a bin, row by row
-- a row of bins in a table of a grid, with a total that is not past its layout's limit
pub record Row (l : Layout) (g : Grid) (t : TableIn l) (r gr had : ℕ) : Type 0 where
  pub table : TableOfIn l g t
  pub inside : Inside g r gr 0
  pub under : had ≤ limit_of l

-- a span whose values are not above the most
pub record SpanBelow (most : ℕ) (s : Span) : Type 0 where
  pub low : s.low ≤ s.high
  pub high : s.high ≤ most
