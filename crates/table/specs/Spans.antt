-- Spans of bins packed into numbers, as whoever tests a table row by row has them. Definitions only.
use Rattle.std.specs.Prelude.{◌≡◌, ℕ, ◌+◌, ◌-◌, ◌*◌, ◌/◌, ◌%◌, ◌<◌, cond, List, ◌==◌, nat_lt, slice_index}
use Rattle.grid.specs.declared.place.Grid.{Grid}
use Rattle.grid.specs.declared.dimension.Span.{Span}
use Rattle.basics.specs.Dimension.{choose}
use Rattle.basics.specs.Range.{list_from}
use Rattle.grid.specs.Size.{span_of}
use Rattle.grid.specs.Grid.{shift_at}
use Rattle.table.specs.declared.spans.RowSpans.{RowSpans}
use Rattle.table.specs.Sound.{squared_span, plus_span}

-- a span in one number: its low, and 2^32 times what its high has more
unfoldable pub packed_span : Span → ℕ
packed_span s = s.low + 4294967296 * (s.high - s.low)

-- the span that a number tells
unfoldable pub told_span : ℕ → Span
told_span k = record { low = k % 4294967296; high = k % 4294967296 + k / 4294967296 }

-- the spans of a bin
unfoldable pub spans_of : Grid → ℕ → ℕ → ℕ → ℕ → Span
spans_of g r gr b d = span_of (shift_at g d) (choose d r gr b)

-- what the bins of a row have in common: their first two spans, and the squares of both added
unfoldable pub row_spans : Grid → ℕ → ℕ → RowSpans
row_spans g r gr =
    let s1 = span_of g.shift1 r in
    let s2 = span_of g.shift2 gr in
    let squares = plus_span (squared_span s1) (squared_span s2) in
    record { one = packed_span s1; two = packed_span s2; squares = packed_span squares }

-- the third spans of a grid, two numbers for each bin: its span and the squares of that
unfoldable pub span_number : Grid → ℕ → ℕ
span_number g i =
    let s = span_of g.shift3 (i / 2) in
    cond (i % 2 == 0) (packed_span s) (packed_span (squared_span s))

-- a list of 256 with these numbers, for as many bins as the grid has, and behind them what was there
unfoldable pub filled_spans : Grid → List ℕ → List ℕ
filled_spans g t = list_from 0 256 (λ i. cond (nat_lt i (2 * g.size3)) (span_number g i) (slice_index t i))

-- a list that has them
pub record SpanTable (g : Grid) (t : List ℕ) : Type 0 where
  pub at : (i : ℕ) → i < 2 * g.size3 → slice_index t i ≡ span_number g i
