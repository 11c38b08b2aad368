-- `table::spans::fill_spans` meets its contract: the loop fills the list from its front, two numbers a bin.
-- Assumes nothing.
use Rattle.std.proofs.Common.{◌≡◌, ◌<◌, ap, ◌∙◌, lt_of_lt_of_le, arith, lit≤}
use Rattle.grid.proofs.Size.{in_size, size_high}
use Rattle.grid.proofs.Places.{three}
use Rattle.table.specs.Sound.{squared_span, SpanBelow}
use Rattle.table.specs.Spans.{packed_span}
use Rattle.table.proofs.Packed.{byte_span, wider, squares_below, spans_none, spans_more, spans_all}
use Rattle.table.proofs.spans.fill_spans.Goals.{After-span_of-s}
use Rattle.table.proofs.spans.fill_spans.Goals as goal

pub loop-b-init : goal.loop-b-init
loop-b-init c = spans_none c.args.g c.args.spans.now c.requires.1

pub span_of-s-requires : goal.span_of-s-requires
span_of-s-requires c = in_size (three c.requires.0) c.loop-b.b c.loop-b-test.true

-- in the loop: the bin is one of at most 128, and its span one of bytes
few : (k : After-span_of-s) → k.loop-b.b < 128
few k = lt_of_lt_of_le k.loop-b-test.true (size_high (three k.requires.0))

byte : (k : After-span_of-s) → SpanBelow 255 k.span_of-s.result
byte k =
    rw k.span_of-s.ensures
    (byte_span (in_size (three k.requires.0) k.loop-b.b k.loop-b-test.true))

pub pack-requires : goal.pack-requires
pack-requires c = wider (lit≤ tt) (byte c)

pub squared-requires : goal.squared-requires
squared-requires c = byte (goal.at-squared-requires c).After-span_of-s

pub pack-requires-in-loop-b : goal.pack-requires-in-loop-b
pack-requires-in-loop-b c = rw c.squared.ensures (wider (lit≤ tt) (squares_below (byte (goal.at-pack-requires-in-loop-b c).After-span_of-s)))

pub overflow_mul-at : goal.overflow_mul-at
overflow_mul-at c = omega (arith, few c)

pub offset_bounds-spans-at : goal.offset_bounds-spans-at
offset_bounds-spans-at c = omega (arith, few (goal.at-offset_bounds-spans-at c).After-span_of-s)

pub bounds-spans-at : goal.bounds-spans-at
bounds-spans-at c = omega (arith, few (goal.at-bounds-spans-at c).After-span_of-s)

pub overflow_add-spans : goal.overflow_add-spans
overflow_add-spans c = omega (arith, few (goal.at-overflow_add-spans c).After-span_of-s)

pub offset_bounds-spans-at-in-loop-b : goal.offset_bounds-spans-at-in-loop-b
offset_bounds-spans-at-in-loop-b c = omega (arith, few (goal.at-offset_bounds-spans-at-in-loop-b c).After-span_of-s)

pub bounds-spans-at-in-loop-b : goal.bounds-spans-at-in-loop-b
bounds-spans-at-in-loop-b c = omega (arith, few (goal.at-bounds-spans-at-in-loop-b c).After-span_of-s)

pub loop-b-preserved : goal.loop-b-preserved
loop-b-preserved c =
    let k = (goal.at-loop-b-preserved c).After-span_of-s in
    spans_more k.loop-b.invariant (few k) (c.pack.ensures ∙ ap packed_span k.span_of-s.ensures)
    (c.pack-in-loop-b.ensures ∙ ap packed_span (c.squared.ensures ∙ ap squared_span k.span_of-s.ensures))

pub returns : goal.returns
returns c =
    let all : c.loop-b.b ≡ c.args.g.size3 = omega arith in
    spans_all (rw all at c.loop-b.invariant)
