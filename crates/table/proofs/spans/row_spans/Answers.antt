-- `table::spans::row_spans` meets its contract: the spans are of bytes, and two packed spans add up.
-- Assumes nothing.
use Rattle.std.proofs.Common.{◌≡◌, ◌+◌, ap, ◌∙◌, arith, lit<, lit≤}
use Rattle.grid.proofs.Size.{in_size}
use Rattle.grid.proofs.Places.{one, two}
use Rattle.table.specs.Sound.{squared_span, plus_span, SpanBelow}
use Rattle.table.specs.Spans.{packed_span, row_spans}
use Rattle.table.proofs.Packed.{first_below, second_below, wider, squares_below, plus_below, pack_plus, pack_fits}
use Rattle.table.proofs.spans.row_spans.Goals.{After-pack-4, After-span_of-s2}
use Rattle.table.proofs.spans.row_spans.Goals as goal

pub span_of-s1-requires : goal.span_of-s1-requires
span_of-s1-requires c = in_size (one c.requires.accepted) c.args.r c.requires.one

pub span_of-s2-requires : goal.span_of-s2-requires
span_of-s2-requires c = let s = c in in_size (two s.requires.accepted) s.args.gr s.requires.two

-- the two spans, once they are known
first_byte : (k : After-span_of-s2) → SpanBelow 255 k.span_of-s1.result
first_byte k = rw k.span_of-s1.ensures (first_below k.requires)

second_byte : (k : After-span_of-s2) → SpanBelow 255 k.span_of-s2.result
second_byte k = rw k.span_of-s2.ensures (second_below k.requires)

pub pack-requires : goal.pack-requires
pack-requires c = wider (lit≤ tt) (first_byte c)

pub pack-requires-2 : goal.pack-requires-2
pack-requires-2 c = wider (lit≤ tt) (second_byte (goal.at-pack-requires-2 c).After-span_of-s2)

pub squared-requires : goal.squared-requires
squared-requires c = first_byte (goal.at-squared-requires c).After-span_of-s2

pub pack-requires-3 : goal.pack-requires-3
pack-requires-3 c =
    rw c.squared.ensures (wider (lit≤ tt) (squares_below (first_byte (goal.at-pack-requires-3 c).After-span_of-s2)))

pub squared-requires-2 : goal.squared-requires-2
squared-requires-2 c = second_byte (goal.at-squared-requires-2 c).After-span_of-s2

pub pack-requires-4 : goal.pack-requires-4
pack-requires-4 c =
    rw c.squared-2.ensures (wider (lit≤ tt) (squares_below (second_byte (goal.at-pack-requires-4 c).After-span_of-s2)))

-- the squares of both, added
added : (k : After-pack-4)
    → let s = k in
    k.pack-3.result + k.pack-4.result
    ≡ packed_span (plus_span (squared_span s.span_of-s1.result) (squared_span s.span_of-s2.result))
added k =
    let s = (goal.at-After-pack-4 k).After-span_of-s2 in
    (λ i. (k.pack-3.ensures ∙ ap packed_span k.squared.ensures) i
    + (k.pack-4.ensures ∙ ap packed_span k.squared-2.ensures) i)
    ∙ pack_plus (squares_below (first_byte s)) (squares_below (second_byte s))

pub overflow_add-result : goal.overflow_add-result
overflow_add-result c =
    let s = (goal.at-overflow_add-result c).After-span_of-s2 in
    omega (arith, added c, pack_fits (plus_below (squares_below (first_byte s)) (squares_below (second_byte s))) (lit< tt))

pub returns : goal.returns
unfolding row_spans
returns c =
    let s = c in
    let e1 = s.span_of-s1.ensures in
    let e2 = s.span_of-s2.ensures in
    λ i. record {
      one = (c.pack.ensures ∙ ap packed_span e1) i;
      two = (c.pack-2.ensures ∙ ap packed_span e2) i;
      squares = (added c ∙ (λ j. packed_span (plus_span (squared_span (e1 j)) (squared_span (e2 j))))) i;
    }
