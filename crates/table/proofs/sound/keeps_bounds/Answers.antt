-- `table::sound::keeps_bounds` meets its contract: an empty bin, a weight past the limit, and each bound by itself.
-- Assumes nothing.
-- ---- on entry: the bin's spans, its bounds by them, and what is told of them
use Rattle.std.proofs.Common.{◌≡◌, ◌*◌, ◌<◌, Bool, true, ◌&&◌, leb, get_or, sym, ap, ◌∙◌, lt_of_lt_of_le, arith}
use Rattle.grid.specs.declared.dimension.Span.{Span}
use Rattle.grid.specs.Size.{span_of}
use Rattle.basics.specs.Dimension.{choose}
use Rattle.basics.proofs.Range.{and_first, and_stop}
use Rattle.grid.proofs.Size.{size_high}
use Rattle.grid.proofs.Places.{three}
use Rattle.table.specs.Cell.{number_of}
use Rattle.table.specs.Sound.{limit, between, in_bounds}
use Rattle.table.specs.Spans.{told_span, spans_of, row_spans, SpanTable}
use Rattle.table.proofs.Soundness.{heavy_cell, empty_cell, light_cell}
use Rattle.table.proofs.Packed.{chosen_bounds, first_below, second_below, third_below, first_is, second_is}
use Rattle.table.proofs.Packed.{third_is, squares_fit, squares_are, squares_under}
use Rattle.table.proofs.sound.keeps_bounds.Goals.{After-lies_between, After-lies_between-2, After-lies_between-3, Else-not-lies_between, Else-not-lies_between-2, Start}
use Rattle.table.proofs.sound.keeps_bounds.Goals as goal

abbrev one : Start → Span
one s = span_of s.args.spans.now.g.shift1 s.args.r

abbrev two : Start → Span
two s = span_of s.args.spans.now.g.shift2 s.args.gr

abbrev third : Start → Span
third s = span_of s.args.spans.now.g.shift3 s.args.b

told : (s : Start)
    → (leb s.args.c.weight limit && in_bounds (λ d. choose d (one s) (two s) (third s)) (number_of s.args.c))
    ≡ (leb s.args.c.weight limit
    && in_bounds (spans_of s.args.spans.now.g s.args.r s.args.gr s.args.b) (number_of s.args.c))
told s =
    ap (λ (x : Bool). leb s.args.c.weight limit && x)
    (chosen_bounds s.args.spans.now.g s.args.r s.args.gr s.args.b (number_of s.args.c))

same_row : (s : Start) → s.args.row ≡ row_spans s.args.spans.now.g s.args.r s.args.gr
same_row s = s.requires.row

span_table : (s : Start) → SpanTable s.args.spans.now.g s.args.spans.now.third
span_table s = s.args.spans.now.filled

third_told : (s : Start) → told_span (get_or s.args.spans.now.third (2 * s.args.b) 0) ≡ third s
third_told s = third_is s.requires.inside (same_row s) (span_table s)

few : (s : Start) → s.args.b < 128
few s = lt_of_lt_of_le s.requires.inside.three (size_high (three s.requires.inside.accepted))

pub returns-then-n-eq0 : goal.returns-then-n-eq0
returns-then-n-eq0 c =
    let s = (goal.at-returns-then-n-eq0 c).Start in
    c.is_bare.ensures ∙ sym (empty_cell (one s) (two s) (third s) s.args.c c.if-n-eq0.true) ∙ told s

pub returns-then-n-gt-LIMIT : goal.returns-then-n-gt-LIMIT
returns-then-n-gt-LIMIT c =
    let s = (goal.at-returns-then-n-gt-LIMIT c).Start in sym (heavy_cell (one s) (two s) (third s) s.args.c c.if-n-gt-LIMIT.true) ∙ told s

pub lies_between-requires : goal.lies_between-requires
lies_between-requires c =
    let s = (goal.at-lies_between-requires c).Start in (rw (first_is s.requires.inside (same_row s)) (first_below s.requires.inside), omega arith)

-- ---- each bound, once it is tested
abbrev of_first : After-lies_between → Start
of_first k = (goal.at-After-lies_between k).Start

first_tested : (k : After-lies_between) → let s = of_first k in
    k.lies_between.result ≡ between (one s) s.args.c.weight s.args.c.sum1
first_tested k =
    let s = of_first k in
    k.lies_between.ensures
    ∙ ap (λ (x : Span). between x s.args.c.weight s.args.c.sum1) (first_is s.requires.inside (same_row s))

pub returns-then-not-lies_between : goal.returns-then-not-lies_between
returns-then-not-lies_between c =
    let s = of_first (goal.at-returns-then-not-lies_between c).After-lies_between in
    sym
    (light_cell (one s) (two s) (third s) s.args.c (omega arith)
    ∙ and_stop _ (sym (first_tested (goal.at-returns-then-not-lies_between c).After-lies_between) ∙ c.if-not-lies_between.true))
    ∙ told s

-- after the first
first_passed : (k : Else-not-lies_between) → let s = of_first (goal.at-Else-not-lies_between k).After-lies_between in
    between (one s) s.args.c.weight s.args.c.sum1 ≡ true
first_passed k = sym (first_tested (goal.at-Else-not-lies_between k).After-lies_between) ∙ k.if-not-lies_between.false

pub lies_between-requires-2 : goal.lies_between-requires-2
lies_between-requires-2 c =
    let s = of_first (goal.at-lies_between-requires-2 c).After-lies_between in (rw (second_is s.requires.inside (same_row s)) (second_below s.requires.inside), omega arith)

abbrev of_second : After-lies_between-2 → Start
of_second k = of_first (goal.at-After-lies_between-2 k).After-lies_between

second_tested : (k : After-lies_between-2) → let s = of_second k in
    k.lies_between-2.result ≡ between (two s) s.args.c.weight s.args.c.sum2
second_tested k =
    let s = of_second k in
    k.lies_between-2.ensures
    ∙ ap (λ (x : Span). between x s.args.c.weight s.args.c.sum2) (second_is s.requires.inside (same_row s))

pub returns-then-not-lies_between-2 : goal.returns-then-not-lies_between-2
returns-then-not-lies_between-2 c =
    let s = of_second (goal.at-returns-then-not-lies_between-2 c).After-lies_between-2 in
    sym
    (light_cell (one s) (two s) (third s) s.args.c (omega arith)
    ∙ and_first _ (first_passed (goal.at-returns-then-not-lies_between-2 c).Else-not-lies_between)
    ∙ and_stop _ (sym (second_tested (goal.at-returns-then-not-lies_between-2 c).After-lies_between-2) ∙ c.if-not-lies_between-2.true))
    ∙ told s

-- after the second
second_passed : (k : Else-not-lies_between-2) → let s = of_second (goal.at-Else-not-lies_between-2 k).After-lies_between-2 in
    between (two s) s.args.c.weight s.args.c.sum2 ≡ true
second_passed k = sym (second_tested (goal.at-Else-not-lies_between-2 k).After-lies_between-2) ∙ k.if-not-lies_between-2.false

pub overflow_mul-at : goal.overflow_mul-at
overflow_mul-at c = omega (arith, few (of_second (goal.at-overflow_mul-at c).After-lies_between-2))

pub offset_bounds-spans-at : goal.offset_bounds-spans-at
offset_bounds-spans-at c = omega (arith, few (of_second (goal.at-offset_bounds-spans-at c).After-lies_between-2))

pub bounds-spans-at : goal.bounds-spans-at
bounds-spans-at c = omega (arith, few (of_second (goal.at-bounds-spans-at c).After-lies_between-2))

pub lies_between-requires-3 : goal.lies_between-requires-3
lies_between-requires-3 c =
    let s = of_second (goal.at-lies_between-requires-3 c).After-lies_between-2 in (rw (third_told s) (third_below s.requires.inside), omega arith)

abbrev of_third : After-lies_between-3 → Start
of_third k = of_second (goal.at-After-lies_between-3 k).After-lies_between-2

third_tested : (k : After-lies_between-3) → let s = of_third k in
    k.lies_between-3.result ≡ between (third s) s.args.c.weight s.args.c.sum3
third_tested k =
    let s = of_third k in
    k.lies_between-3.ensures ∙ ap (λ (x : Span). between x s.args.c.weight s.args.c.sum3) (third_told s)

pub returns-then-not-lies_between-3 : goal.returns-then-not-lies_between-3
returns-then-not-lies_between-3 c =
    let s = of_third (goal.at-returns-then-not-lies_between-3 c).After-lies_between-3 in
    sym
    (light_cell (one s) (two s) (third s) s.args.c (omega arith)
    ∙ and_first _ (first_passed (goal.at-returns-then-not-lies_between-3 c).Else-not-lies_between)
    ∙ and_first _ (second_passed (goal.at-returns-then-not-lies_between-3 c).Else-not-lies_between-2)
    ∙ and_stop _ (sym (third_tested (goal.at-returns-then-not-lies_between-3 c).After-lies_between-3) ∙ c.if-not-lies_between-3.true))
    ∙ told s

-- after the third
pub overflow_add-at : goal.overflow_add-at
overflow_add-at c = omega (arith, few (of_third (goal.at-overflow_add-at c).After-lies_between-3))

pub offset_bounds-spans-at-2 : goal.offset_bounds-spans-at-2
offset_bounds-spans-at-2 c = omega (arith, few (of_third (goal.at-offset_bounds-spans-at-2 c).After-lies_between-3))

pub bounds-spans-at-2 : goal.bounds-spans-at-2
bounds-spans-at-2 c = omega (arith, few (of_third (goal.at-bounds-spans-at-2 c).After-lies_between-3))

pub overflow_add-row : goal.overflow_add-row
overflow_add-row c =
    let s = of_third (goal.at-overflow_add-row c).After-lies_between-3 in omega (arith, squares_fit s.requires.inside (same_row s) (span_table s))

pub lies_far_between-requires : goal.lies_far_between-requires
lies_far_between-requires c =
    let s = of_third (goal.at-lies_far_between-requires c).After-lies_between-3 in (squares_under s.requires.inside (same_row s) (span_table s), omega arith)

pub returns : goal.returns
returns c =
    let k = (goal.at-returns c).After-lies_between-3 in
    let s = of_third k in
    c.lies_far_between.ensures
    ∙ ap (λ (x : Span). between x s.args.c.weight s.args.c.squares)
    (squares_are s.requires.inside (same_row s) (span_table s))
    ∙ sym
    (light_cell (one s) (two s) (third s) s.args.c
    (omega (arith, k.if-n-gt-LIMIT.false))
    ∙ and_first _ (first_passed (goal.at-After-lies_between-3 k).Else-not-lies_between)
    ∙ and_first _ (second_passed (goal.at-After-lies_between-3 k).Else-not-lies_between-2)
    ∙ and_first _ (sym (third_tested k) ∙ c.if-not-lies_between-3.false))
    ∙ told s
