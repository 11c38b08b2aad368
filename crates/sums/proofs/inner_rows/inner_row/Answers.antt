-- `sums::inner_rows::inner_row` meets its contract: after b bins of the row their moments stand, and the line is the sum along
-- them.
-- Assumes nothing.
use Rattle.std.proofs.Common.{◌≡◌, ℕ, ◌+◌, sym, ap, ◌∙◌, add-zero, add_assoc, arith}
use Rattle.grid.specs.Grid.{place_of, Inside}
use Rattle.grid.proofs.Places.{place_along, three, place_lt, bins_high}
use Rattle.grid.proofs.Size.{size_high}
use Rattle.table.specs.Layout.{laid_view}
use Rattle.sums.proofs.Steps.{line_start, before_same, row_ready, one_on}
use Rattle.sums.proofs.inner_rows.inner_row.Given.{Over}
use Rattle.sums.proofs.inner_rows.inner_row.Goals.{In-loop-b}
use Rattle.sums.proofs.inner_rows.inner_row.Goals as goal

pub loop-b-init : goal.loop-b-init
loop-b-init g c = (
  line_start c.args.g (laid_view g.L.Layout.layout c.args.small.now c.args.large.now) c.args.r c.args.gr,
  before_same c.requires.ready.before (sym (add-zero _)),
)

pub overflow_add-start : goal.overflow_add-start
overflow_add-start g c =
    let i = c.requires.ready.inside in
    omega (
      arith,
      c.place-start.ensures,
      place_lt i,
      bins_high i.accepted,
      size_high (three i.accepted),
      c.loop-b-test.true,
    )

-- the next bin of the row
inside : (g : Over) (k : In-loop-b g) → Inside k.args.g k.args.r k.args.gr k.loop-b.b
inside g k =
    let i = k.requires.ready.inside in
    record { accepted = i.accepted; one = i.one; two = i.two; three = k.loop-b-test.true }

pub inner_bin-line-requires-clause-ready : goal.inner_bin-line-requires-clause-ready
inner_bin-line-requires-clause-ready g c =
    row_ready (inside g (goal.at-inner_bin-line-requires-clause-ready g c).In-loop-b) c.loop-b.invariant.1

pub inner_bin-line-requires-clause-r_nonzero : goal.inner_bin-line-requires-clause-r_nonzero
inner_bin-line-requires-clause-r_nonzero g c =
    let h = c.requires.r_nonzero in
    let b = c.loop-b.b in
    (h.0, h.1, ap (λ (n : ℕ). n + b) c.place-start.ensures ∙ place_along c.args.g c.args.r c.args.gr b)

pub loop-b-preserved : goal.loop-b-preserved
loop-b-preserved g c =
    let l = c.loop-b in
    let ready = row_ready (inside g (goal.at-loop-b-preserved g c).In-loop-b) l.invariant.1 in (
      c.inner_bin-line.ensures.sums,
      before_same (one_on ready c.inner_bin-line.ensures.later)
          (ap (λ (n : ℕ). n + 1) (sym (place_along c.args.g c.args.r c.args.gr l.b)) ∙ add_assoc _ l.b 1),
    )

pub returns : goal.returns
returns g c =
    let l = c.loop-b in
    let a = c.args in
    let all : l.b ≡ a.g.size3 = omega arith in
    before_same l.invariant.1 (ap (λ (n : ℕ). place_of a.g a.r a.gr 0 + n) all)
