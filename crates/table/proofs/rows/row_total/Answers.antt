-- `table::rows::row_total` meets its contract: after b bins all of them are in bounds and the total is that of their
-- weights.
-- Assumes nothing.
use Rattle.std.specs.Prelude.{Some}
use Rattle.std.proofs.Common.{◌≡◌, ℕ, ◌+◌, ◌<◌, ◌≤◌, Bool, true, ◌&&◌, leb, sym, refl, ap, ◌∙◌, lt_of_lt_of_le, add-zero, add_assoc, arith, leb-true}
use Rattle.basics.specs.Range.{sum_from, all_from}
use Rattle.grid.proofs.Size.{size_high}
use Rattle.basics.proofs.Range.{sum_last, all_last, and_left, and_right}
use Rattle.grid.proofs.Places.{bins_high, three}
use Rattle.table.specs.declared.cell.Cell.{Cell}
use Rattle.table.specs.Inner.{scanned}
use Rattle.table.specs.Sound.{limit, limit_of, bin_sound}
use Rattle.table.specs.Layout.{laid_view}
use Rattle.table.specs.Cell.{cell_of, View}
use Rattle.table.proofs.Scans.{inside, row_place, row_cell, row_bin}
use Rattle.table.proofs.Scans.{scan_worse, scan_over, scan_total}
use Rattle.table.proofs.Soundness.{limit_high}
use Rattle.table.proofs.rows.row_total.Given.{Over}
use Rattle.table.proofs.rows.row_total.Goals.{After-keeps_bounds, Else-not-keeps_bounds}
use Rattle.table.proofs.rows.row_total.Goals as goal

pub loop-b-init : goal.loop-b-init
unfolding sum_from all_from
loop-b-init g c = (sym (add-zero _), refl, omega (arith, c.requires.under, limit_high g.L.Layout.layout))

pub overflow_add-start : goal.overflow_add-start
overflow_add-start g c =
    omega (
      arith,
      row_place c.requires c.loop-b.b c.loop-b-test.true c.place-start.ensures,
      bins_high c.requires.table.accepted,
    )

pub cell-c-requires : goal.cell-c-requires
cell-c-requires g c = row_cell c.requires c.loop-b.b c.loop-b-test.true c.place-start.ensures

pub keeps_bounds-requires-clause-inside : goal.keeps_bounds-requires-clause-inside
keeps_bounds-requires-clause-inside g c = inside c.requires c.loop-b.b c.loop-b-test.true

-- the bin at hand, once it is tested
abbrev view : (g : Over) → After-keeps_bounds g → View
view g k = laid_view g.L.Layout.layout k.args.small.now k.args.large.now

abbrev here : (g : Over) → After-keeps_bounds g → ℕ
here g k = k.place-start.result + k.loop-b.b

tested : (g : Over) (k : After-keeps_bounds g)
    → (leb (view g k (here g k) 0) limit && bin_sound k.args.spans.now.g (view g k) (here g k)) ≡ k.keeps_bounds.result
tested g k =
    row_bin k.requires (view g k) k.loop-b.b k.loop-b-test.true k.place-start.ensures k.cell-c.ensures k.keeps_bounds.ensures

weighs : (g : Over) (k : After-keeps_bounds g) → k.cell-c.result.weight ≡ view g k (here g k) 0
unfolding cell_of
weighs g k = ap (λ (x : Cell). x.weight) k.cell-c.ensures

-- what holds of it where it passed
record Passed (g : Over) (k : After-keeps_bounds g) : Type 0 where
  bounds : bin_sound k.args.spans.now.g (view g k) (here g k) ≡ true
  light : k.cell-c.result.weight ≤ limit
  room : k.loop-b.b < 128

passed : (g : Over) (k : After-keeps_bounds g) → k.keeps_bounds.result ≡ true → Passed g k
passed g k e =
    let within : Bool = leb (view g k (here g k) 0) limit in
    let kept : Bool = bin_sound k.args.spans.now.g (view g k) (here g k) in
    record {
      bounds = and_right within kept (tested g k ∙ e);
      light = rw (weighs g k) (leb-true (view g k (here g k) 0) limit (and_left within kept (tested g k ∙ e)));
      room = lt_of_lt_of_le k.loop-b-test.true (size_high (three k.requires.table.accepted));
    }

pub returns-then-not-keeps_bounds : goal.returns-then-not-keeps_bounds
returns-then-not-keeps_bounds g c =
    let k = (goal.at-returns-then-not-keeps_bounds g c).After-keeps_bounds in
    let l = g.L.Layout.layout in
    let grid = c.args.spans.now.g in
    rw (← c.place-start.ensures)
    (sym
    (scan_worse (limit_of l) grid (view g k) (limit_high l) c.place-start.result grid.size3 c.args.had
    (here g k) (omega arith) (omega (arith, c.loop-b-test.true)) (tested g k ∙ c.if-not-keeps_bounds.true)))

pub overflow_add-total : goal.overflow_add-total
overflow_add-total g c =
    let f = passed g (goal.at-overflow_add-total g c).After-keeps_bounds c.if-not-keeps_bounds.false in
    omega (arith, f.light, f.room, c.loop-b.invariant.2)

pub loop-b-preserved : goal.loop-b-preserved
loop-b-preserved g c =
    let k = (goal.at-loop-b-preserved g c).After-keeps_bounds in
    let l = c.loop-b in
    let f = passed g k c.if-not-keeps_bounds.false in (
      (λ i. l.invariant.0 i + weighs g k i) ∙ add_assoc _ _ _
          ∙ ap (λ (n : ℕ). c.args.had + n) (sym (sum_last _ l.b _)),
      all_last _ l.b _ ∙ (λ i. l.invariant.1 i && f.bounds i),
      omega (arith, f.light, l.invariant.2),
    )

pub returns-then-limit-total : goal.returns-then-limit-total
returns-then-limit-total g c =
    let l = c.loop-b in
    let most = limit_of g.L.Layout.layout in
    let grid = c.args.spans.now.g in
    let v = laid_view g.L.Layout.layout c.args.small.now c.args.large.now in
    let from = c.place-start.result in
    let all : l.b ≡ grid.size3 = omega arith in
    rw (← c.place-start.ensures)
    (sym (scan_over most grid v from l.b c.args.had (omega (arith, l.invariant.0, c.limit.ensures, c.if-limit-total.true)))
    ∙ ap (λ (n : ℕ). scanned most grid v from n c.args.had) all)

pub returns : goal.returns
returns g c =
    let l = c.loop-b in
    let most = limit_of g.L.Layout.layout in
    let grid = c.args.spans.now.g in
    let v = laid_view g.L.Layout.layout c.args.small.now c.args.large.now in
    let from = c.place-start.result in
    let all : l.b ≡ grid.size3 = omega arith in
    rw (← c.place-start.ensures)
    (ap Some l.invariant.0
    ∙ sym (scan_total most grid v from l.b c.args.had l.invariant.1
    (omega (arith, l.invariant.0, c.limit.ensures, c.if-limit-total.false)))
    ∙ ap (λ (n : ℕ). scanned most grid v from n c.args.had) all)
