-- `table::sound::plane_total` meets its contract: after each row the total is that of the rows so far.
-- Assumes nothing.
use Rattle.std.specs.Prelude.{None, Some}
use Rattle.std.proofs.Common.{◌≡◌, ℕ, ◌*◌, sym, ap, ◌∙◌, zero-mul, arith}
use Rattle.grid.specs.Grid.{place_of}
use Rattle.grid.proofs.Places.{row_start}
use Rattle.table.specs.Inner.{scanned}
use Rattle.table.specs.Sound.{limit_of}
use Rattle.table.specs.Layout.{laid_view}
use Rattle.table.proofs.Scans.{scan_none, scan_under, block_more, block_stop}
use Rattle.table.proofs.sound.plane_total.Goals as goal

pub loop-gr-init : goal.loop-gr-init
loop-gr-init g c =
    let most = limit_of g.L.Layout.layout in
    let grid = c.args.spans.now.g in
    let v = laid_view g.L.Layout.layout c.args.small.now c.args.large.now in
    ap (λ (n : ℕ). scanned most grid v (place_of grid c.args.r 0 0) n c.args.had) (zero-mul grid.size3)
    ∙ scan_none most grid v _ c.args.had c.requires.under

pub row_total-requires : goal.row_total-requires
row_total-requires g c =
    let most = limit_of g.L.Layout.layout in
    let v = laid_view g.L.Layout.layout c.args.small.now c.args.large.now in
    let had = c.requires in record {
      table = had.table;
      inside = record { accepted = had.table.accepted; one = had.inside.one; two = c.loop-gr-test.true; three = had.inside.three };
      under = scan_under most c.args.spans.now.g v _ _ _ c.loop-gr.total c.loop-gr.invariant;
    }

pub returns-in_err-total : goal.returns-in_err-total
returns-in_err-total g c =
    let l = c.loop-gr in
    let most = limit_of g.L.Layout.layout in
    let grid = c.args.spans.now.g in
    let v = laid_view g.L.Layout.layout c.args.small.now c.args.large.now in
    c.from_residual.ensures
    ∙ sym (block_stop most grid v (place_of grid c.args.r 0 0) grid.size3 l.gr grid.size2 c.args.had
    c.loop-gr-test.true
    (block_more most grid v (place_of grid c.args.r 0 0) grid.size3 l.gr c.args.had l.total None l.invariant
    (row_start grid c.args.r l.gr) c.in_err-total.ensures))

pub loop-gr-preserved : goal.loop-gr-preserved
loop-gr-preserved g c =
    let l = c.loop-gr in
    let grid = c.args.spans.now.g in
    let v = laid_view g.L.Layout.layout c.args.small.now c.args.large.now in
    block_more (limit_of g.L.Layout.layout) grid v (place_of grid c.args.r 0 0) grid.size3 l.gr c.args.had l.total
    (Some c.in_ok-total.total) l.invariant (row_start grid c.args.r l.gr) c.in_ok-total.ensures

pub returns : goal.returns
returns g c =
    let l = c.loop-gr in
    let most = limit_of g.L.Layout.layout in
    let grid = c.args.spans.now.g in
    let v = laid_view g.L.Layout.layout c.args.small.now c.args.large.now in
    let all : l.gr ≡ grid.size2 = omega arith in
    sym l.invariant ∙ ap (λ (n : ℕ). scanned most grid v (place_of grid c.args.r 0 0) (n * grid.size3) c.args.had) all
