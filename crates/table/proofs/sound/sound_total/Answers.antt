-- `table::sound::sound_total` meets its contract: after each plane the total is that of the planes so far.
-- Assumes nothing.
use Rattle.std.specs.Prelude.{None, Some}
use Rattle.std.proofs.Common.{◌≡◌, ℕ, ◌*◌, sym, ap, ◌∙◌, mul_assoc, zero-mul, arith}
use Rattle.grid.specs.declared.place.Grid.{Grid}
use Rattle.grid.specs.Grid.{bins_of}
use Rattle.grid.proofs.Places.{two, three, plane_start}
use Rattle.grid.proofs.Size.{size_low}
use Rattle.table.specs.Inner.{scanned}
use Rattle.table.specs.Sound.{limit_of, sound_total}
use Rattle.table.specs.Cell.{View}
use Rattle.table.specs.Layout.{laid_view}
use Rattle.table.proofs.Scans.{scan_none, scan_under, scan_all, block_more, block_stop}
use Rattle.table.proofs.sound.sound_total.Goals as goal

-- all bins are the planes' bins
whole : (most : ℕ) (g : Grid) (v : View)
    → sound_total most g v ≡ scanned most g v 0 (g.size1 * (g.size2 * g.size3)) 0
unfolding bins_of
whole most g v = scan_all most g v ∙ ap (λ (n : ℕ). scanned most g v 0 n 0) (mul_assoc g.size1 g.size2 g.size3)

pub loop-r-init : goal.loop-r-init
loop-r-init g c =
    let most = limit_of g.L.Layout.layout in
    let grid = c.args.g in
    let v = laid_view g.L.Layout.layout c.args.small.now c.args.large.now in
    ap (λ (n : ℕ). scanned most grid v 0 n 0) (zero-mul (grid.size2 * grid.size3)) ∙ scan_none most grid v 0 0 (omega arith)

pub plane_total-requires : goal.plane_total-requires
plane_total-requires g c =
    let a = c.requires.accepted in
    let v = laid_view g.L.Layout.layout c.args.small.now c.args.large.now in
    rw c.of-spans.ensures.grid (record {
      table = c.requires;
      inside =
          record {
            accepted = a;
            one = c.loop-r-test.true;
            two = omega (arith, size_low (two a));
            three = omega (arith, size_low (three a));
          };
      under = scan_under (limit_of g.L.Layout.layout) c.args.g v _ _ _ c.loop-r.total c.loop-r.invariant;
    })

pub returns-in_err-total : goal.returns-in_err-total
returns-in_err-total g c =
    let l = c.loop-r in
    let most = limit_of g.L.Layout.layout in
    let grid = c.args.g in
    let v = laid_view g.L.Layout.layout c.args.small.now c.args.large.now in
    let plane = grid.size2 * grid.size3 in
    c.from_residual.ensures
    ∙ sym (whole most grid v
    ∙ block_stop most grid v 0 plane l.r grid.size1 0 c.loop-r-test.true
    (block_more most grid v 0 plane l.r 0 l.total None l.invariant (plane_start grid l.r)
    (rw c.of-spans.ensures.grid at c.in_err-total.ensures)))

pub loop-r-preserved : goal.loop-r-preserved
loop-r-preserved g c =
    let l = c.loop-r in
    let grid = c.args.g in
    let v = laid_view g.L.Layout.layout c.args.small.now c.args.large.now in
    block_more (limit_of g.L.Layout.layout) grid v 0 (grid.size2 * grid.size3) l.r 0 l.total
    (Some c.in_ok-total.total) l.invariant (plane_start grid l.r)
    (rw c.of-spans.ensures.grid at c.in_ok-total.ensures)

pub returns : goal.returns
returns g c =
    let l = c.loop-r in
    let most = limit_of g.L.Layout.layout in
    let grid = c.args.g in
    let v = laid_view g.L.Layout.layout c.args.small.now c.args.large.now in
    let all : l.r ≡ grid.size1 = omega arith in
    sym
    (whole most grid v
    ∙ ap (λ (n : ℕ). scanned most grid v 0 (n * (grid.size2 * grid.size3)) 0) (sym all) ∙ l.invariant)
