-- `sums::moments::next_plane` meets its contract: after each row the moments of the rows so far stand.
-- Assumes nothing.
use Rattle.std.proofs.Common.{◌≡◌, ℕ, ◌+◌, ◌*◌, sym, ap, ◌∙◌, add-zero, zero-mul, add_assoc, arith}
use Rattle.grid.specs.Grid.{place_of}
use Rattle.grid.proofs.Places.{row_start}
use Rattle.sums.proofs.Steps.{before_same, add_one_mul}
use Rattle.sums.proofs.moments.next_plane.Goals as goal

pub loop-gr-init : goal.loop-gr-init
loop-gr-init g c =
    let first = place_of c.args.g c.args.r 0 0 in
    before_same c.requires.before (sym (ap (λ (n : ℕ). first + n) (zero-mul c.args.g.size3) ∙ add-zero _))

pub next_row-requires : goal.next_row-requires
next_row-requires g c =
    let i = c.requires.inside in record {
      inside = record { accepted = i.accepted; one = i.one; two = c.loop-gr-test.true; three = i.three };
      before = before_same c.loop-gr.invariant (sym (row_start c.args.g c.args.r c.loop-gr.gr));
    }

pub loop-gr-preserved : goal.loop-gr-preserved
loop-gr-preserved g c =
    let gr = c.loop-gr.gr in
    let grid = c.args.g in
    let r = c.args.r in
    before_same c.next_row.ensures
    (ap (λ (n : ℕ). n + grid.size3) (row_start grid r gr)
    ∙ add_assoc _ (gr * grid.size3) grid.size3
    ∙ ap (λ (n : ℕ). place_of grid r 0 0 + n) (sym (add_one_mul gr grid.size3)))

pub returns : goal.returns
returns g c =
    let l = c.loop-gr in
    let grid = c.args.g in
    let all : l.gr ≡ grid.size2 = omega arith in
    before_same l.invariant (ap (λ (n : ℕ). place_of grid c.args.r 0 0 + n * grid.size3) all)
