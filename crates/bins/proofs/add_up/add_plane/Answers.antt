-- `bins::add_up::add_plane` meets its contract: after each row the sum is that of the rows so far.
-- Assumes nothing.
use Rattle.std.proofs.Common.{◌≡◌, ℕ, ◌+◌, ◌-◌, refl, ap, ◌∙◌, le_of_lt, arith}
use Rattle.table.specs.Cell.{cell_of}
use Rattle.table.specs.Layout.{laid_view}
use Rattle.boxes.proofs.Within.{sides}
use Rattle.bins.specs.Inner.{row_sum, plane_sum}
use Rattle.bins.proofs.Rows.{none_added, next_fits, next_added, rows_small}
use Rattle.bins.proofs.add_up.add_plane.Given.{Over}
use Rattle.bins.proofs.add_up.add_plane.Goals.{Start}
use Rattle.bins.proofs.add_up.add_plane.Goals as goal

-- the numbers of a row
abbrev row : (g : Over) → Start g → ℕ → ℕ → ℕ
row g s gr j =
    row_sum s.args.g (laid_view g.L.Layout.layout s.args.small.now s.args.large.now) s.args.r gr s.args.x.b0
    (s.args.x.b1 - s.args.x.b0) j

pub loop-gr-init : goal.loop-gr-init
unfolding plane_sum
loop-gr-init g c = none_added (row g (goal.at-loop-gr-init g c).Start) c.args.x.g0 refl

pub add_row-requires : goal.add_row-requires
add_row-requires g c = record { in_plane = c.requires; from = omega arith; before = c.loop-gr-test.true }

pub plus-sum-requires : goal.plus-sum-requires
unfolding plane_sum
plus-sum-requires g c =
    let l = c.loop-gr in
    next_fits (row g (goal.at-plus-sum-requires g c).Start) c.args.x.g0 (omega arith) l.invariant c.add_row.ensures
    (rows_small c.requires (l.gr + 1) (omega (arith, c.loop-gr-test.true)))

pub loop-gr-preserved : goal.loop-gr-preserved
unfolding plane_sum
loop-gr-preserved g c =
    let l = c.loop-gr in
    next_added (row g (goal.at-loop-gr-preserved g c).Start) c.args.x.g0 (omega arith) l.invariant c.add_row.ensures
    c.plus-sum.ensures

pub returns : goal.returns
returns g c =
    let l = c.loop-gr in
    let all : l.gr ≡ c.args.x.g1 = omega (arith, le_of_lt (sides c.requires.can_add.within).two) in
    l.invariant
    ∙ ap (λ (e : ℕ). cell_of (plane_sum c.args.g (laid_view g.L.Layout.layout c.args.small.now c.args.large.now) c.args.x
    c.args.r c.args.x.g0 (e - c.args.x.g0))) all
