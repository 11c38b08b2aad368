-- `bins::add_up::add_up` meets its contract: after each plane the sum is that of the planes so far.
-- Assumes nothing.
use Rattle.std.proofs.Common.{◌≡◌, ℕ, ◌+◌, ◌-◌, refl, ap, ◌∙◌, le_of_lt, arith}
use Rattle.table.specs.Cell.{cell_of}
use Rattle.table.specs.Layout.{laid_view}
use Rattle.boxes.proofs.Within.{sides}
use Rattle.bins.specs.Sum.{sum3, bin_sum, box_sum, box_cell}
use Rattle.bins.specs.Inner.{row_sum, plane_sum, planes_sum}
use Rattle.bins.proofs.Rows.{none_added, next_fits, next_added, planes_small}
use Rattle.bins.proofs.add_up.add_up.Given.{Over}
use Rattle.bins.proofs.add_up.add_up.Goals.{Start}
use Rattle.bins.proofs.add_up.add_up.Goals as goal

-- the numbers of a plane
abbrev plane : (g : Over) → Start g → ℕ → ℕ → ℕ
plane g s r j =
    plane_sum s.args.g (laid_view g.L.Layout.layout s.args.small.now s.args.large.now) s.args.x r s.args.x.g0
    (s.args.x.g1 - s.args.x.g0) j

pub loop-r-init : goal.loop-r-init
unfolding planes_sum
loop-r-init g c = none_added (plane g (goal.at-loop-r-init g c).Start) c.args.x.r0 refl

pub add_plane-requires : goal.add_plane-requires
add_plane-requires g c = record { can_add = c.requires; from = omega arith; before = c.loop-r-test.true }

pub plus-sum-requires : goal.plus-sum-requires
unfolding planes_sum
plus-sum-requires g c =
    let l = c.loop-r in
    next_fits (plane g (goal.at-plus-sum-requires g c).Start) c.args.x.r0 (omega arith) l.invariant c.add_plane.ensures
    (planes_small c.requires (l.r + 1) (omega (arith, c.loop-r-test.true)))

pub loop-r-preserved : goal.loop-r-preserved
unfolding planes_sum
loop-r-preserved g c =
    let l = c.loop-r in
    next_added (plane g (goal.at-loop-r-preserved g c).Start) c.args.x.r0 (omega arith) l.invariant c.add_plane.ensures
    c.plus-sum.ensures

pub returns : goal.returns
unfolding box_cell box_sum bin_sum sum3 planes_sum plane_sum row_sum
returns g c =
    let l = c.loop-r in
    let all : l.r ≡ c.args.x.r1 = omega (arith, le_of_lt (sides c.requires.within).one) in
    l.invariant
    ∙ ap (λ (e : ℕ). cell_of (planes_sum c.args.g (laid_view g.L.Layout.layout c.args.small.now c.args.large.now) c.args.x
    c.args.x.r0 (e - c.args.x.r0))) all
