-- `bins::add_up::add_row` meets its contract: after each bin the sum is that of the bins so far.
-- Assumes nothing.
use Rattle.std.proofs.Common.{◌≡◌, ℕ, ◌+◌, ◌-◌, refl, ap, ◌∙◌, le_of_lt, arith}
use Rattle.grid.specs.Grid.{place_of}
use Rattle.grid.proofs.Places.{place_lt}
use Rattle.table.specs.Cell.{cell_of}
use Rattle.table.specs.Layout.{laid_view}
use Rattle.table.proofs.Layouts.{cell_of_lem}
use Rattle.boxes.proofs.Within.{sides}
use Rattle.bins.specs.Inner.{row_sum}
use Rattle.bins.proofs.Rows.{none_added, next_fits, next_added, bins_small, row_inside}
use Rattle.bins.proofs.add_up.add_row.Given.{Over}
use Rattle.bins.proofs.add_up.add_row.Goals.{Start, After-cell}
use Rattle.bins.proofs.add_up.add_row.Goals as goal

-- the numbers of a bin of the row
abbrev bin : (g : Over) → Start g → ℕ → ℕ → ℕ
bin g s b j = laid_view g.L.Layout.layout s.args.small.now s.args.large.now (place_of s.args.g s.args.r s.args.gr b) j

-- and as it was read
read : (g : Over) (k : After-cell g) → k.cell.result ≡ cell_of (bin g (goal.at-After-cell g k).Start k.loop-b.b)
read g k =
    k.cell.ensures
    ∙ ap (λ (p : ℕ). cell_of (laid_view g.L.Layout.layout k.args.small.now k.args.large.now p)) k.place.ensures

pub loop-b-init : goal.loop-b-init
unfolding row_sum
loop-b-init g c = none_added (bin g (goal.at-loop-b-init g c).Start) c.args.x.b0 refl

pub place-requires : goal.place-requires
place-requires g c = row_inside c.requires c.loop-b-test.true

pub cell-requires : goal.cell-requires
cell-requires g c =
    cell_of_lem c.requires.in_plane.can_add.table c.place.result
    (omega (arith, place_lt (row_inside c.requires c.loop-b-test.true), c.place.ensures))

pub plus-sum-requires : goal.plus-sum-requires
unfolding row_sum
plus-sum-requires g c =
    let k = (goal.at-plus-sum-requires g c).After-cell in
    let l = c.loop-b in
    next_fits (bin g (goal.at-After-cell g k).Start) c.args.x.b0 (omega arith) l.invariant (read g k)
    (bins_small c.requires (l.b + 1) (omega (arith, c.loop-b-test.true)))

pub loop-b-preserved : goal.loop-b-preserved
unfolding row_sum
loop-b-preserved g c =
    let k = (goal.at-loop-b-preserved g c).After-cell in
    let l = c.loop-b in
    next_added (bin g (goal.at-After-cell g k).Start) c.args.x.b0 (omega arith) l.invariant (read g k)
    c.plus-sum.ensures

pub returns : goal.returns
returns g c =
    let l = c.loop-b in
    let all : l.b ≡ c.args.x.b1 = omega (arith, le_of_lt (sides c.requires.in_plane.can_add.within).three) in
    l.invariant
    ∙ ap (λ (e : ℕ). cell_of (row_sum c.args.g (laid_view g.L.Layout.layout c.args.small.now c.args.large.now) c.args.r
    c.args.gr c.args.x.b0 (e - c.args.x.b0))) all
