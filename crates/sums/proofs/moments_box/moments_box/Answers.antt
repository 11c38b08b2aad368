-- `sums::moments_box::moments_box` meets its contract: the bins up to the end are those up to the start and those of the
-- box.
-- Assumes nothing.
use Rattle.std.proofs.Common.{◌≡◌, ℕ, ◌+◌, ◌-◌, ◌≤◌, le_of_lt, arith}
use Rattle.table.specs.Layout.{laid_view}
use Rattle.sums.specs.Inner.{bin_cell}
use Rattle.bins.specs.Sum.{bin_sum, box_sum, box_cell}
use Rattle.bins.proofs.Runs.{first_from_lem}
use Rattle.sums.proofs.Corners.{from_least, from_is, from_start, plane_inside, box_end, box_start}
use Rattle.boxes.proofs.Within.{sides}
use Rattle.sums.proofs.moments_box.moments_box.Given.{Over}
use Rattle.sums.proofs.moments_box.moments_box.Goals.{Start}
use Rattle.sums.proofs.moments_box.moments_box.Goals as goal

-- number j of the bins from a start on
abbrev planes : (g : Over) → Start g → ℕ → ℕ → ℕ → ℕ
planes g s a n j =
    bin_sum s.args.g (laid_view g.L.Layout.layout s.args.small.now s.args.large.now) a n s.args.x.g0
    (s.args.x.g1 - s.args.x.g0) s.args.x.b0 (s.args.x.b1 - s.args.x.b0) j

split : (g : Over) (s : Start g) (a e j : ℕ) → a ≤ e → planes g s 0 e j ≡ planes g s 0 a j + planes g s a (e - a) j
split g s a e j h =
    first_from_lem s.args.g (laid_view g.L.Layout.layout s.args.small.now s.args.large.now) a e s.args.x.g0
    (s.args.x.g1 - s.args.x.g0) s.args.x.b0 (s.args.x.b1 - s.args.x.b0) j h

pub overflow_sub-r1 : goal.overflow_sub-r1
overflow_sub-r1 g c = omega (arith, (box_end c.requires.0 c.requires.1).some_one)

pub place-requires : goal.place-requires
place-requires g c = plane_inside (box_end c.requires.0 c.requires.1)

pub slab-upper-requires-clause-corner : goal.slab-upper-requires-clause-corner
slab-upper-requires-clause-corner g c =
    let e = sides c.requires.1 in (box_end c.requires.0 c.requires.1, le_of_lt e.two, le_of_lt e.three)

pub returns-then-r0-eq0 : goal.returns-then-r0-eq0
unfolding bin_cell box_cell box_sum
returns-then-r0-eq0 g c =
    let s = (goal.at-returns-then-r0-eq0 g c).Start in
    from_start (planes g s) (split g s) (le_of_lt (sides c.requires.1).one) c.slab-upper.ensures c.if-r0-eq0.true

pub place-requires-2 : goal.place-requires-2
place-requires-2 g c = plane_inside (box_start c.requires.0 c.requires.1 (omega (arith, c.if-r0-eq0.false)))

pub slab-requires-clause-corner : goal.slab-requires-clause-corner
slab-requires-clause-corner g c =
    let e = sides c.requires.1 in
    (box_start c.requires.0 c.requires.1 (omega (arith, c.if-r0-eq0.false)), le_of_lt e.two, le_of_lt e.three)

pub minus-requires : goal.minus-requires
unfolding bin_cell
minus-requires g c =
    let s = (goal.at-minus-requires g c).Start in
    from_least (planes g s) (split g s) (le_of_lt (sides c.requires.1).one) c.slab-upper.ensures c.slab.ensures

pub returns : goal.returns
unfolding bin_cell box_cell box_sum
returns g c =
    let s = (goal.at-returns g c).Start in
    from_is (planes g s) (split g s) (le_of_lt (sides c.requires.1).one) c.slab-upper.ensures c.slab.ensures
    c.minus.ensures
