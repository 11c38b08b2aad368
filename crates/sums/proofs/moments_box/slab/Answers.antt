-- `sums::moments_box::slab` meets its contract: the bins up to the end are those up to the start and those of the slab.
-- Assumes nothing.
use Rattle.std.proofs.Common.{◌≡◌, ℕ, ◌+◌, ◌-◌, ◌≤◌, arith}
use Rattle.table.specs.Layout.{laid_view}
use Rattle.sums.specs.Inner.{bin_cell}
use Rattle.bins.specs.Sum.{bin_sum}
use Rattle.bins.proofs.Runs.{second_from}
use Rattle.sums.proofs.Corners.{from_least, from_is, row_is, row_fits, fewer_rows}
use Rattle.sums.proofs.moments_box.slab.Given.{Over}
use Rattle.sums.proofs.moments_box.slab.Goals.{Start}
use Rattle.sums.proofs.moments_box.slab.Goals as goal

-- number j of the bins from a start on
abbrev rows : (g : Over) → Start g → ℕ → ℕ → ℕ → ℕ
rows g s a n j =
    bin_sum s.args.g (laid_view g.L.Layout.layout s.args.small.now s.args.large.now) 0 s.args.r a n s.args.x.b0
    (s.args.x.b1 - s.args.x.b0) j

split : (g : Over) (s : Start g) (a e j : ℕ) → a ≤ e → rows g s 0 e j ≡ rows g s 0 a j + rows g s a (e - a) j
split g s a e j h =
    second_from s.args.g (laid_view g.L.Layout.layout s.args.small.now s.args.large.now) 0 s.args.r a e s.args.x.b0
    (s.args.x.b1 - s.args.x.b0) j h

pub overflow_add-last : goal.overflow_add-last
overflow_add-last g c =
    omega (arith, row_fits c.requires.corner.0 c.requires.plane_value c.place.ensures)

pub bins_from-upper-requires-clause-row_value : goal.bins_from-upper-requires-clause-row_value
bins_from-upper-requires-clause-row_value g c =
    row_is c.requires.corner.0 c.requires.plane_value c.place.ensures

pub overflow_add-before : goal.overflow_add-before
overflow_add-before g c =
    let k = fewer_rows c.requires.corner.0 c.requires.corner.1 (omega (arith, c.if-g0-eq0.false)) in
    omega (arith, row_fits k c.requires.plane_value c.place-2.ensures)

pub bins_from-requires : goal.bins_from-requires
bins_from-requires g c =
    let k = fewer_rows c.requires.corner.0 c.requires.corner.1 (omega (arith, c.if-g0-eq0.false)) in record {
      corner = (k, c.requires.corner.2);
      row_value = row_is k c.requires.plane_value c.place-2.ensures;
    }

pub minus-requires : goal.minus-requires
unfolding bin_cell
minus-requires g c =
    let s = (goal.at-minus-requires g c).Start in
    from_least (rows g s) (split g s) c.requires.corner.1 c.bins_from-upper.ensures c.bins_from.ensures

pub returns : goal.returns
unfolding bin_cell
returns g c =
    let s = (goal.at-returns g c).Start in
    from_is (rows g s) (split g s) c.requires.corner.1 c.bins_from-upper.ensures c.bins_from.ensures c.minus.ensures
