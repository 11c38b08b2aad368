-- `sums::moments_box::bins_from` meets its contract: the bins up to the end are those up to the start and those of the
-- run.
-- Assumes nothing.
use Rattle.std.proofs.Common.{◌≡◌, ℕ, arith}
use Rattle.table.specs.declared.cell.Cell.{Cell}
use Rattle.table.specs.Layout.{laid_view}
use Rattle.sums.specs.Inner.{bin_cell}
use Rattle.bins.specs.Sum.{bin_sum}
use Rattle.bins.proofs.Runs.{third_from}
use Rattle.sums.proofs.Corners.{from_least, from_is}
use Rattle.sums.proofs.moments_box.bins_from.Given.{Over}
use Rattle.sums.proofs.moments_box.bins_from.Goals.{Start}
use Rattle.sums.proofs.moments_box.bins_from.Goals as goal

-- number j of the bins from a start on
abbrev runs : (g : Over) → Start g → ℕ → ℕ → ℕ → ℕ
runs g s b n j = bin_sum s.args.g (laid_view g.L.Layout.layout s.args.small.now s.args.large.now) 0 s.args.r 0 s.args.gr b n j

-- the bins up to the start, whatever the start is called
up_to : (g : Over) (s : Start g) {x : Cell} {b : ℕ} → b ≡ s.args.b0
    → x ≡ bin_cell s.args.g (laid_view g.L.Layout.layout s.args.small.now s.args.large.now) 0 s.args.r 0 s.args.gr 0 b
    → x ≡ bin_cell s.args.g (laid_view g.L.Layout.layout s.args.small.now s.args.large.now) 0 s.args.r 0 s.args.gr 0 s.args.b0
up_to g s e f = rw (← e) f

pub minus-requires : goal.minus-requires
unfolding bin_cell
minus-requires g c =
    let s = (goal.at-minus-requires g c).Start in
    from_least (runs g s)
    (third_from c.args.g (laid_view g.L.Layout.layout c.args.small.now c.args.large.now) 0 c.args.r 0 c.args.gr)
    c.requires.corner.1 c.corner-upper.ensures (up_to g s (grind arith) c.corner.ensures)

pub returns : goal.returns
unfolding bin_cell
returns g c =
    let s = (goal.at-returns g c).Start in
    from_is (runs g s)
    (third_from c.args.g (laid_view g.L.Layout.layout c.args.small.now c.args.large.now) 0 c.args.r 0 c.args.gr)
    c.requires.corner.1 c.corner-upper.ensures (up_to g s (grind arith) c.corner.ensures) c.minus.ensures
