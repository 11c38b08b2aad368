-- `sums::inner_rows::inner_at` meets its contract: the line and three neighbours, which are all there.
-- Assumes nothing.
use Rattle.std.proofs.Common.{◌≡◌, ℕ, ◌+◌, ◌-◌, ◌*◌, arith}
use Rattle.grid.specs.Grid.{place_of}
use Rattle.grid.proofs.Places.{plane_high}
use Rattle.table.specs.declared.cell.Cell.{Cell}
use Rattle.table.specs.Layout.{laid_view}
use Rattle.sums.proofs.Steps.{Has, near_cell, above_has, before_has, corner_has, can_join, joined_is}
use Rattle.sums.proofs.Steps.{row_back, plane_back, both_back}
use Rattle.sums.proofs.inner_rows.inner_at.Given.{Over}
use Rattle.sums.proofs.inner_rows.inner_at.Goals.{After-cell-corner, Start}
use Rattle.sums.proofs.inner_rows.inner_at.Goals as goal

-- ---- the places of the three neighbours, from the bin's own
module _ (g : Over) (s : Start g) where
  abbrev p : ℕ
  p = s.args.p

  abbrev row : ℕ
  row = s.args.g.size3

  abbrev plane : ℕ
  plane = s.args.g.size2 * s.args.g.size3

  above_place : p ≡ place_of s.args.g s.args.r (s.args.gr - 1) s.args.b + row
  above_place = row_back s.args.g s.args.r s.args.gr s.args.b s.requires.r_nonzero.2 s.requires.r_nonzero.1

  before_place : p ≡ place_of s.args.g (s.args.r - 1) s.args.gr s.args.b + plane
  before_place = plane_back s.args.g s.args.r s.args.gr s.args.b s.requires.r_nonzero.2 s.requires.r_nonzero.0

  corner_place : p ≡ place_of s.args.g (s.args.r - 1) (s.args.gr - 1) s.args.b + plane + row
  corner_place =
      both_back s.args.g s.args.r s.args.gr s.args.b s.requires.r_nonzero.2 s.requires.r_nonzero.0 s.requires.r_nonzero.1

  is_above : p - row ≡ place_of s.args.g s.args.r (s.args.gr - 1) s.args.b
  is_above = omega (arith, above_place)

  is_before : p - plane ≡ place_of s.args.g (s.args.r - 1) s.args.gr s.args.b
  is_before = omega (arith, before_place)

  is_corner : p - plane - row ≡ place_of s.args.g (s.args.r - 1) (s.args.gr - 1) s.args.b
  is_corner = omega (arith, corner_place)

pub overflow_mul-plane : goal.overflow_mul-plane
overflow_mul-plane g c = omega (arith, plane_high c.requires.ready.inside.accepted)

pub overflow_sub-p : goal.overflow_sub-p
overflow_sub-p g c = omega (arith, above_place g (goal.at-overflow_sub-p g c).Start)

pub cell-above-requires : goal.cell-above-requires
cell-above-requires g c =
    near_cell c.requires.ready c.args.r (c.args.gr - 1) (omega arith) (omega arith)
    (is_above g (goal.at-cell-above-requires g c).Start)

pub overflow_sub-p-2 : goal.overflow_sub-p-2
overflow_sub-p-2 g c = omega (arith, before_place g (goal.at-overflow_sub-p-2 g c).Start)

pub cell-before-requires : goal.cell-before-requires
cell-before-requires g c =
    near_cell c.requires.ready (c.args.r - 1) c.args.gr (omega arith) (omega arith)
    (is_before g (goal.at-cell-before-requires g c).Start)

pub overflow_sub-p-3 : goal.overflow_sub-p-3
overflow_sub-p-3 g c = omega (arith, before_place g (goal.at-overflow_sub-p-3 g c).Start)

pub overflow_sub-p-4 : goal.overflow_sub-p-4
overflow_sub-p-4 g c = omega (arith, corner_place g (goal.at-overflow_sub-p-4 g c).Start)

pub cell-corner-requires : goal.cell-corner-requires
cell-corner-requires g c =
    near_cell c.requires.ready (c.args.r - 1) (c.args.gr - 1) (omega arith) (omega arith)
    (is_corner g (goal.at-cell-corner-requires g c).Start)

-- ---- what was read
module _ (g : Over) (k : After-cell-corner g) where
  abbrev start : Start g
  start = (goal.at-After-cell-corner g k).Start

  -- the sums of the bins below r and gr
  abbrev Below : Cell → ℕ → ℕ → Type 0
  Below = Has k.args.g (laid_view g.L.Layout.layout k.args.small.now k.args.large.now) k.args.b

  above : Below k.cell-above.result (k.args.r + 1) k.args.gr
  above = above_has k.requires.ready k.requires.r_nonzero.1 (is_above g start) k.cell-above.ensures

  before : Below k.cell-before.result k.args.r (k.args.gr + 1)
  before = before_has k.requires.ready k.requires.r_nonzero.0 (is_before g start) k.cell-before.ensures

  corner : Below k.cell-corner.result k.args.r k.args.gr
  corner =
      corner_has k.requires.ready k.requires.r_nonzero.0 k.requires.r_nonzero.1 (is_corner g start) k.cell-corner.ensures

pub joined-requires : goal.joined-requires
joined-requires g c =
    let k = (goal.at-joined-requires g c).After-cell-corner in
    can_join c.requires.ready c.requires.line_value (above g k) (before g k) (corner g k)

pub returns : goal.returns
returns g c =
    let k = (goal.at-returns g c).After-cell-corner in
    joined_is c.requires.ready c.requires.line_value (above g k) (before g k) (corner g k) c.joined.ensures
