-- `grid::place::place` meets its contract: shifted left by what a shift lacks to 8 is times the size, and a place is
-- below the number of bins, so nothing on the way to it wraps.
-- Assumes nothing.
use mathlib.Core.Path.{◌≡◌, refl}
use Prim.Native.Nat.{ℕ, ◌+◌, ◌-◌, ◌*◌, ◌%◌, ◌^◌}
use native.Mathlib.Omega.{arith}
use Rattle.grid.specs.declared.place.Grid.{Grid}
use Rattle.grid.specs.Grid.{place_of, Inside}
use Rattle.grid.proofs.Size.{shifted_left}
use Rattle.grid.proofs.Places.{two, three, row_lt, rows_high, place_lt, bins_high}
use Rattle.grid.proofs.place.place.Goals as goal

module _ {g : Grid} {r gr b : ℕ} (i : Inside g r gr b) where
  row_is : r * 2 ^ (8 - g.shift2) % 2 ^ 64 ≡ r * g.size2
  row_is = shifted_left (two i.accepted) r (omega (arith, row_lt i, rows_high i.accepted))

  rows_is : (r * g.size2 + gr) * 2 ^ (8 - g.shift3) % 2 ^ 64 ≡ (r * g.size2 + gr) * g.size3
  unfolding place_of
  rows_is =
      shifted_left (three i.accepted) (r * g.size2 + gr) (omega (arith, place_lt i, bins_high i.accepted))

pub overflow_sub-row : goal.overflow_sub-row
overflow_sub-row c = omega (arith, (two c.requires.accepted).few)

pub overflow_add-row : goal.overflow_add-row
overflow_add-row c =
    let i = c.requires in
    rw (row_is i) (omega (arith, row_lt i, rows_high i.accepted))

pub overflow_sub-result : goal.overflow_sub-result
overflow_sub-result c = omega (arith, (three c.requires.accepted).few)

pub overflow_add-result : goal.overflow_add-result
unfolding place_of
overflow_add-result c =
    let i = c.requires in
    rw (row_is i, rows_is i) (omega (arith, place_lt i, bins_high i.accepted))

pub returns : goal.returns
unfolding place_of
returns c = let i = c.requires in rw (row_is i, rows_is i) refl
