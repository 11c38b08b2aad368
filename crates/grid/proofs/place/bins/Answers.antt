-- `grid::place::bins` meets its contract: the products of three sizes of at most 128 fit.
-- Assumes nothing.
use mathlib.Core.Path.{refl}
use native.Mathlib.Omega.{arith}
use Rattle.grid.specs.Grid.{bins_of}
use Rattle.grid.proofs.Places.{rows_high, bins_high}
use Rattle.grid.proofs.place.bins.Goals as goal

pub overflow_mul-result : goal.overflow_mul-result
overflow_mul-result c = omega (arith, rows_high c.requires)

pub overflow_mul-result-2 : goal.overflow_mul-result-2
unfolding bins_of
overflow_mul-result-2 c = omega (arith, bins_high c.requires)

pub returns : goal.returns
unfolding bins_of
returns c = refl
