-- `grid::dimension::bin_of` meets its contract: a shift right is a division by a power of two, and a byte stays a byte.
-- Assumes nothing.
use mathlib.Core.Path.{refl}
use native.Mathlib.Omega.{arith}
use lib.Pow.{shr_le}
use Rattle.grid.specs.Size.{bin_of}
use Rattle.grid.proofs.dimension.bin_of.Goals as goal

pub overflow_cast-result : goal.overflow_cast-result
overflow_cast-result c = omega (arith, shr_le c.args.component c.args.shift)

pub returns : goal.returns
unfolding bin_of
returns c = refl
