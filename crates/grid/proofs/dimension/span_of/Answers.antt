-- `grid::dimension::span_of` meets its contract: the width is the power of two, and the span of a byte's bin ends at
-- 255 at the latest.
-- Assumes nothing.
use mathlib.Core.Path.{refl}
use native.Mathlib.Omega.{arith}
use lib.Pow.{pow_pos}
use Rattle.grid.specs.Size.{span_of}
use Rattle.grid.proofs.Size.{width_is, span_byte}
use Rattle.grid.proofs.dimension.span_of.Goals as goal

pub overflow_mul-low : goal.overflow_mul-low
overflow_mul-low c = rw (width_is c.args.shift c.requires.shift_below) (omega (arith, c.requires.bin_below))

pub overflow_sub-result : goal.overflow_sub-result
overflow_sub-result c = rw (width_is c.args.shift c.requires.shift_below) (pow_pos c.args.shift)

pub overflow_add-result : goal.overflow_add-result
unfolding span_of
overflow_add-result c =
    rw (width_is c.args.shift c.requires.shift_below)
    (omega (arith, span_byte c.args.shift c.args.bin c.requires))

pub returns : goal.returns
unfolding span_of
returns c = rw (width_is c.args.shift c.requires.shift_below) refl
