-- `grid::steps::steps` meets its contract: each dimension has its own shift and stride.
-- Assumes nothing.
use Prim.Native.Nat.{◌*◌}
use native.Mathlib.Omega.{arith}
use Rattle.grid.specs.Grid.{steps_of, shift_at, stride_at}
use Rattle.basics.specs.Dimension.{choose}
use Rattle.grid.proofs.Size.{size_high}
use Rattle.grid.proofs.Places.{plane_high, one, two, three, choose_third}
use Rattle.grid.proofs.steps.steps.Goals as goal

pub overflow_mul-g : goal.overflow_mul-g
overflow_mul-g c = omega (arith, plane_high c.requires)

pub strides-requires : goal.strides-requires
strides-requires c = (omega (arith, (one c.requires).few), plane_high c.requires)

pub strides-requires-in-1 : goal.strides-requires-in-1
strides-requires-in-1 c = (omega (arith, (two c.requires).few), omega (arith, size_high (three c.requires)))

pub strides-requires-in_default : goal.strides-requires-in_default
strides-requires-in_default c = (omega (arith, (three c.requires).few), omega arith)

pub returns-in-0 : goal.returns-in-0
unfolding steps_of shift_at stride_at choose
returns-in-0 c = rw c.in-0.is c.strides.ensures

pub returns-in-1 : goal.returns-in-1
unfolding steps_of shift_at stride_at choose
returns-in-1 c = rw c.in-1.is c.strides-in-1.ensures

pub returns-in_default : goal.returns-in_default
unfolding steps_of shift_at stride_at
returns-in_default c =
    let d = c.args.dimension in
    let g = c.args.g in
    let m = c.in_default.in_default-own.rest in
    rw (
      choose_third d g.shift1 g.shift2 g.shift3 m.0.1 m.1,
      choose_third d (g.size2 * g.size3) g.size3 1 m.0.1 m.1,
    )
    c.strides-in_default.ensures
