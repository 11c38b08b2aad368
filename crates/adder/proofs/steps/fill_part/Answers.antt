-- `adder::steps::fill_part` meets its contract: the loop fills the part from its front, one value after the other.
-- Assumes nothing.
use mathlib.Core.Path.{◌≡◌}
use Prim.Native.Nat.{◌≤◌}
use native.Mathlib.Omega.{arith}
use lib.ListN.{get_or}
use Rattle.adder.proofs.Loading.{square_byte}
use Rattle.adder.proofs.StepTable.{step_high, part_none, part_more, part_all}
use Rattle.adder.proofs.steps.fill_part.Goals as goal

pub steps-s-requires : goal.steps-s-requires
steps-s-requires c = c.requires.0

pub loop-c-init : goal.loop-c-init
loop-c-init c = part_none c.steps-s.result c.args.dimension c.args.table.now c.requires.1

pub overflow_mul-table : goal.overflow_mul-table
overflow_mul-table c = omega (arith, square_byte c.loop-c.c (omega arith))

pub overflow_mul-table-in-loop-c : goal.overflow_mul-table-in-loop-c
overflow_mul-table-in-loop-c c = omega (arith, square_byte c.loop-c.c (omega arith))

pub overflow_add-table : goal.overflow_add-table
overflow_add-table c =
    let s = c in
    let l = c.loop-c.c in
    let step : get_or c.steps-s.result l 0 ≤ 4177920 =
    rw c.steps-s.ensures (step_high s.requires.0 s.args.dimension l (omega arith)) in
    omega (arith, square_byte l (omega arith))

pub loop-c-preserved : goal.loop-c-preserved
loop-c-preserved c =
    part_more c.steps-s.result c.args.dimension c.args.table.now c.loop-c.invariant c.requires.2 (omega arith)

pub returns : goal.returns
returns c =
    let a = c.args in
    let ended : c.loop-c.c ≡ 256 = omega arith in
    part_all c.steps-s.result a.dimension a.table.now a.g c.steps-s.ensures (rw ended at c.loop-c.invariant)
