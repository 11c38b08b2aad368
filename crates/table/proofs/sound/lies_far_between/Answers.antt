-- `table::sound::lies_far_between` meets its contract: a weight within the limit times a value fits, and a sum below n·low
-- wraps to more than the difference of the bounds.
-- Assumes nothing.
use Rattle.std.proofs.Common.{arith}
use Rattle.table.proofs.Packed.{low_fits, far_between}
use Rattle.table.proofs.sound.lies_far_between.Goals as goal

pub overflow_mul-n : goal.overflow_mul-n
overflow_mul-n s = omega (arith, low_fits s.args.n s.args.span s.requires.0 s.requires.1)

pub overflow_mul-result : goal.overflow_mul-result
overflow_mul-result c =
    let s = c in omega (arith, low_fits s.args.n s.args.span s.requires.0 s.requires.1)

pub returns : goal.returns
returns c =
    let s = c in
    far_between s.args.n s.args.span s.requires.0 s.requires.1 (omega arith) c.wrapping_sub_u64.ensures.value
