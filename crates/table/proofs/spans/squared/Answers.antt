-- `table::spans::squared` meets its contract: the squares of bytes fit.
-- Assumes nothing.
use Rattle.std.proofs.Common.{refl, arith}
use Rattle.table.specs.Sound.{squared_span}
use Rattle.table.proofs.Packed.{square_byte}
use Rattle.table.proofs.spans.squared.Goals as goal

pub overflow_mul-result : goal.overflow_mul-result
overflow_mul-result c =
    let b = c.requires in omega (arith, square_byte c.args.s.low (omega (arith, b.low, b.high)))

pub overflow_mul-result-2 : goal.overflow_mul-result-2
overflow_mul-result-2 c =
    let b = c.requires in omega (arith, square_byte c.args.s.high b.high)

pub returns : goal.returns
unfolding squared_span
returns c = refl
