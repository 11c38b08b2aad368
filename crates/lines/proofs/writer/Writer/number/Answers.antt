-- `lines::writer::Writer::number` meets its contract: no u64 has more than 20 digits.
-- Assumes nothing.
use native.Mathlib.Omega.{arith}
use Rattle.lines.proofs.Decimal.{decimal_20}
use Rattle.lines.proofs.Writing.{writes_within}
use Rattle.lines.proofs.writer.Writer.number.Goals as goal

pub digits-requires : goal.digits-requires
digits-requires c = omega (arith, c.requires, decimal_20 c.args.n c.ranges.n.fits)

pub returns : goal.returns
returns c = writes_within 20 (decimal_20 c.args.n c.ranges.n.fits) c.digits.ensures
