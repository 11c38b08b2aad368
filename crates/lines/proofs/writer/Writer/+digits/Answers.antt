-- The proof of the cycle of calls {digits}. The measure is the number, and its tenth is below it.
-- Assumes nothing.
use Rattle.std.proofs.Common.{length, length-append, ap, arith}
use Rattle.lines.proofs.Decimal.{decimal_one, decimal_more, tenth}
use Rattle.lines.proofs.Writing.{writes_more}
use Rattle.lines.proofs.writer.Writer.+digits.Goals as goal
use Rattle.lines.proofs.writer.Writer.+digits.Goals.{then-n-ge10, else-n-ge10}

pub digits-requires : goal.digits-requires
digits-requires t c = (
  omega (arith, c.decreases, tenth c.if-n-ge10.true),
  omega (arith, c.requires, simp length-append at (ap length (decimal_more c.args.n c.if-n-ge10.true))),
)

pub byte-requires : goal.byte-requires
byte-requires t c =
    elim c.if-n-ge10.branch [
      | then-n-ge10 w ↦
          rw w.self-is
          (omega (
            arith,
            c.requires,
            simp length-append at (ap length (decimal_more c.args.n w.if-n-ge10.true)),
            w.digits.ensures.fits,
            w.digits.ensures.long,
          ))
      | else-n-ge10 w ↦ rw w.self-is (omega (arith, c.requires, ap length (decimal_one c.args.n w.if-n-ge10.false)))
    ]

pub returns : goal.returns
returns t c =
    elim c.if-n-ge10.branch [
      | then-n-ge10 w ↦
          rw (decimal_more c.args.n w.if-n-ge10.true, length-append, ← c.last_digit.ensures)
          (writes_more w.digits.ensures (rw w.self-is at c.byte.ensures))
      | else-n-ge10 w ↦
          rw (decimal_one c.args.n w.if-n-ge10.false, ← c.last_digit.ensures) (rw w.self-is at c.byte.ensures)
    ]
