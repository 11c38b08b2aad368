-- `recorder::session::in_range` meets its contract.
-- Assumes nothing.
use mathlib.Core.Path.{sym}
use native.Mathlib.Omega.{arith}
use Rattle.recorder.proofs.Sessions.{interval_by, below_range, above_range, number_in, number_out}
use Rattle.recorder.proofs.session.in_range.Goals.{then-interval-lt1-via-then-interval-lt1, then-interval-lt1-via-else-interval-lt1+then-interval-gt4096}
use Rattle.recorder.proofs.session.in_range.Goals as goal

pub returns-then-interval-lt1 : goal.returns-then-interval-lt1
returns-then-interval-lt1 c =
    elim c.then-interval-lt1.branch [
      | then-interval-lt1-via-then-interval-lt1 w ↦ sym (number_out _ (below_range _ w.if-interval-lt1.true))
      | then-interval-lt1-via-else-interval-lt1+then-interval-gt4096 w ↦
          sym (number_out _ (above_range _ w.if-interval-gt4096.true))
    ]

pub returns : goal.returns
returns c =
    let i = c.args.interval in
    sym (number_in i (interval_by i (omega (arith, c.if-interval-lt1.false)) (omega (arith, c.if-interval-gt4096.false))))
