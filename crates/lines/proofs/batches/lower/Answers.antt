-- `lines::batches::lower` meets its contract, case by case.
-- Assumes nothing.
use Rattle.lines.proofs.Texts.{lower_first, lower_second, lower_other, lower_same}
use Rattle.lines.proofs.batches.lower.Goals as goal

pub returns-then-number-eq0 : goal.returns-then-number-eq0
returns-then-number-eq0 c = lower_first _ _ c.if-number-eq0.true

pub returns-then-other-eq0 : goal.returns-then-other-eq0
returns-then-other-eq0 c = lower_second _ _ c.if-other-eq0.true

pub returns-then-other-number : goal.returns-then-other-number
returns-then-other-number c = lower_other _ _ c.if-other-eq0.false c.if-other-number.true

pub returns-else-other-number : goal.returns-else-other-number
returns-else-other-number c = lower_same _ _ c.if-number-eq0.false c.if-other-number.false
