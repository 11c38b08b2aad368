-- `terminal::call::nearest_number` meets its contract: the refusals in their order.
-- Assumes nothing.
use Rattle.std.proofs.Common.{sym}
use borrow.Author.Tests.{eq-eqb, ne_eqb, le-leb, lt-leb, lt-ltb}
use Rattle.basics.specs.Answer.{refuse}
use Rattle.terminal.specs.Nearest.{nearest_number}
use Rattle.terminal.proofs.Calls.{number_accepted}
use Rattle.terminal.proofs.call.nearest_number.Goals.{then-palette-lt3-via-then-palette-lt3}
use Rattle.terminal.proofs.call.nearest_number.Goals.{then-palette-lt3-via-else-palette-lt3+then-palette-gt768}
use Rattle.terminal.proofs.call.nearest_number.Goals.{then-palette-lt3-via-else-palette-lt3+else-palette-gt768+then-palette-ne0}
use Rattle.terminal.proofs.call.nearest_number.Goals.{then-palette-lt3-via-else-palette-lt3+else-palette-gt768+else-palette-ne0+then-answers-palette}
use Rattle.terminal.proofs.call.nearest_number.Goals as goal

pub returns-then-palette-lt3 : goal.returns-then-palette-lt3
unfolding nearest_number refuse
returns-then-palette-lt3 c =
    elim c.then-palette-lt3.branch [
      | then-palette-lt3-via-then-palette-lt3 w ↦ sym (simp (lt-leb _ _ w.if-palette-lt3.true))
      | then-palette-lt3-via-else-palette-lt3+then-palette-gt768 w ↦
          sym (simp (
            le-leb _ _ w.if-palette-lt3.false,
            lt-leb _ _ w.if-palette-gt768.true,
          ))
      | then-palette-lt3-via-else-palette-lt3+else-palette-gt768+then-palette-ne0 w ↦
          sym (simp (
            le-leb _ _ w.if-palette-lt3.false,
            le-leb _ _ w.if-palette-gt768.false,
            ne_eqb _ _ w.if-palette-ne0.true,
          ))
      | then-palette-lt3-via-else-palette-lt3+else-palette-gt768+else-palette-ne0+then-answers-palette w ↦
          sym (simp (
            le-leb _ _ w.if-palette-lt3.false,
            le-leb _ _ w.if-palette-gt768.false,
            eq-eqb _ _ w.if-palette-ne0.false,
            lt-ltb _ _ w.if-answers-palette.true,
          ))
    ]

pub returns : goal.returns
returns c =
    sym (number_accepted _ _
    (record {
      some = c.if-palette-lt3.false;
      few = c.if-palette-gt768.false;
      threes = c.if-palette-ne0.false;
      room = c.if-answers-palette.false;
    }))
