-- `seluvava::recordings::seluvava_batch` meets its contract: the list is handed on where weights are given, and else no
-- list is looked at.
-- Assumes nothing.
use Rattle.std.proofs.Common.{[], refl, ◌∙◌}
use Rattle.recorder.proofs.Unlisted.{unlisted_number, unlisted_later}
use Rattle.seluvava.proofs.recordings.seluvava_batch.Goals.{then-weighted, else-weighted}
use Rattle.seluvava.proofs.recordings.seluvava_batch.Goals as goal

pub returns-clause-number : goal.returns-clause-number
returns-clause-number c =
    let a = c.args in
    c.answer.ensures ∙ c.batch.ensures.number
    ∙ elim c.if-weighted.branch [
      | then-weighted w ↦ rw (w.weights-is, w.if-weighted.true) refl
      | else-weighted w ↦
          rw (w.weights-is, w.if-weighted.false)
          (unlisted_number a.session a.interval a.b1 a.b2 a.b3 a.table.now a.colours.now [] a.weights.now)
    ]

pub returns-clause-later : goal.returns-clause-later
returns-clause-later c =
    let a = c.args in
    c.batch.ensures.later
    ∙ elim c.if-weighted.branch [
      | then-weighted w ↦ rw (w.weights-is, w.if-weighted.true) refl
      | else-weighted w ↦
          rw (w.weights-is, w.if-weighted.false)
          (unlisted_later a.session a.interval a.b1 a.b2 a.b3 a.table.now a.colours.now [] a.weights.now)
    ]
