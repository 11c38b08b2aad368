-- `seluvava::tables::seluvava_load` meets its contract: the list is handed on where weights are given, and else no list is
-- looked at.
-- Assumes nothing.
use Rattle.std.proofs.Common.{[], refl, ◌∙◌}
use Rattle.table.specs.Layouts.{Wide}
use Rattle.loader.proofs.Once.{unlisted_number, unlisted_later}
use Rattle.seluvava.proofs.tables.seluvava_load.Goals.{then-weighted, else-weighted}
use Rattle.seluvava.proofs.tables.seluvava_load.Goals as goal

pub returns-clause-number : goal.returns-clause-number
returns-clause-number c =
    let a = c.args in
    c.answer.ensures ∙ c.load.ensures.number
    ∙ elim c.if-weighted.branch [
      | then-weighted w ↦ rw (w.weights-is, w.if-weighted.true) refl
      | else-weighted w ↦
          rw (w.weights-is, w.if-weighted.false)
          (unlisted_number Wide a.b1 a.b2 a.b3 a.table.now a.colours.now [] a.weights.now)
    ]

pub returns-clause-later : goal.returns-clause-later
returns-clause-later c =
    let a = c.args in
    c.load.ensures.later
    ∙ elim c.if-weighted.branch [
      | then-weighted w ↦ rw (w.weights-is, w.if-weighted.true) refl
      | else-weighted w ↦
          rw (w.weights-is, w.if-weighted.false)
          (unlisted_later Wide a.b1 a.b2 a.b3 a.table.now a.colours.now [] a.weights.now)
    ]
