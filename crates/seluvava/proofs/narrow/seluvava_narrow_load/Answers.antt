-- `seluvava::narrow::seluvava_narrow_load` meets its contract: the list is handed on where weights are given, and else no list is
-- looked at.
-- Assumes nothing.
use Rattle.std.proofs.Common.{[], refl, ◌∙◌}
use Rattle.table.specs.Layouts.{Narrow}
use Rattle.table.specs.Narrow.{narrow_table}
use Rattle.loader.proofs.Once.{unlisted_number, unlisted_later}
use Rattle.seluvava.proofs.narrow.seluvava_narrow_load.Goals.{then-weighted, else-weighted}
use Rattle.seluvava.proofs.narrow.seluvava_narrow_load.Goals as goal

pub returns-clause-number : goal.returns-clause-number
returns-clause-number c =
    let a = c.args in
    c.answer.ensures ∙ c.load.ensures.number
    ∙ elim c.if-weighted.branch [
      | then-weighted w ↦ rw (w.weights-is, w.if-weighted.true) refl
      | else-weighted w ↦
          rw (w.weights-is, w.if-weighted.false)
          (unlisted_number Narrow a.b1 a.b2 a.b3 (narrow_table a.sums.now a.squares.now) a.colours.now [] a.weights.now)
    ]

pub returns-clause-later : goal.returns-clause-later
returns-clause-later c =
    let a = c.args in
    c.load.ensures.later
    ∙ elim c.if-weighted.branch [
      | then-weighted w ↦ rw (w.weights-is, w.if-weighted.true) refl
      | else-weighted w ↦
          rw (w.weights-is, w.if-weighted.false)
          (unlisted_later Narrow a.b1 a.b2 a.b3 (narrow_table a.sums.now a.squares.now) a.colours.now [] a.weights.now)
    ]
