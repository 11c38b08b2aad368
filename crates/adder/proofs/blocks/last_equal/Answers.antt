-- `adder::blocks::last_equal` meets its contract: none are not equal, and fewer than 65 have no 65 to be among.
-- Assumes nothing.
use Rattle.std.proofs.Common.{refl, sym, ◌∙◌, ◌+◌, inl, inr, arith}
use borrow.Author.Tests.{lt-ltb, le-ltb}
use Rattle.adder.specs.Inner.{last_equal}
use Rattle.adder.proofs.blocks.last_equal.Goals.{then-n-ne0, else-n-ne0}
use Rattle.adder.proofs.blocks.last_equal.Goals as goal

pub returns-then-end-gt64 : goal.returns-then-end-gt64
unfolding last_equal
returns-then-end-gt64 c =
    let a = c.args in
    c.equal_colours.ensures
    ∙ sym (simp (lt-ltb 0 a.n (omega (arith, c.if-end-gt64.true.0)), lt-ltb 64 (a.at + a.n) c.if-end-gt64.true.1))

pub returns-else-end-gt64 : goal.returns-else-end-gt64
unfolding last_equal
returns-else-end-gt64 c =
    let a = c.args in
    elim c.if-n-ne0.branch [
      | then-n-ne0 w ↦
          elim c.if-end-gt64.either [
            | inl p ↦ w.t-6-is ∙ le-ltb 64 (a.at + a.n) p.1
                ∙ sym (simp (lt-ltb 0 a.n (omega (arith, p.0)), le-ltb 64 (a.at + a.n) p.1))
            | inr e ↦ absurd (w.if-n-ne0.true e)
          ]
      | else-n-ne0 w ↦ w.t-6-is ∙ sym (rw w.if-n-ne0.false refl)
    ]
