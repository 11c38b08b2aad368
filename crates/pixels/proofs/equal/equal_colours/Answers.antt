-- `pixels::equal::equal_colours` meets its contract: by its ends, and else by the number of bytes that differ.
-- Assumes nothing.
use mathlib.Core.Path.{sym, ap, ◌∙◌}
use Prim.Native.Nat.{ℕ}
use lib.Dec.{eqb}
use Rattle.pixels.specs.Equal.{same_colour}
use Rattle.pixels.proofs.EqualColours.{counted, ends_differ}
use Rattle.pixels.proofs.equal.equal_colours.Goals as goal

pub returns-then-eq : goal.returns-then-eq
returns-then-eq c =
    let a = c.args in
    ap (λ (n : ℕ). eqb n 0) c.differences.ensures ∙ counted a.bytes.now a.i

-- the derived `==` is `same_colour`
pub returns-else-eq : goal.returns-else-eq
unfolding same_colour
returns-else-eq c =
    let a = c.args in
    c.if-eq.false
    ∙ ends_differ a.bytes.now a.i
    ((λ k. same_colour (sym c.colour.ensures k) (sym c.colour-2.ensures k)) ∙ sym c.eq.ensures ∙ c.if-eq.false)
