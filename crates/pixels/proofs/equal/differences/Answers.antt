-- `pixels::equal::differences` meets its contract: the loop counts from the front, and 192 fits a u8.
-- Assumes nothing.
use mathlib.Core.Path.{◌≡◌, refl, ap, ◌∙◌}
use Prim.Native.Nat.{ℕ}
use native.Mathlib.Omega.{arith}
use Rattle.basics.specs.Range.{sum_from}
use Rattle.pixels.specs.Equal.{differs}
use Rattle.pixels.proofs.equal.differences.Goals as goal

pub loop-k-init : goal.loop-k-init
unfolding sum_from
loop-k-init c = (omega arith, refl)

pub returns : goal.returns
returns c =
    let l = c.loop-k in
    let a = c.args in
    let all : l.k ≡ 192 = omega arith in
    l.invariant.1 ∙ ap (λ (n : ℕ). sum_from a.at n (differs a.bytes.now)) all
