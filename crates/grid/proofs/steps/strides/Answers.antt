-- `grid::steps::strides` meets its contract: the loop fills the table from the front, one value after the other.
-- Assumes nothing.
use mathlib.Core.Path.{refl, ap}
use Prim.Native.Nat.{◌≤◌, ◌*◌, ℕ}
use native.Mathlib.Nat.{mul-le-mul}
use native.Mathlib.Omega.{arith}
use lib.Pow.{shr_le}
use lib.ListN.{length-set}
use Rattle.grid.specs.Size.{bin_of}
use Rattle.basics.proofs.Range.{filled_more, list_is}
use Rattle.grid.proofs.steps.strides.Goals as goal

pub loop-c-init : goal.loop-c-init
loop-c-init c = (omega arith, refl, λ k h. absurd (omega arith))

pub overflow_mul-out : goal.overflow_mul-out
unfolding bin_of
overflow_mul-out c =
    let a = c.args in
    let l = c.loop-c.c in
    let b : c.bin_of.result ≤ 255 = omega (arith, c.bin_of.ensures, shr_le l a.shift) in
    omega (arith, mul-le-mul {n₂ = 255} {m₂ = 16384} b c.requires.1)

pub loop-c-preserved : goal.loop-c-preserved
loop-c-preserved c =
    let l = c.loop-c in (
      omega arith,
      simp length-set l.invariant.1,
      filled_more l.out _ l.c _ (omega arith)
          (ap (λ (n : ℕ). n * c.args.stride) c.bin_of.ensures) l.invariant.2,
    )

pub returns : goal.returns
returns c =
    let l = c.loop-c in
    list_is 256 _ l.out 0 l.invariant.1 (λ k h. l.invariant.2 k (omega arith))
