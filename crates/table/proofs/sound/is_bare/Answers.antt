-- `table::sound::is_bare` meets its contract: the bits of two numbers together are none exactly where each has none.
-- Assumes nothing.
-- two numbers together
use Rattle.std.proofs.Common.{◌≡◌, ℕ, zero, suc, Bool, ◌&&◌, leb, sym, ap, ◌∙◌, arith}
use borrow.Author.Tests.{lt-leb}
use lib.Bits.{bit_or, or_zero_l, or_add_and, and_le_r}
use Rattle.basics.proofs.Range.{and_stop}
use Rattle.table.proofs.sound.is_bare.Goals as goal

none_together : (a b : ℕ) → leb (bit_or a b) 0 ≡ (leb a 0 && leb b 0)
none_together zero b = ap (λ (n : ℕ). leb n 0) (or_zero_l b)
none_together (suc a) b =
    lt-leb (bit_or (suc a) b) 0 (omega (arith, or_add_and (suc a) b, and_le_r (suc a) b))
    ∙ sym (and_stop (leb b 0) (lt-leb (suc a) 0 (omega arith)))

pub returns : goal.returns
returns c =
    let x = c.args.c in
    none_together x.sum1 (bit_or x.sum2 (bit_or x.sum3 x.squares))
    ∙ ap (λ (t : Bool). leb x.sum1 0 && t) (none_together x.sum2 (bit_or x.sum3 x.squares)
    ∙ ap (λ (t : Bool). leb x.sum2 0 && t) (none_together x.sum3 x.squares))
