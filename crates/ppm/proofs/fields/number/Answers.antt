-- `ppm::fields::number` meets its contract, digit by digit.
-- Assumes nothing.
use mathlib.Core.Path.{◌≡◌, sym, ◌∙◌}
use native.Mathlib.Omega.{arith}
use lib.ListN.{length}
use Rattle.ppm.proofs.Numbers.{digit_says, number_starts, number_goes, number_ends, number_cut}
use Rattle.ppm.proofs.fields.number.Goals as goal

pub loop-p-init : goal.loop-p-init
loop-p-init c = number_starts c.args.file.now c.args.at c.requires

pub returns-then-not-is_digit : goal.returns-then-not-is_digit
returns-then-not-is_digit c =
    let both = number_ends c.loop-p.invariant (omega arith) (sym c.is_digit.ensures ∙ c.if-not-is_digit.true) in
    record { value = both.0; end = both.1 }

pub longer-value-requires : goal.longer-value-requires
longer-value-requires c =
    let d = digit_says _ (sym c.is_digit.ensures ∙ c.if-not-is_digit.false) in
    (c.loop-p.invariant.few, d.0, d.1)

pub loop-p-preserved : goal.loop-p-preserved
loop-p-preserved c =
    let on = sym c.is_digit.ensures ∙ c.if-not-is_digit.false in
    number_goes c.loop-p.invariant (omega arith) on c.longer-value.ensures

pub returns : goal.returns
returns c =
    let both = number_cut c.loop-p.invariant (λ h. omega arith) in
    let all : length c.args.file.now ≡ c.loop-p.p = omega (arith, c.loop-p.invariant.there) in
    record { value = both.0; end = all ∙ both.1 }
