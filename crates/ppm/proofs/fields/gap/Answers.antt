-- `ppm::fields::gap` meets its contract, byte by byte.
-- Assumes nothing.
use Rattle.std.specs.Bool.{then_some}
use mathlib.Core.Path.{◌≡◌, sym, ◌∙◌}
use native.Mathlib.Omega.{arith}
use lib.ListN.{length}
use Rattle.ppm.specs.Inner.{blank_gap}
use Rattle.ppm.proofs.Gaps.{gap_starts, gap_goes, gap_ends, gap_cut}
use Rattle.ppm.proofs.fields.gap.Goals as goal

pub loop-p-init : goal.loop-p-init
loop-p-init c = gap_starts c.args.file.now c.args.at c.requires

pub returns-then-not-in_gap : goal.returns-then-not-in_gap
unfolding blank_gap
returns-then-not-in_gap c =
    let both = gap_ends c.loop-p.invariant (omega arith) (sym c.in_gap.ensures ∙ c.if-not-in_gap.true) in
    c.then_some.ensures ∙ (λ i. then_some (both.0 i) (both.1 i))

pub loop-p-preserved : goal.loop-p-preserved
loop-p-preserved c =
    let l = c.loop-p in
    let on = sym c.in_gap.ensures ∙ c.if-not-in_gap.false in
    rw (c.opens_comment-within.ensures, c.blank_seen-blank.ensures) (gap_goes l.invariant (omega arith) on)

pub returns : goal.returns
unfolding blank_gap
returns c =
    let both = gap_cut c.loop-p.invariant (λ h. omega arith) in
    let all : length c.args.file.now ≡ c.loop-p.p = omega (arith, c.loop-p.invariant.there) in
    c.then_some-2.ensures ∙ (λ i. then_some (both.0 i) ((all ∙ both.1) i))
