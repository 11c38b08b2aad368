-- `ppm::fields::field` meets its contract: a gap, a digit behind it, and the number.
-- Assumes nothing.
use mathlib.Core.Path.{refl, sym, ◌∙◌}
use mathlib.Core.Bool.{false}
use native.Mathlib.Omega.{arith}
use lib.ListN.{drop}
use Rattle.ppm.specs.Header.{has_blank, after_gap}
use Rattle.ppm.specs.Inner.{behind, blank_gap}
use Rattle.ppm.proofs.Gaps.{gap_there, gap_bare}
use Rattle.ppm.proofs.Headers.{field_no_blank, field_cut, field_no_digit, field_is}
use Rattle.ppm.proofs.fields.field.Goals.{then-file-end-via-then-file-end, then-file-end-via-else-file-end+then-not-is_digit}
use Rattle.ppm.proofs.fields.field.Goals as goal

pub returns-in_err-end : goal.returns-in_err-end
unfolding blank_gap
returns-in_err-end c =
    let f = c.args.file.now in
    let rest = drop c.args.at f in
    c.from_residual.ensures
    ∙ field_no_blank f c.args.at c.requires refl
    (gap_bare (has_blank false rest) (behind f (after_gap false rest)) c.in_err-end.ensures)

pub returns-then-file-end : goal.returns-then-file-end
unfolding blank_gap
returns-then-file-end c =
    let f = c.args.file.now in
    let rest = drop c.args.at f in
    let g = gap_there (has_blank false rest) (behind f (after_gap false rest)) c.in_ok-end.ensures in
    elim c.then-file-end.branch [
      | then-file-end-via-then-file-end w ↦
          field_cut f c.args.at c.requires g.1 (λ h. omega (arith, w.if-file-end.true))
      | then-file-end-via-else-file-end+then-not-is_digit w ↦
          field_no_digit f c.args.at c.requires g.1 (omega (arith, w.if-file-end.false))
          (sym w.is_digit.ensures ∙ w.if-not-is_digit.true)
    ]

pub returns : goal.returns
unfolding blank_gap
returns c =
    let f = c.args.file.now in
    let rest = drop c.args.at f in
    let g = gap_there (has_blank false rest) (behind f (after_gap false rest)) c.in_ok-end.ensures in
    field_is f c.args.at c.requires g.1 (omega arith) g.0 (sym c.is_digit.ensures ∙ c.if-not-is_digit.false)
    c.number.ensures.value c.number.ensures.end
