-- `recorder::batch::in_force` meets its contract: the range is looked at first.
-- Assumes nothing.
use mathlib.Core.Path.{sym, ap, ◌∙◌}
use Rattle.basics.specs.Refusal.{answer_of}
use Rattle.basics.proofs.Exits.{handed}
use Rattle.recorder.proofs.Sessions.{is_interval_lem, out_by, force_out, force_other, force_passes}
use Rattle.recorder.proofs.batch.in_force.Goals as goal

pub returns-in_err-in_range : goal.returns-in_err-in_range
returns-in_err-in_range c =
    let a = c.args in
    let r = c.in_err-in_range.field-0.0 in
    let out = out_by a.interval r c.in_err-in_range.ensures in
    ap answer_of (handed c.from_residual.result r c.from_residual.ensures.1) ∙ out.1 ∙ sym (force_out a.s a.interval out.0)

pub returns-then-interval-s : goal.returns-then-interval-s
returns-then-interval-s c =
    let a = c.args in
    sym (force_other a.s a.interval (is_interval_lem a.interval (sym c.in_ok-in_range.ensures)) c.if-interval-s.true)

pub returns : goal.returns
returns c =
    let a = c.args in
    sym (force_passes a.s a.interval 0 (is_interval_lem a.interval (sym c.in_ok-in_range.ensures)) c.if-interval-s.false)
