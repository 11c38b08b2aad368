-- `recorder::session::reload` meets its contract: an interval out of range leaves the one in force.
-- Assumes nothing.
use mathlib.Core.Path.{sym, ◌∙◌}
use Rattle.recorder.proofs.Sessions.{is_interval_lem, out_by, reload_sets, reload_leaves}
use Rattle.recorder.proofs.session.reload.Goals as goal

pub returns-in-Ok : goal.returns-in-Ok
returns-in-Ok c = let a = c.args in sym (reload_sets a.s a.interval (is_interval_lem a.interval (sym c.in-Ok.ensures)))

pub returns-in-Err : goal.returns-in-Err
returns-in-Err c =
    let a = c.args in
    let out = out_by a.interval c.in-Err.refusal c.in-Err.ensures in
    (λ j. record { number = (c.number.ensures ∙ out.1) j; session = a.s }) ∙ sym (reload_leaves a.s a.interval out.0)
