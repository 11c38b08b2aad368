-- `lines::found::cut_into` meets its contract: the cut, or what refuses it, and no more boxes than k.
-- Assumes nothing.
use mathlib.Core.Path.{refl, ap, ◌∙◌}
use Rattle.std.proofs.lemmas.Bool.{eqb-false}
use Rattle.basics.proofs.Refusals.{not_done}
use Rattle.table.specs.Layouts.{Wide}
use Rattle.cutter.proofs.RecordSize.{few}
use Rattle.sums.specs.declared.source.Source.TheVariants.{Moments}
use Rattle.cutter.specs.Cut.{cut_record, cut_later, done_record, refused_record}
use Rattle.lines.proofs.Texts.{lent_zeros_lem, found_refused, found_cut_refused, found_cut}
use Rattle.lines.proofs.found.cut_into.Goals as goal

pub returns-then-lowest-ne0-clause-is : goal.returns-then-lowest-ne0-clause-is
returns-then-lowest-ne0-clause-is c = found_refused _ _ _ c.if-lowest-ne0.true

pub returns-in-Err-clause-is : goal.returns-in-Err-clause-is
unfolding refused_record
returns-in-Err-clause-is c =
    let cut = c.in-Err in
    rw c.number.ensures
    (found_cut_refused _ _ _ c.if-lowest-ne0.false (cut.ensures.answer ∙ ap (cut_record Moments 8 8 8 c.args.k _) lent_zeros_lem)
    (eqb-false _ _ (not_done cut.refusal)))

pub returns-in-Ok-clause-is : goal.returns-in-Ok-clause-is
unfolding done_record
returns-in-Ok-clause-is c =
    let cut = c.in-Ok in
    found_cut _ _ _ c.if-lowest-ne0.false (cut.ensures.answer ∙ ap (cut_record Moments 8 8 8 c.args.k _) lent_zeros_lem)
    (cut.ensures.later ∙ ap (cut_later Moments 8 8 8 c.args.k _) lent_zeros_lem) refl

pub returns-in-Ok-clause-few : goal.returns-in-Ok-clause-few
unfolding done_record
returns-in-Ok-clause-few c = few Wide Moments _ _ 8 8 8 _ c.in-Ok.ensures.answer
