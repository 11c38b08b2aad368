-- `lines::text::text` meets its contract: the listing of what was found, or the line of the refusal.
-- Assumes nothing.
use mathlib.Core.Path.{sym, ap, ◌∙◌}
use Rattle.lines.proofs.Texts.{said, text_said}
use Rattle.lines.specs.Inner.{listing_found}
use Rattle.lines.proofs.text.text.Goals as goal

pub returns-in-Ok : goal.returns-in-Ok
returns-in-Ok c =
    let e = text_said c.args.lowest c.args.table.now ∙ ap (said listing_found) (sym c.in-Ok.ensures.is) in
    rw e c.listing.ensures

pub returns-in-Err : goal.returns-in-Err
returns-in-Err c =
    let e = text_said c.args.lowest c.args.table.now ∙ ap (said listing_found) (sym c.in-Err.ensures.is) in
    rw e c.refused.ensures
