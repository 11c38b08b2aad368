-- A first batch, and then the rest.
use Rattle.std.proofs.Common.{subst}
use Rattle.std.proofs.lemmas.Result.{IfOk-weaker}
use borrow.Author.Tests.{not-false}
use Rattle.lines.specs.Reading.{Came}
use Rattle.inputs.proofs.Reading.{behind_came, only_one, all_then}
use Rattle.listing.proofs.load_triples.Goals as goal

pub returns-then-not-first : goal.returns-then-not-first
returns-then-not-first c = only_one (behind_came c.in_ok-first.ensures.came)

pub returns : goal.returns
returns c =
    let first = behind_came c.in_ok-first.ensures.came in
    IfOk-weaker c.load_rest.result _ _
    (λ end. all_then end.more (subst (Came _ _) (not-false _ c.if-not-first.false) first))
    c.load_rest.ensures
