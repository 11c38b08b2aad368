-- None has come before the first turn, and after each turn one batch more.
use Rattle.std.proofs.Common.{sym, subst, arith}
use borrow.Author.Tests.{not-false}
use Rattle.lines.specs.Reading.{AllCame}
use Rattle.lines.proofs.Reading.{none_came, one_more}
use Rattle.inputs.proofs.Reading.{behind_came}
use Rattle.listing.proofs.load_rest.Goals as goal

pub loop-turn-init : goal.loop-turn-init
loop-turn-init c = (subst (AllCame _ _) (sym c.requires.more) (none_came _), omega arith)

pub loop-turn-preserved : goal.loop-turn-preserved
loop-turn-preserved c =
    let next = c.in_ok-so_far.ensures in (
      one_more _ (not-false _ c.if-not-so_far.false) c.loop-turn.invariant.0 (behind_came next.came),
      omega (arith, c.loop-turn.invariant.1, next.few, c.requires.room.few),
    )
