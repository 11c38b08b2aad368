-- `lines::batches::load_batch` meets its contract: the load of the filled front, and the lower of the two answers.
-- Assumes nothing.
use mathlib.Core.Path.{ap, ◌∙◌}
use lib.Dec.{eqb}
use lib.ListN.{length}
use Rattle.lines.specs.Listing.{lower_of, part_number, part_later, batch_answer, batch_later}
use Rattle.lines.proofs.batches.load_batch.Goals as goal

pub returns : goal.returns
unfolding part_number part_later batch_answer batch_later
returns c =
    let number = c.lower.ensures ∙ ap (lower_of c.args.lowest) (c.answer-number.ensures ∙ c.load.ensures.number) in
    record {
      answer = λ i. record { number = number i; more = eqb c.args.filled (length c.args.batch.now) };
      later = c.load.ensures.later;
    }
