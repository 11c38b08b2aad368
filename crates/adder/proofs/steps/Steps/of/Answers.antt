-- `adder::steps::Steps::of` meets its contract: the three parts are all of the table.
-- Assumes nothing.
use Rattle.std.proofs.Common.{replicate, ◌≡◌, ◌∙◌, ap, refl}
use Rattle.adder.specs.Add.{step_table}
use Rattle.adder.specs.Inner.{with_dimension}
use Rattle.adder.proofs.StepTable.{three_parts}
use Rattle.adder.proofs.steps.Steps.of.Goals.{After-fill_part-3}
use Rattle.adder.proofs.steps.Steps.of.Goals as goal

all : (k : After-fill_part-3) → k.fill_part-3.new.table ≡ step_table k.args.g
all k =
    k.fill_part-3.ensures
    ∙ ap (with_dimension k.args.g 2) (k.fill_part-2.ensures ∙ ap (with_dimension k.args.g 1) k.fill_part.ensures)
    ∙ three_parts k.args.g (replicate 768 0)

pub invariant_of-result : goal.invariant_of-result
invariant_of-result c = record { filled = record { accepted = c.requires; filled = all c } }

pub returns : goal.returns
returns c = record { grid = refl; numbers = all (goal.at-returns c).After-fill_part-3 }
