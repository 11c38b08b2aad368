-- `boxes::sides::Bounds::is_one_bin` meets its contract: each dimension by itself.
-- Assumes nothing.
use borrow.Author.Rules.{rules}
use Rattle.boxes.specs.Box.{one_bin}
use Rattle.boxes.proofs.sides.Bounds.is_one_bin.Goals as goal

pub returns-then-self-eq1-2 : goal.returns-then-self-eq1-2
unfolding one_bin
returns-then-self-eq1-2 c = search rules

pub returns-else-self-eq1-2 : goal.returns-else-self-eq1-2
unfolding one_bin
returns-else-self-eq1-2 c = search rules
