-- `boxes::sides::Bounds::low_side` meets its contract: by the dimension.
-- Assumes nothing.
use mathlib.Core.Path.{refl, sym}
use borrow.Author.Rules.{rules}
use Rattle.basics.specs.Dimension.{choose}
use Rattle.grid.proofs.Places.{choose_third}
use Rattle.boxes.specs.Box.{low_side}
use Rattle.boxes.proofs.sides.Bounds.low_side.Goals as goal

pub returns-in-0 : goal.returns-in-0
unfolding low_side choose
returns-in-0 c = rw c.in-0.is refl

pub returns-in-1 : goal.returns-in-1
unfolding low_side choose
returns-in-1 c = rw c.in-1.is refl

pub returns-in_default : goal.returns-in_default
unfolding low_side
returns-in_default c = sym (choose_third c.args.dimension _ _ _ (search rules) (search rules))
