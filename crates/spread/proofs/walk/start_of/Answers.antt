-- `spread::start_of` meets its contract: by the dimension.
-- Assumes nothing.
use Rattle.std.proofs.Common.{arith}
use mathlib.Core.Path.{◌∙◌}
use Rattle.spread.proofs.Cross.{first_start, second_start, third_start}
use Rattle.spread.proofs.walk.start_of.Goals as goal

pub place-requires : goal.place-requires
place-requires c =
    (first_start c.requires.0 (omega arith) (omega arith) c.args.dimension c.in-0.is c.requires.1 c.requires.2).0

pub place-requires-in-1 : goal.place-requires-in-1
place-requires-in-1 c =
    (second_start c.requires.0 (omega arith) (omega arith) c.args.dimension c.in-1.is c.requires.1 c.requires.2).0

pub place-requires-in_default : goal.place-requires-in_default
place-requires-in_default c =
    (third_start c.requires.0 (omega arith) (omega arith) c.args.dimension (λ z. omega arith) (λ z. omega arith)
    c.requires.1 c.requires.2).0

pub returns-in-0 : goal.returns-in-0
returns-in-0 c =
    c.place.ensures
    ∙ (first_start c.requires.0 (omega arith) (omega arith) c.args.dimension c.in-0.is c.requires.1 c.requires.2).1

pub returns-in-1 : goal.returns-in-1
returns-in-1 c =
    c.place-in-1.ensures
    ∙ (second_start c.requires.0 (omega arith) (omega arith) c.args.dimension c.in-1.is c.requires.1 c.requires.2).1

pub returns-in_default : goal.returns-in_default
returns-in_default c =
    c.place-in_default.ensures
    ∙ (third_start c.requires.0 (omega arith) (omega arith) c.args.dimension (λ z. omega arith) (λ z. omega arith)
    c.requires.1 c.requires.2).1
