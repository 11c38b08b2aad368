-- `pixels::colour::colour` meets its contract: three bytes, read where they stand.
-- Assumes nothing.
use mathlib.Core.Path.{refl}
use Rattle.pixels.specs.Colour.{colour_at}
use Rattle.pixels.proofs.colour.colour.Goals as goal

pub returns : goal.returns
unfolding colour_at
returns c = refl
