-- `adder::shares::add_colour` meets its contract: what was looked up is the place of the colour and its squares.
-- Assumes nothing.
use Rattle.std.proofs.Common.{refl, arith}
use Rattle.grid.proofs.Places.{Bytes}
use Rattle.adder.specs.Inner.{with_colour}
use Rattle.adder.proofs.StepTable.{place_below, squares_above}
use Rattle.adder.proofs.shares.add_colour.Given.{Over}
use Rattle.adder.proofs.shares.add_colour.Goals.{After-look_up-v}
use Rattle.adder.proofs.shares.add_colour.Goals as goal

is_bytes : (g : Over) (k : After-look_up-v g) → Bytes k.args.x
is_bytes g k = record { one = omega arith; two = omega arith; three = omega arith }

pub share_of-requires : goal.share_of-requires
share_of-requires g c =
    let b = is_bytes g (goal.at-share_of-requires g c).After-look_up-v in
    (omega (arith, c.requires.weight), squares_above c.args.steps.now.filled b c.look_up-v.ensures)

pub add_at-requires : goal.add_at-requires
add_at-requires g c =
    let k = (goal.at-add_at-requires g c).After-look_up-v in
    rw (place_below c.args.steps.now.filled (is_bytes g k) c.look_up-v.ensures, c.share_of.ensures) c.requires.fits

pub returns : goal.returns
unfolding with_colour
returns g c =
    let k = (goal.at-returns g c).After-look_up-v in
    rw (
      c.add_at.ensures,
      place_below c.args.steps.now.filled (is_bytes g k) c.look_up-v.ensures,
      c.share_of.ensures,
    ) refl
