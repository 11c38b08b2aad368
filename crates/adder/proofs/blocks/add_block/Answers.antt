-- `adder::blocks::add_block` meets its contract: 64 equal colours are added at once, others by `add_each`.
-- Assumes nothing.
use Rattle.std.proofs.Common.{◌≡◌, sym, ◌∙◌, ℕ, ◌<◌, ◌+◌, get_or, arith}
use Rattle.pixels.specs.Colour.{colour_at}
use Rattle.pixels.proofs.EqualColours.{one_colour}
use Rattle.table.proofs.Layouts.{holds_list_in}
use Rattle.table.proofs.Soundness.{limit_high}
use Rattle.adder.specs.Inner.{with_part}
use Rattle.adder.proofs.Parts.{light, has_room_lem, at_once}
use Rattle.adder.proofs.blocks.add_block.Given.{Over}
use Rattle.adder.proofs.blocks.add_block.Goals.{Then-equal_colours}
use Rattle.adder.proofs.blocks.add_block.Goals as goal

-- each colour is of bytes, and all 64 are the first
bytes : (g : Over) (k : Then-equal_colours g) (i : ℕ) → get_or k.args.colours.now i 0 < 256
bytes g k i = omega (arith, k.type_inv.colours i)

same : (g : Over) (k : Then-equal_colours g) (i : ℕ) → i < 64
    → colour_at k.args.colours.now (k.args.at + i) ≡ colour_at k.args.colours.now k.args.at
same g k i h =
    one_colour k.args.colours.now k.args.at (sym k.equal_colours.ensures ∙ k.if-equal_colours.true) i (omega arith)

pub equal_colours-requires : goal.equal_colours-requires
equal_colours-requires g c = c.requires.whole

pub block_weight-w-requires : goal.block_weight-w-requires
block_weight-w-requires g c =
    let fits = c.requires.fits in
    (omega arith, fits.scaled.few, λ given. omega (arith, fits.there, fits.one_each given))

pub colour-requires : goal.colour-requires
colour-requires g c = omega (arith, c.requires.whole)

pub add_colour-requires : goal.add_colour-requires
add_colour-requires g c =
    let k = (goal.at-add_colour-requires g c).Then-equal_colours in
    let fits = k.requires.fits in record {
      weight = omega (
        arith,
        light fits (bytes g k) (same g k) c.colour.ensures c.block_weight-w.ensures,
        limit_high g.L.Layout.layout,
      );
      fits = has_room_lem fits (bytes g k) (same g k) c.colour.ensures c.block_weight-w.ensures;
    }

pub returns-then-equal_colours : goal.returns-then-equal_colours
unfolding with_part
returns-then-equal_colours g c =
    let k = (goal.at-returns-then-equal_colours g c).Then-equal_colours in
    holds_list_in g.L.Layout.layout
    (at_once k.requires.fits (bytes g k) (same g k) c.colour.ensures c.block_weight-w.ensures _ c.add_colour.ensures)

pub add_each-requires : goal.add_each-requires
add_each-requires g c = c.requires.fits

pub returns-then-scale-ne1 : goal.returns-then-scale-ne1
returns-then-scale-ne1 g c = c.add_each.ensures

pub add_each-requires-in-Some : goal.add_each-requires-in-Some
add_each-requires-in-Some g c = rw (c.if-scale-ne1.false, c.in-Some.is) at c.requires.fits

pub returns-in-Some : goal.returns-in-Some
returns-in-Some g c = rw (c.if-scale-ne1.false, c.in-Some.is) c.add_each-in-Some.ensures

pub add_each-requires-in-None : goal.add_each-requires-in-None
add_each-requires-in-None g c = rw (c.if-scale-ne1.false, c.in-None.is) at c.requires.fits

pub returns-in-None : goal.returns-in-None
returns-in-None g c = rw (c.if-scale-ne1.false, c.in-None.is) c.add_each-in-None.ensures
