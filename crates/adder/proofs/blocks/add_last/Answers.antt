-- `adder::blocks::add_last` meets its contract: equal colours are added at once, others by `add_each`.
-- Assumes nothing.
-- where they are seen to be equal: each is of bytes, there are some, and all are the first
use Rattle.std.proofs.Common.{◌≡◌, sym, ◌∙◌, true, ℕ, ◌+◌, ◌<◌, get_or, arith}
use Rattle.pixels.specs.Colour.{colour_at}
use Rattle.table.proofs.Layouts.{holds_list_in}
use Rattle.table.proofs.Soundness.{limit_high}
use Rattle.adder.specs.Inner.{last_equal, with_part}
use Rattle.adder.proofs.Parts.{light, has_room_lem, at_once, some_equal, last_same}
use Rattle.adder.proofs.blocks.add_last.Given.{Over}
use Rattle.adder.proofs.blocks.add_last.Goals.{Then-last_equal}
use Rattle.adder.proofs.blocks.add_last.Goals as goal

module _ (g : Over) (k : Then-last_equal g) where
  bytes : (i : ℕ) → get_or k.args.colours.now i 0 < 256
  bytes i = omega (arith, k.type_inv.colours i)

  equal : last_equal k.args.colours.now k.args.at k.args.n ≡ true
  equal = sym k.last_equal.ensures ∙ k.if-last_equal.true

  some : 0 < k.args.n
  some = some_equal k.args.colours.now k.args.at k.args.n equal

  same : (i : ℕ) → i < k.args.n
      → colour_at k.args.colours.now (k.args.at + i) ≡ colour_at k.args.colours.now k.args.at
  same = last_same k.args.colours.now k.args.at k.args.n k.requires.few equal

pub block_weight-w-requires : goal.block_weight-w-requires
block_weight-w-requires g c =
    let fits = c.requires.fits in
    (c.requires.few, fits.scaled.few, λ given. omega (arith, fits.there, fits.one_each given))

pub colour-requires : goal.colour-requires
colour-requires g c = omega (arith, some g (goal.at-colour-requires g c).Then-last_equal, c.requires.fits.there)

pub add_colour-requires : goal.add_colour-requires
add_colour-requires g c =
    let k = (goal.at-add_colour-requires g c).Then-last_equal in
    let fits = k.requires.fits in record {
      weight = omega (
        arith,
        light fits (bytes g k) (same g k) c.colour.ensures c.block_weight-w.ensures,
        limit_high g.L.Layout.layout,
      );
      fits = has_room_lem fits (bytes g k) (same g k) c.colour.ensures c.block_weight-w.ensures;
    }

pub returns-then-last_equal : goal.returns-then-last_equal
unfolding with_part
returns-then-last_equal g c =
    let k = (goal.at-returns-then-last_equal g c).Then-last_equal in
    holds_list_in g.L.Layout.layout
    (at_once k.requires.fits (bytes g k) (same g k) c.colour.ensures c.block_weight-w.ensures _ c.add_colour.ensures)

pub add_each-requires : goal.add_each-requires
add_each-requires g c = c.requires.fits

pub returns : goal.returns
returns g c = c.add_each.ensures
