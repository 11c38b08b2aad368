-- `adder::blocks::add_blocks` meets its contract: after i colours the table holds what it held with the first i loaded.
-- Assumes nothing.
use Rattle.std.proofs.Common.{◌≡◌, ℕ, ◌-◌, ◌<◌, ◌+◌, get_or, is_some, arith}
use Rattle.table.specs.Layout.{laid}
use Rattle.table.proofs.Layouts.{holds_list_in}
use Rattle.adder.specs.Add.{given}
use Rattle.adder.specs.Inner.{with_part}
use Rattle.adder.proofs.Parts.{held_none, fits_later, held_later, part_held}
use Rattle.adder.proofs.blocks.add_blocks.Given.{Over}
use Rattle.adder.proofs.blocks.add_blocks.Goals.{At-loop-i}
use Rattle.adder.proofs.blocks.add_blocks.Goals as goal

-- each colour is of bytes
bytes : (g : Over) (k : At-loop-i g) (i : ℕ) → get_or k.args.colours.now i 0 < 256
bytes g k i = omega (arith, k.type_inv.colours i)

pub loop-i-init : goal.loop-i-init
loop-i-init g c =
    let a = c.args in
    let l = g.L.Layout.layout in (
      omega arith,
      held_none l a.steps.now.g (laid l a.small.now a.large.now) a.scale a.colours.now (is_some a.weights)
          (given a.weights) 0 c.requires.table.lent,
    )

pub add_block-requires : goal.add_block-requires
add_block-requires g c =
    let k = (goal.at-add_block-requires g c).At-loop-i in
    let i = k.loop-i.i in record {
      fits = fits_later k.requires (bytes g k) i k.loop-i.invariant.1 i 64 (omega arith) (omega arith);
      whole = omega (arith, k.requires.there);
    }

pub loop-i-preserved : goal.loop-i-preserved
loop-i-preserved g c =
    let k = (goal.at-loop-i-preserved g c).At-loop-i in
    let a = k.args in
    let l = g.L.Layout.layout in
    let i = k.loop-i.i in (
      omega arith,
      held_later k.requires (bytes g k) i k.loop-i.invariant.1 i 64 (omega arith)
          (part_held l a.steps.now.g (laid l k.loop-i.small k.loop-i.large) a.scale a.colours.now (is_some a.weights)
          (given a.weights) i 64 _ c.add_block.ensures),
    )

pub add_last-requires : goal.add_last-requires
add_last-requires g c =
    let k = (goal.at-add_last-requires g c).At-loop-i in
    let i = k.loop-i.i in record {
      fits = fits_later k.requires (bytes g k) i k.loop-i.invariant.1 i (k.args.n - i) (omega arith) (omega arith);
      few = omega arith;
    }

pub returns : goal.returns
unfolding with_part
returns g c =
    let k = (goal.at-returns g c).At-loop-i in
    let a = k.args in
    let l = g.L.Layout.layout in
    let i = k.loop-i.i in
    let all : i + (a.n - i) ≡ a.n = omega arith in
    holds_list_in l
    (rw all at
    (held_later k.requires (bytes g k) i k.loop-i.invariant.1 i (a.n - i) (omega arith)
    (part_held l a.steps.now.g (laid l k.loop-i.small k.loop-i.large) a.scale a.colours.now (is_some a.weights)
    (given a.weights) i (a.n - i) _ c.add_last.ensures)))
