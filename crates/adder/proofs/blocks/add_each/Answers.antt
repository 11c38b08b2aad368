-- `adder::blocks::add_each` meets its contract: after k colours the table holds what it held with the first k loaded.
-- Assumes nothing.
use Rattle.std.proofs.Common.{◌≡◌, refl, ap, ◌∙◌, ℕ, ◌<◌, ◌+◌, get_or, is_some, ◌*◌, cond, arith}
use Rattle.table.specs.Layout.{laid}
use Rattle.table.proofs.Layouts.{holds_list_in}
use Rattle.table.proofs.Soundness.{limit_high}
use Rattle.basics.specs.Range.{sum_from}
use Rattle.adder.specs.Add.{given}
use Rattle.adder.specs.Inner.{with_part, PartFits}
use Rattle.adder.proofs.Parts.{held_none, fits_later, held_later, light, has_room_lem, at_once, alone, own_weight}
use Rattle.adder.proofs.blocks.add_each.Given.{Over}
use Rattle.adder.proofs.blocks.add_each.Goals.{In-loop-k, After-colour}
use Rattle.adder.proofs.blocks.add_each.Goals as goal

-- each colour is of bytes, and the next fits the table that there is
bytes : (g : Over) (k : In-loop-k g) (i : ℕ) → get_or k.args.colours.now i 0 < 256
bytes g k i = omega (arith, k.type_inv.colours i)

next : (g : Over) (k : In-loop-k g) →
    let a = k.args in
    let l = g.L.Layout.layout in
    PartFits l a.steps.now.g (laid l k.loop-k.small k.loop-k.large) a.scale a.colours.now (is_some a.weights)
    (given a.weights) (a.at + k.loop-k.k) 1
next g k = fits_later k.requires (bytes g k) k.loop-k.k k.loop-k.invariant _ 1 refl (omega arith)

pub loop-k-init : goal.loop-k-init
loop-k-init g c =
    let a = c.args in
    let l = g.L.Layout.layout in
    held_none l a.steps.now.g (laid l a.small.now a.large.now) a.scale a.colours.now (is_some a.weights)
    (given a.weights) a.at c.requires.table.lent

pub overflow_add-i : goal.overflow_add-i
overflow_add-i g c = omega (arith, (next g c).there)

pub colour-requires : goal.colour-requires
colour-requires g c = omega (arith, (next g (goal.at-colour-requires g c).In-loop-k).there)

pub weight_at-w-requires : goal.weight_at-w-requires
weight_at-w-requires g c =
    let fits = next g (goal.at-weight_at-w-requires g c).In-loop-k in
    (grind (arith, fits.scaled.few), λ given. omega (arith, fits.there, fits.one_each given))

-- the weight is that of one colour
own : (g : Over) (k : After-colour g) →
    let a = k.args in
    k.weight_at-w.result
    ≡ a.scale * cond (is_some a.weights) (sum_from (a.at + k.loop-k.k) 1 (λ j. get_or (given a.weights) j 0)) 1
own g k =
    let a = k.args in
    let i = a.at + k.loop-k.k in
    k.weight_at-w.ensures
    ∙ ap (λ (s : ℕ). s * cond (is_some a.weights) (get_or (given a.weights) i 0) 1) (grind arith)
    ∙ own_weight a.scale (is_some a.weights) (given a.weights) i

pub add_colour-requires : goal.add_colour-requires
add_colour-requires g c =
    let k = (goal.at-add_colour-requires g c).In-loop-k in
    let same = alone k.args.colours.now (k.args.at + k.loop-k.k) in
    let weight = own g (goal.at-add_colour-requires g c).After-colour in record {
      weight = omega (
        arith,
        light (next g k) (bytes g k) same c.colour.ensures weight,
        limit_high g.L.Layout.layout,
      );
      fits = has_room_lem (next g k) (bytes g k) same c.colour.ensures weight;
    }

pub loop-k-preserved : goal.loop-k-preserved
loop-k-preserved g c =
    let k = (goal.at-loop-k-preserved g c).In-loop-k in
    let same = alone k.args.colours.now (k.args.at + k.loop-k.k) in
    held_later k.requires (bytes g k) k.loop-k.k k.loop-k.invariant _ 1 refl
    (at_once (next g k) (bytes g k) same c.colour.ensures (own g (goal.at-loop-k-preserved g c).After-colour) _
    c.add_colour.ensures)

pub returns : goal.returns
unfolding with_part
returns g c =
    let all : c.loop-k.k ≡ c.args.n = omega arith in
    holds_list_in g.L.Layout.layout (rw all at c.loop-k.invariant)
