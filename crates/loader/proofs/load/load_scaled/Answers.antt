-- `loader::load::load_scaled` meets its contract: the refusals in their order, and then the batch is added.
-- Assumes nothing.
-- where the call stood: once the grid is accepted, once the weights pair, and once the table is sound
use Rattle.std.specs.Prelude.{Option, Some, is_some}
use Rattle.std.specs.Borrow.{Bor}
use mathlib.Core.List.{List}
use mathlib.Core.Bool.{true, false, true≢false, not, ◌&&◌}
use mathlib.Core.Path.{◌≡◌, refl, sym, ap, ◌∙◌}
use Prim.Native.Nat.{ℕ, ◌/◌}
use lib.ListN.{length}
use lib.Dec.{eqb}
use Rattle.basics.proofs.Exits.{there, not_there}
use Rattle.grid.specs.Grid.{grid_of, Accepted, bins_of}
use Rattle.grid.proofs.Places.{chose}
use Rattle.table.specs.Layout.{TableIn, laid, TableOfIn}
use Rattle.table.specs.Sound.{limit_of}
use Rattle.table.proofs.Layouts.{lengths_are, sized_in}
use Rattle.table.proofs.Total.{unsound_says, total_says}
use Rattle.adder.specs.Batch.{scaled_weights}
use Rattle.adder.specs.Add.{given, KnownIn, Whole, added_answer_in}
use Rattle.loader.specs.Load.{load_number_in, load_later_in}
use Rattle.adder.proofs.Scaled.{scaled_pairs, given_length}
use Rattle.loader.proofs.Calls.{pairs, load_no_grid_in, load_not_threes, load_not_paired, load_length}
use Rattle.loader.proofs.Calls.{load_unsound}
use Rattle.loader.proofs.ByAdding.{number_says, later_says}
use Rattle.loader.proofs.load.load_scaled.Given.{Over}
use Rattle.loader.proofs.load.load_scaled.Goals.{After-add_batch, Else-not-fits, In_ok-g, In_ok-had, Joined-weights, in-Some+else-weights-colours, in_default}
use Rattle.loader.proofs.load.load_scaled.Goals as goal

-- the grid, once it is accepted
on_grid : (g : Over) (k : In_ok-g g) → grid_of k.args.b1 k.args.b2 k.args.b3 ≡ Some k.in_ok-g.g
on_grid g k = sym k.grid_of.ensures ∙ there k.grid_of.result _ k.in_ok-g.ensures.value

accepted : (g : Over) (k : In_ok-g g) → Accepted k.in_ok-g.g
accepted g k = (chose _ _ _ k.in_ok-g.g (on_grid g k)).accepted

-- one weight a colour, where weights are given
whole : (g : Over) (k : Joined-weights g) → Whole k.args.colours.now (is_some k.args.weights) (given k.args.weights)
whole g k =
    record {
      threes = k.if-colours-ne0.false;
      paired =
          λ some.
          elim k.match-weights.branch [
            | in-Some+else-weights-colours w ↦
                ap (λ (o : Option (Bor (List ℕ))). length (given o)) w.in-Some.is ∙ w.if-weights-colours.false
            | in_default w ↦ absurd (true≢false (sym some ∙ ap is_some w.in_default.is))
          ];
    }

-- the weights, multiplied, pair with the colours as they do
abbrev scaled : (g : Over) → In_ok-g g → List ℕ
scaled g k =
    let a = k.args in
    scaled_weights a.scale (length a.colours.now / 3) (is_some a.weights) (given a.weights)

paired : (g : Over) (k : Joined-weights g)
    → (true && not (eqb (length (scaled g (goal.at-Joined-weights g k).In_ok-g)) (length k.args.colours.now / 3)))
    ≡ false
paired g k =
    let a = k.args in
    scaled_pairs a.scale a.colours.now (is_some a.weights) (given a.weights)
    ∙ pairs (is_some a.weights) (length (given a.weights)) (length a.colours.now / 3) (whole g k).paired

-- the table, once its lengths are right
abbrev table : (g : Over) → In_ok-g g → TableIn g.L.Layout.layout
table g k = laid g.L.Layout.layout k.args.small.now k.args.large.now

the_table : (g : Over) (k : Else-not-fits g) → TableOfIn g.L.Layout.layout k.in_ok-g.g (table g (goal.at-Else-not-fits g k).In_ok-g)
the_table g k =
    let l = g.L.Layout.layout in
    let n = bins_of k.in_ok-g.g in
    let j = (goal.at-Else-not-fits g k).In_ok-g in
    record {
      accepted = accepted g j;
      lent =
          sized_in l (table g j) n
          (sym (lengths_are l k.args.small.now k.args.large.now n) ∙ sym k.fits.ensures ∙ k.if-not-fits.false);
    }

-- its total, once it is sound
known : (g : Over) (k : In_ok-had g)
    → KnownIn g.L.Layout.layout (limit_of g.L.Layout.layout) k.in_ok-g.g (table g (goal.at-In_ok-had g k).In_ok-g) k.in_ok-had.had
known g k =
    let says =
    total_says _ _ _ k.in_ok-had.had
    (sym k.sound_total.ensures ∙ there k.sound_total.result _ k.in_ok-had.ensures.value) in
    record { table = the_table g (goal.at-In_ok-had g k).Else-not-fits; is_sound = says.0; total_is = says.1 }

-- the call, once the batch is added or has passed the limit
ended : (g : Over) (k : After-add_batch g) {r : Option ℕ} → k.add_batch.result ≡ r →
    let l = g.L.Layout.layout in
    let a = k.args in
    let j = (goal.at-After-add_batch g k).In_ok-g in
    ((added_answer_in l r).number ≡ load_number_in l a.b1 a.b2 a.b3 (table g j) a.colours.now true (scaled g j))
    × (laid l k.add_batch.new.small k.add_batch.new.large
    ≡ load_later_in l a.b1 a.b2 a.b3 (table g j) a.colours.now true (scaled g j))
ended g k e =
    let l = g.L.Layout.layout in
    let a = k.args in
    let grid = on_grid g (goal.at-After-add_batch g k).In_ok-g in
    let had = known g (goal.at-After-add_batch g k).In_ok-had in
    let batch = whole g (goal.at-After-add_batch g k).Joined-weights in (
      sym (number_says a.b1 a.b2 a.b3 grid had batch a.scale
          ∙ ap (λ (x : Option ℕ). (added_answer_in l x).number) (sym k.add_batch.ensures.answer ∙ e)),
      rw k.of-steps.ensures.grid at k.add_batch.ensures.later
          ∙ sym (later_says a.b1 a.b2 a.b3 grid had batch a.scale),
    )

pub returns-in_err-g : goal.returns-in_err-g
returns-in_err-g g c =
    let r = not_there c.grid_of.result _ c.from_residual.result c.in_err-g.ensures.value c.from_residual.ensures.1 in
    let both = load_no_grid_in g.L.Layout.layout _ _ _ _ _ _ _ (sym c.grid_of.ensures ∙ r.0) in
    record { number = r.1 ∙ both.0; later = both.1 }

pub returns-then-colours-ne0 : goal.returns-then-colours-ne0
returns-then-colours-ne0 g c =
    let grid = on_grid g (goal.at-returns-then-colours-ne0 g c).In_ok-g in
    let both = load_not_threes g.L.Layout.layout _ _ _ _ _ _ _ grid c.if-colours-ne0.true in
    record { number = both.0; later = both.1 }

pub returns-then-weights-colours : goal.returns-then-weights-colours
returns-then-weights-colours g c =
    let a = c.args in
    let grid = on_grid g (goal.at-returns-then-weights-colours g c).In_ok-g in
    let many = given_length a.scale a.colours.now (is_some a.weights) (given a.weights) (ap is_some c.in-Some.is) in
    let both =
    load_not_paired g.L.Layout.layout _ _ _ _ a.colours.now true
    (scaled g (goal.at-returns-then-weights-colours g c).In_ok-g) grid c.if-colours-ne0.false refl
    (λ e. c.if-weights-colours.true (sym (ap (λ (o : Option (Bor (List ℕ))). length (given o)) c.in-Some.is) ∙ sym many ∙ e)) in
    record { number = both.0; later = both.1 }

pub fits-requires : goal.fits-requires
fits-requires g c = accepted g (goal.at-fits-requires g c).In_ok-g

pub returns-then-not-fits : goal.returns-then-not-fits
returns-then-not-fits g c =
    let l = g.L.Layout.layout in
    let a = c.args in
    let k = (goal.at-returns-then-not-fits g c).Joined-weights in
    let both =
    load_length l _ _ _ _ _ _ _ (on_grid g (goal.at-returns-then-not-fits g c).In_ok-g) c.if-colours-ne0.false
    (paired g k)
    (sym (lengths_are l a.small.now a.large.now (bins_of c.in_ok-g.g)) ∙ sym c.fits.ensures ∙ c.if-not-fits.true) in
    record { number = both.0; later = both.1 }

pub sound_total-requires : goal.sound_total-requires
sound_total-requires g c = the_table g c

pub returns-in_err-had : goal.returns-in_err-had
returns-in_err-had g c =
    let r =
    not_there c.sound_total.result _ c.from_residual-in_err-had.result c.in_err-had.ensures.value
    c.from_residual-in_err-had.ensures.1 in
    let both =
    load_unsound g.L.Layout.layout _ _ _ _ _ _ _ (on_grid g (goal.at-returns-in_err-had g c).In_ok-g)
    c.if-colours-ne0.false (paired g (goal.at-returns-in_err-had g c).Joined-weights)
    (the_table g (goal.at-returns-in_err-had g c).Else-not-fits).lent
    (unsound_says _ _ _ (sym c.sound_total.ensures ∙ r.0)) in
    record { number = r.1 ∙ both.0; later = both.1 }

pub of-steps-requires : goal.of-steps-requires
of-steps-requires g c = accepted g (goal.at-of-steps-requires g c).In_ok-g

pub add_batch-requires-clause-known : goal.add_batch-requires-clause-known
add_batch-requires-clause-known g c =
    rw c.of-steps.ensures.grid (known g (goal.at-add_batch-requires-clause-known g c).In_ok-had)

pub add_batch-requires-clause-whole : goal.add_batch-requires-clause-whole
add_batch-requires-clause-whole g c = whole g (goal.at-add_batch-requires-clause-whole g c).Joined-weights

pub returns-in_err-ok_or : goal.returns-in_err-ok_or
returns-in_err-ok_or g c =
    let r =
    not_there c.add_batch.result _ c.from_residual-in_err-ok_or.result c.in_err-ok_or.ensures.value
    c.from_residual-in_err-ok_or.ensures.1 in
    let both = ended g (goal.at-returns-in_err-ok_or g c).After-add_batch r.0 in
    record { number = r.1 ∙ c.too_heavy.ensures ∙ both.0; later = both.1 }

pub returns : goal.returns
returns g c =
    let e = there c.add_batch.result _ c.in_ok-ok_or.ensures.value in
    let both = ended g (goal.at-returns g c).After-add_batch e in
    record { number = both.0; later = both.1 }
