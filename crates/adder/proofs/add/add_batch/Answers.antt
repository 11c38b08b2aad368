-- `adder::add::add_batch` meets its contract: the total then is known before the first colour is added.
-- Assumes nothing.
use Rattle.std.proofs.Common.{◌≡◌, sym, ap, ◌∙◌, cond, is_some, List, ℕ, ◌+◌, ◌*◌, ◌/◌, length, arith}
use Rattle.grid.specs.Grid.{bins_of}
use Rattle.table.specs.Layout.{TableIn, laid, view_in, written_in}
use Rattle.table.specs.Sound.{limit_of}
use Rattle.table.proofs.Soundness.{limit_high, total_high}
use Rattle.adder.specs.Batch.{Weighted, loaded}
use Rattle.adder.specs.Add.{given, scaled_batch, added_to}
use Rattle.adder.specs.Inner.{all_weights, held_to, with_part}
use Rattle.adder.proofs.Scaled.{part_scaled, whole_weight}
use Rattle.adder.proofs.Adding.{held_added, total_means, passed_means, later_fits, later_passes}
use Rattle.adder.proofs.add.add_batch.Given.{Over}
use Rattle.adder.proofs.add.add_batch.Goals.{After-batch_total}
use Rattle.adder.proofs.add.add_batch.Goals as goal

-- the batch, the limit of the layout, and the table on entry
module _ (g : Over) (k : After-batch_total g) where
  abbrev batch : List Weighted
  batch = let a = k.args in scaled_batch a.scale a.colours.now (is_some a.weights) (given a.weights)

  abbrev most : ℕ
  most = limit_of g.L.Layout.layout

  abbrev table : TableIn g.L.Layout.layout
  table = laid g.L.Layout.layout k.args.small.now k.args.large.now

  -- the total is that of the definition
  tested : k.batch_total.result ≡ added_to most k.args.had batch
  tested =
      let a = k.args in
      let n = length a.colours.now / 3 in
      k.batch_total.ensures
      ∙ ap (λ (m : ℕ). held_to m (a.had + a.scale * cond (is_some a.weights) (all_weights (given a.weights)) n))
      k.limit.ensures
      ∙ ap (λ (x : ℕ). held_to most (a.had + x))
      (sym (whole_weight a.scale a.colours.now (is_some a.weights) (given a.weights) k.requires.whole))
      ∙ held_added most a.had batch

pub batch_total-requires : goal.batch_total-requires
batch_total-requires g c =
    let known = c.requires.known in
    let l = g.L.Layout.layout in
    let t : TableIn l = laid l c.args.small.now c.args.large.now in (
      omega (
        arith,
        c.limit.ensures,
        known.total_is,
        total_high {v = view_in l t} (record { holds = known.is_sound }),
      ),
      omega (arith, c.limit.ensures, limit_high l),
      c.requires.scale,
    )

pub returns-in_err-total-clause-answer : goal.returns-in_err-total-clause-answer
returns-in_err-total-clause-answer g c =
    let k = (goal.at-returns-in_err-total-clause-answer g c).After-batch_total in
    c.from_residual.ensures ∙ sym c.in_err-total.was ∙ tested g k

pub returns-in_err-total-clause-later : goal.returns-in_err-total-clause-later
returns-in_err-total-clause-later g c =
    let k = (goal.at-returns-in_err-total-clause-later g c).After-batch_total in
    let a = k.args in
    sym
    (later_passes (most g k) a.had (batch g k) g.L.Layout.layout a.steps.now.g (table g k)
    (passed_means (most g k) a.had (batch g k) (sym (tested g k) ∙ c.in_err-total.was)))

pub add_blocks-requires : goal.add_blocks-requires
add_blocks-requires g c =
    let k = (goal.at-add_blocks-requires g c).After-batch_total in
    let a = k.args in
    let known = k.requires.known in
    let fits = (total_means (most g k) a.had (batch g k) (sym (tested g k) ∙ c.in_ok-total.was)).0 in record {
      scaled = k.requires.scale;
      table = known.table;
      is_sound = known.is_sound;
      there = omega arith;
      one_each = k.requires.whole.paired;
      under =
          rw (part_scaled a.scale a.colours.now (is_some a.weights) (given a.weights), ← known.total_is) fits;
    }

pub returns-clause-answer : goal.returns-clause-answer
returns-clause-answer g c =
    let k = (goal.at-returns-clause-answer g c).After-batch_total in
    sym c.in_ok-total.was ∙ tested g k

pub returns-clause-later : goal.returns-clause-later
unfolding with_part
returns-clause-later g c =
    let k = (goal.at-returns-clause-later g c).After-batch_total in
    let a = k.args in
    let l = g.L.Layout.layout in
    let grid = a.steps.now.g in
    let fits = (total_means (most g k) a.had (batch g k) (sym (tested g k) ∙ c.in_ok-total.was)).0 in
    c.add_blocks.ensures
    ∙ ap (λ (cs : List Weighted). written_in l (bins_of grid) (loaded grid cs (view_in l (table g k))))
    (part_scaled a.scale a.colours.now (is_some a.weights) (given a.weights))
    ∙ sym (later_fits (most g k) a.had (batch g k) l grid (table g k) fits)
