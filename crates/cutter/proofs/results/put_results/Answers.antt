-- `cutter::results::put_results` meets its contract: after each box, colours, counts and remainders are those of the
-- boxes so far.
-- Assumes nothing.
use mathlib.Core.Path.{◌≡◌, refl, sym, ap, subst, ◌∙◌}
use mathlib.Core.List.{List}
use Prim.Native.Nat.{ℕ, ◌*◌, ◌≤◌, ◌<◌}
use native.Mathlib.Nat.{le_of_lt}
use native.Mathlib.Omega.{arith}
use lib.ListN.{length, take}
use Rattle.table.specs.Cell.{View}
use Rattle.table.specs.Layout.{laid_view}
use Rattle.boxes.specs.declared.sides.Bounds.{Bounds}
use Rattle.boxes.specs.Box.{no_box}
use Rattle.cutter.specs.Fronts.{put_from}
use Rattle.cutter.specs.Palette.{its_colour, its_count, its_remainders, palette_later, counts_later}
use Rattle.cutter.specs.Palette.{remainders_later}
use Rattle.cutter.specs.Cut.{list_of}
use Rattle.cutter.specs.Inner.{with_colour_at, with_three_at, Occupied}
use Rattle.cutter.proofs.Fronts.{put_one, filled_none, filled_next, length_filled_part}
use Rattle.cutter.proofs.Colours.{three, one, three_left}
use Rattle.cutter.proofs.Listed.{list_length, list_item, take_listed}
use Rattle.cutter.proofs.results.put_results.Given.{Over}
use Rattle.cutter.proofs.results.put_results.Goals.{Start}
use Rattle.cutter.proofs.results.put_results.Goals as goal

-- all boxes have room, and so have the first i
module _ (g : Over) (s : Start g) where
  abbrev view : View
  view = laid_view g.L.Layout.layout s.args.small.now s.args.large.now

  abbrev boxes : List Bounds
  boxes = list_of s.args.b.now.boxes s.args.b.now.places

  palette_fits : 3 * length boxes ≤ length s.args.palette.now
  palette_fits = omega (arith, list_length s.requires.can_sum.1.placed, s.requires.boxes_in_bounds.0)

  counts_fits : 1 * length boxes ≤ length s.args.counts.now
  counts_fits = omega (arith, list_length s.requires.can_sum.1.placed, s.requires.boxes_in_bounds.1)

  remainders_fits : 3 * length boxes ≤ length s.args.remainders.now
  remainders_fits = omega (arith, list_length s.requires.can_sum.1.placed, s.requires.boxes_in_bounds.2)

  module _ (i : ℕ) (h : i ≤ s.args.b.now.boxes) where
    palette_long : length (palette_later s.args.g view (take i boxes) s.args.palette.now)
        ≡ length s.args.palette.now
    unfolding palette_later
    palette_long =
        length_filled_part 3 _ (three s.args.g view) boxes i (omega (arith, list_length s.requires.can_sum.1.placed))
        s.args.palette.now palette_fits

    counts_long : length (counts_later s.args.g view (take i boxes) s.args.counts.now)
        ≡ length s.args.counts.now
    unfolding counts_later
    counts_long =
        length_filled_part 1 _ (one s.args.g view) boxes i (omega (arith, list_length s.requires.can_sum.1.placed))
        s.args.counts.now counts_fits

    remainders_long : length (remainders_later s.args.g view (take i boxes) s.args.remainders.now)
        ≡ length s.args.remainders.now
    unfolding remainders_later
    remainders_long =
        length_filled_part 3 _ (three_left s.args.g view) boxes i
        (omega (arith, list_length s.requires.can_sum.1.placed)) s.args.remainders.now remainders_fits

pub loop-i-init : goal.loop-i-init
unfolding palette_later counts_later remainders_later
loop-i-init g c = (
  sym (filled_none 3 _ (three _ _) _),
  sym (filled_none 1 _ (one _ _) _),
  sym (filled_none 3 _ (three_left _ _) _),
)

pub put_result-requires : goal.put_result-requires
put_result-requires g c =
    let s = (goal.at-put_result-requires g c).Start in
    let l = c.loop-i in
    let f = c.requires.can_sum.1 in
    let t = c.loop-i-test.true in record {
      can_sum = (
        c.requires.can_sum.0,
        subst (Occupied c.args.g (view g s)) (sym (list_item f.placed l.i t refl))
            (record { within = f.placed.within l.i t; some = f.some l.i t }),
      );
      i_in_bounds = (
        omega (arith, ap length l.invariant.0, palette_long g s l.i (le_of_lt t), c.requires.boxes_in_bounds.0),
        omega (arith, ap length l.invariant.1, counts_long g s l.i (le_of_lt t), c.requires.boxes_in_bounds.1),
        omega (arith, ap length l.invariant.2, remainders_long g s l.i (le_of_lt t), c.requires.boxes_in_bounds.2),
      );
    }

pub loop-i-preserved : goal.loop-i-preserved
unfolding palette_later counts_later remainders_later with_colour_at with_three_at its_colour its_count
loop-i-preserved g c =
    let s = (goal.at-loop-i-preserved g c).Start in
    let l = c.loop-i in
    let f = c.requires.can_sum.1 in
    let grid = c.args.g in
    let v = view g s in
    let at : l.i < length (boxes g s) = omega (arith, list_length f.placed) in
    let same = list_item f.placed l.i c.loop-i-test.true refl in
    let e = c.put_result.ensures in (
      filled_next 3 _ (three grid v) (boxes g s) l.i no_box 0 at c.args.palette.now (palette_fits g s) l.invariant.0
          (e.palette ∙ ap (λ (x : Bounds). put_from l.palette (3 * l.i) (its_colour grid v x)) same),
      filled_next 1 _ (one grid v) (boxes g s) l.i no_box 0 at c.args.counts.now (counts_fits g s) l.invariant.1
          (e.counts ∙ put_one l.counts l.i _
          ∙ ap (λ (x : Bounds). put_from l.counts (1 * l.i) (its_count grid v x)) same),
      filled_next 3 _ (three_left grid v) (boxes g s) l.i no_box 0 at c.args.remainders.now (remainders_fits g s)
          l.invariant.2
          (e.remainders ∙ ap (λ (x : Bounds). put_from l.remainders (3 * l.i) (its_remainders grid v x)) same),
    )

pub returns : goal.returns
returns g c =
    let l = c.loop-i in
    let grid = c.args.g in
    let v = laid_view g.L.Layout.layout c.args.small.now c.args.large.now in
    let all = take_listed c.requires.can_sum.1.placed {i = l.i} (omega arith) in record {
      palette = l.invariant.0 ∙ ap (λ (xs : List Bounds). palette_later grid v xs c.args.palette.now) all;
      counts = l.invariant.1 ∙ ap (λ (xs : List Bounds). counts_later grid v xs c.args.counts.now) all;
      remainders = l.invariant.2 ∙ ap (λ (xs : List Bounds). remainders_later grid v xs c.args.remainders.now) all;
    }
