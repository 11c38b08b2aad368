-- `cutter::call::cut_on` meets its contract: the work table, the boxes of the loop, and what they give.
-- Assumes nothing.
use mathlib.Core.Path.{◌≡◌, sym, ap, subst, ◌∙◌}
use Prim.Native.Nat.{◌≤◌}
use native.Mathlib.Nat.{le_trans}
use native.Mathlib.Omega.{arith}
use Rattle.grid.specs.Grid.{bins_of}
use Rattle.table.specs.Cell.{View}
use Rattle.table.specs.Layout.{TableIn, laid, laid_view, TableOfIn}
use Rattle.table.specs.Sound.{limit}
use Rattle.table.proofs.Layouts.{sized_in}
use Rattle.table.proofs.Soundness.{Sound, sound_in}
use Rattle.sums.specs.declared.source.Source.{Source}
use Rattle.sums.specs.declared.source.Source.TheVariants.{Moments, Bins}
use Rattle.sums.specs.Moments.{CanSum}
use Rattle.sums.proofs.Steps.{can_from_moments, can_from_bins}
use Rattle.rounds.specs.declared.gather.Boxes.{Boxes}
use Rattle.rounds.specs.Loop.{boxes_of}
use Rattle.rounds.proofs.Filled.{heap_most}
use Rattle.cutter.specs.Palette.{palette_later, counts_later, remainders_later}
use Rattle.cutter.specs.Inner.{fill_from, Found}
use Rattle.cutter.specs.Cut.{buffers_in, list_of, box_list, work_later, results_on, later_on}
use Rattle.cutter.proofs.Maps.{filled_map}
use Rattle.cutter.proofs.RecordBoxes.{list_tiles, all_found}
use Rattle.cutter.proofs.call.cut_on.Given.{Over}
use Rattle.cutter.proofs.call.cut_on.Goals.{Start}
use Rattle.cutter.proofs.call.cut_on.Goals as goal

module _ (g : Over) (s : Start g) where
  abbrev view : View
  view = laid_view g.L.Layout.layout s.args.small.now s.args.large.now

  -- the table, and the work table once it is ready
  abbrev table : TableIn g.L.Layout.layout
  table = laid g.L.Layout.layout s.args.small.now s.args.large.now

  abbrev work : TableIn g.L.Layout.layout
  work = laid g.L.Layout.layout s.args.smallwork.now s.args.largework.now

  the_table : TableOfIn g.L.Layout.layout s.args.g table
  the_table =
      record {
        accepted = s.requires.accepted.0;
        lent = sized_in g.L.Layout.layout table (bins_of s.args.g) s.requires.lengths_fit.sized;
      }

  is_sound : Sound limit s.args.g view
  is_sound = sound_in g.L.Layout.layout (record { holds = s.requires.accepted.1.is_sound })

  can_sum : (w : TableIn g.L.Layout.layout) → w ≡ work_later s.args.source g.L.Layout.layout s.args.g view work
      → CanSum g.L.Layout.layout limit s.args.source s.args.g table w
  can_sum w = go s.args.source
    where
      go : (source : Source) → w ≡ work_later source g.L.Layout.layout s.args.g view work
          → CanSum g.L.Layout.layout limit source s.args.g table w
      go Moments e = can_from_moments the_table is_sound.holds e
      go Bins e = can_from_bins the_table is_sound.holds

  -- the boxes of the loop
  the_boxes : {b : Boxes} → b ≡ boxes_of s.args.g view s.args.k → Found s.args.g view b
  the_boxes e =
      subst (Found s.args.g view) (sym e)
      (all_found s.args.g view s.args.k s.requires.accepted.1.most s.requires.accepted.0 s.requires.accepted.1.some)

  few : {b : Boxes} → b ≡ boxes_of s.args.g view s.args.k → b.boxes ≤ s.args.k
  unfolding boxes_of
  few e = rw e (heap_most s.args.g view s.args.k s.requires.accepted.1.least s.requires.accepted.1.most)

pub ready-requires : goal.ready-requires
ready-requires g c = (
  the_table g (goal.at-ready-requires g c).Start,
  c.requires.accepted.1.is_sound,
  c.requires.lengths_fit.work,
)

pub cut_boxes-b-requires : goal.cut_boxes-b-requires
cut_boxes-b-requires g c = (
  can_sum g (goal.at-cut_boxes-b-requires g c).Start _ c.ready.ensures,
  c.requires.accepted.1.most,
)

pub put_results-requires : goal.put_results-requires
put_results-requires g c =
    let s = (goal.at-put_results-requires g c).Start in
    let e = c.cut_boxes-b.ensures in record {
      can_sum = (can_sum g s _ c.ready.ensures, the_boxes g s e);
      boxes_in_bounds = (
        omega (arith, few g s e, c.requires.lengths_fit.palette),
        le_trans (few g s e) c.requires.lengths_fit.counts,
        omega (arith, few g s e, c.requires.lengths_fit.remainders),
      );
    }

pub fill_boxes-requires : goal.fill_boxes-requires
fill_boxes-requires g c = (
  (the_boxes g (goal.at-fill_boxes-requires g c).Start c.cut_boxes-b.ensures).placed,
  c.requires.lengths_fit.map,
)

pub returns : goal.returns
unfolding later_on results_on box_list
returns g c =
    let a = c.args in
    let v = laid_view g.L.Layout.layout a.small.now a.large.now in
    let e = c.cut_boxes-b.ensures in
    let put = c.put_results.ensures in
    let palette = put.palette
    ∙ ap (λ (b : Boxes). palette_later a.g v (list_of b.boxes b.places) a.palette.now) e in
    let counts = put.counts
    ∙ ap (λ (b : Boxes). counts_later a.g v (list_of b.boxes b.places) a.counts.now) e in
    let remainders = put.remainders
    ∙ ap (λ (b : Boxes). remainders_later a.g v (list_of b.boxes b.places) a.remainders.now) e in
    let map = c.fill_boxes.ensures
    ∙ ap (λ (b : Boxes). fill_from a.g 0 (list_of b.boxes b.places) a.map.now) e
    ∙ filled_map a.g _ (list_tiles a.g v a.k c.requires.accepted.1.most c.requires.accepted.0) a.map.now
    c.requires.lengths_fit.map in
    record {
      answer = e;
      later = λ i. buffers_in g.L.Layout.layout (c.ready.ensures i) (palette i) (counts i) (remainders i) (map i);
    }
