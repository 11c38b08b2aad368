-- `cutter::call::ready` meets its contract: the moments are written where sums come from them.
-- Assumes nothing.
use mathlib.Core.Path.{sym, ap, ◌∙◌}
use Rattle.grid.specs.Grid.{bins_of}
use Rattle.table.specs.Layout.{laid, laid_view, is_sized_in}
use Rattle.table.proofs.Layouts.{sized_in}
use Rattle.sums.specs.declared.source.Source.{Source}
use Rattle.cutter.specs.Cut.{work_fits, work_later}
use Rattle.cutter.proofs.Refusals.{moments_fit}
use Rattle.cutter.proofs.call.ready.Goals as goal

pub moments-requires : goal.moments-requires
moments-requires g c =
    let l = g.L.Layout.layout in
    let w = laid l c.args.smallwork.now c.args.largework.now in
    record {
      table = c.requires.0;
      is_sound = c.requires.1;
      work = sized_in l w (bins_of c.args.g)
          (moments_fit (ap (λ (x : Source). work_fits x (is_sized_in l w (bins_of c.args.g)))
          (sym c.in-Moments.is)
          ∙ c.requires.2));
    }

pub returns-in-Moments : goal.returns-in-Moments
returns-in-Moments g c =
    let l = g.L.Layout.layout in
    c.moments.ensures
    ∙ ap (λ (x : Source). work_later x l c.args.g (laid_view l c.args.small.now c.args.large.now)
    (laid l c.args.smallwork.now c.args.largework.now)) (sym c.in-Moments.is)

pub returns-in-Bins : goal.returns-in-Bins
returns-in-Bins g c =
    let l = g.L.Layout.layout in
    ap (λ (x : Source). work_later x l c.args.g (laid_view l c.args.small.now c.args.large.now)
    (laid l c.args.smallwork.now c.args.largework.now)) (sym c.in-Bins.is)
