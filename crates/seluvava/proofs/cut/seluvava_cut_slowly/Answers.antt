-- `seluvava::cut::seluvava_cut_slowly` meets its contract: the cut that adds up bins, lent no work table.
-- Assumes nothing.
use mathlib.Core.Path.{sym, ap, ◌∙◌}
use Rattle.sums.specs.declared.source.Source.TheVariants.{Bins}
use Rattle.table.specs.Layouts.{Wide}
use Rattle.cutter.specs.Cut.{buffers, no_work}
use Rattle.seluvava.specs.Cut.{Lent, lent, call_later}
use Rattle.seluvava.proofs.Calls.{call_leaves_work}
use Rattle.seluvava.proofs.cut.seluvava_cut_slowly.Goals as goal

pub returns : goal.returns
returns c =
    let s = c in
    let e = c.cut_and_write.ensures in
    let all : Lent = lent (buffers no_work s.args.palette.now s.args.counts.now s.args.remainders.now
    s.args.map.now) s.args.boxes.now s.args.spreads.now in
    let later : Lent = call_later Bins s.args.b1 s.args.b2 s.args.b3 s.args.k s.args.table.now
    all in
    let left = call_leaves_work Wide s.args.b1 s.args.b2 s.args.b3 s.args.k s.args.table.now all in record {
      answer = e.answer;
      later = ap (λ (l : Lent). lent (record { work = no_work; results = l.buffers.results }) l.boxes l.spreads) e.later
          ∙ (λ i. lent (record { work = sym left i; results = later.buffers.results }) later.boxes
          later.spreads);
    }
