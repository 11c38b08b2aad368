-- `seluvava::narrow::seluvava_narrow_cut_slowly` meets its contract: the cut that adds up bins, lent no work
-- table.
-- Assumes nothing.
use mathlib.Core.Path.{sym, ap, ◌∙◌}
use Rattle.table.specs.Layouts.{Narrow}
use Rattle.table.specs.Narrow.{narrow_table}
use Rattle.sums.specs.declared.source.Source.TheVariants.{Bins}
use Rattle.cutter.specs.Cut.{buffers_in, no_work_in}
use Rattle.seluvava.specs.Cut.{LentIn, lent_in, call_later_in}
use Rattle.seluvava.proofs.Calls.{call_leaves_work}
use Rattle.seluvava.proofs.narrow.seluvava_narrow_cut_slowly.Goals as goal

pub returns : goal.returns
returns c =
    let s = c in
    let e = c.cut_and_write.ensures in
    let t = narrow_table s.args.sums.now s.args.squares.now in
    let all : LentIn Narrow = lent_in Narrow (buffers_in Narrow (no_work_in Narrow) s.args.palette.now
    s.args.counts.now s.args.remainders.now s.args.map.now) s.args.boxes.now
    s.args.spreads.now in
    let later : LentIn Narrow = call_later_in Narrow Bins s.args.b1 s.args.b2 s.args.b3 s.args.k t all in
    let left = call_leaves_work Narrow s.args.b1 s.args.b2 s.args.b3 s.args.k t all in record {
      answer = e.answer;
      later = ap (λ (l : LentIn Narrow). lent_in Narrow (record { work = no_work_in Narrow; results = l.buffers.results })
          l.boxes l.spreads) e.later
          ∙ (λ i. lent_in Narrow (record { work = sym left i; results = later.buffers.results }) later.boxes
          later.spreads);
    }
