-- `seluvava::cut::cut_and_write` meets its contract: without the room nothing is cut, and else the boxes of the cut
-- are written.
-- Assumes nothing.
use mathlib.Core.Path.{refl, sym, ◌∙◌}
use native.Mathlib.Omega.{arith}
use borrow.Author.Tests.{eqb-false}
use lib.ListN.{length}
use Rattle.basics.proofs.Refusals.{not_done}
use Rattle.table.specs.Layout.{TableIn, laid}
use Rattle.cutter.specs.Cut.{BuffersIn, buffers_in, done_record, refused_record}
use Rattle.cutter.proofs.Fronts.{filled_none}
use Rattle.cutter.proofs.RecordSize.{few, all_places}
use Rattle.seluvava.specs.Cut.{LentIn, lent_in, its_bytes, spread_of, told}
use Rattle.seluvava.proofs.Boxes.{six, one}
use Rattle.seluvava.proofs.Calls.{roomy, call_refused, call_done}
use Rattle.seluvava.proofs.cut.cut_and_write.Given.{Over}
use Rattle.seluvava.proofs.cut.cut_and_write.Goals.{Start}
use Rattle.seluvava.proofs.cut.cut_and_write.Goals as goal

module _ (g : Over) (s : Start g) where
  abbrev table : TableIn g.L.Layout.layout
  table = laid g.L.Layout.layout s.args.small.now s.args.large.now

  abbrev five : BuffersIn g.L.Layout.layout
  five =
      buffers_in g.L.Layout.layout (laid g.L.Layout.layout s.args.smallwork.now s.args.largework.now)
      s.args.palette.now s.args.counts.now s.args.remainders.now s.args.map.now

  abbrev all : LentIn g.L.Layout.layout
  all = lent_in g.L.Layout.layout five s.args.boxes.now s.args.spreads.now

pub returns-in-Err : goal.returns-in-Err
returns-in-Err g c =
    let a = c.args in
    let s = (goal.at-returns-in-Err g c).Start in
    let both = call_refused g.L.Layout.layout a.source a.b1 a.b2 a.b3 a.k (table g s) (all g s) c.in-Err.ensures
    (eqb-false _ 0 (not_done c.in-Err.refusal)) in
    record { answer = c.refused.ensures ∙ both.0; later = both.1 }

pub put_boxes-requires : goal.put_boxes-requires
unfolding done_record
put_boxes-requires g c =
    let a = c.args in
    let l = g.L.Layout.layout in
    let s = (goal.at-put_boxes-requires g c).Start in
    let r = roomy a.b1 a.b2 a.b3 a.k (length a.boxes.now) (length a.spreads.now) (sym c.in_default.ensures) in
    let e = c.in-Ok.ensures.answer in
    let n = few l a.source a.k (table g s) a.b1 a.b2 a.b3 (five g s) e in (
      all_places l a.source a.k (table g s) a.b1 a.b2 a.b3 (five g s) e,
      omega (arith, n, r.most),
      omega (arith, n, r.boxes_fit),
      omega (arith, n, r.spreads_fit),
    )

pub returns-in-Ok : goal.returns-in-Ok
unfolding done_record
returns-in-Ok g c =
    let a = c.args in
    let s = (goal.at-returns-in-Ok g c).Start in
    let e = c.in-Ok.ensures in
    let put = c.put_boxes.ensures in
    let both = call_done g.L.Layout.layout a.source a.b1 a.b2 a.b3 a.k (table g s) (all g s) c.in_default.ensures
    refl e.answer e.later put.boxes put.spreads in
    record { answer = both.0; later = both.1 }

-- of a refusal no box is told
pub returns-in-Err-result : goal.returns-in-Err-result
unfolding refused_record told
returns-in-Err-result g c =
    let a = c.args in
    let s = (goal.at-returns-in-Err-result g c).Start in
    let e = c.in-Err-result.ensures in
    let both = call_done g.L.Layout.layout a.source a.b1 a.b2 a.b3 a.k (table g s) (all g s) c.in_default.ensures
    refl e.answer e.later
    (sym (filled_none 6 its_bytes six _)) (sym (filled_none 1 spread_of one _)) in
    record { answer = c.refused-in-Err-result.ensures ∙ both.0; later = both.1 }
