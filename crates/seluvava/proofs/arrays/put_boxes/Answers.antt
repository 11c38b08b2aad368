-- `seluvava::arrays::put_boxes` meets its contract: after each box, both arrays have the boxes so far in front.
-- Assumes nothing.
use mathlib.Core.Path.{refl, sym, ap, ◌∙◌}
use mathlib.Core.List.{List}
use native.Mathlib.Nat.{le_of_lt}
use native.Mathlib.Omega.{arith}
use lib.ListN.{length}
use Rattle.heap.specs.Boxes.{BoxSpread}
use Rattle.cutter.specs.Cut.{done_record}
use Rattle.cutter.specs.Fronts.{filled}
use Rattle.cutter.proofs.Fronts.{filled_none}
use Rattle.seluvava.specs.Cut.{its_bytes, spread_of}
use Rattle.seluvava.proofs.Boxes.{six, one, told_all, boxes_next, spreads_next, boxes_long, spreads_long}
use Rattle.seluvava.proofs.arrays.put_boxes.Goals as goal

pub loop-i-init : goal.loop-i-init
loop-i-init c = (sym (filled_none 6 its_bytes six _), sym (filled_none 1 spread_of one _))

pub put_box-requires : goal.put_box-requires
unfolding done_record
put_box-requires c =
    let l = c.loop-i in
    let r = c.requires in
    let long = boxes_long (done_record c.args.b.now) r.0 r.1 l.i (le_of_lt c.loop-i-test.true) c.args.boxes.now r.2 in
    omega (arith, c.loop-i-test.true, r.2, ap length l.invariant.0, long)

pub bounds-spreads-i : goal.bounds-spreads-i
unfolding done_record
bounds-spreads-i c =
    let l = c.loop-i in
    let r = c.requires in
    let long = spreads_long (done_record c.args.b.now) r.0 r.1 l.i (le_of_lt c.loop-i-test.true) c.args.spreads.now r.3 in
    omega (arith, c.loop-i-test.true, r.3, ap length l.invariant.1, long)

pub loop-i-preserved : goal.loop-i-preserved
unfolding done_record
loop-i-preserved c =
    let l = c.loop-i in
    let r = c.requires in
    let b = done_record c.args.b.now in
    let t = c.loop-i-test.true in (
      boxes_next b r.0 r.1 l.i t refl c.args.boxes.now r.2 l.invariant.0 c.put_box.ensures,
      spreads_next b r.0 r.1 l.i t refl c.args.spreads.now r.3 l.invariant.1 refl,
    )

pub returns : goal.returns
unfolding done_record
returns c =
    let l = c.loop-i in
    let all = told_all (done_record c.args.b.now) c.requires.0 c.requires.1 {i = l.i} (omega arith) in record {
      boxes = l.invariant.0 ∙ ap (λ (xs : List BoxSpread). filled 6 its_bytes xs c.args.boxes.now) all;
      spreads = l.invariant.1 ∙ ap (λ (xs : List BoxSpread). filled 1 spread_of xs c.args.spreads.now) all;
    }
