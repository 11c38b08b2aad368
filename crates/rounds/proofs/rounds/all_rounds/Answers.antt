-- `rounds::rounds::all_rounds` meets its contract: what is still to come of the loop's rounds gives the heap at the
-- end.
-- Assumes nothing.
use mathlib.Core.Path.{sym, ap, ◌∙◌}
use mathlib.Core.Bool.{Bool}
use native.Mathlib.Omega.{arith}
use lib.Ieee.{of_bits, lt}
use Rattle.table.specs.Layout.{laid_view}
use Rattle.spread.specs.Spread.{zero_of}
use Rattle.heap.specs.Boxes.{BoxSpread, no_item}
use Rattle.boxes.proofs.Whole.{whole_within}
use Rattle.rounds.proofs.Filled.{of_grid_kept, each_round, start_each}
use Rattle.rounds.proofs.Fuel.{need_less, come_start, come_full, come_stop, come_round}
use Rattle.rounds.proofs.rounds.all_rounds.Goals as goal

abbrev to_be_cut : BoxSpread → Bool
to_be_cut x = lt zero_of x.spread

pub loop-source-init : goal.loop-source-init
loop-source-init ty c =
    let s = c.requires in record {
      of_grid = rw (s.start.0, s.start.1) (start_each c.args.g (whole_within s.can_sum.0.table.accepted));
      to_come = rw s.start.0 (come_start s.start.1);
    }

pub loop-source-smaller : goal.loop-source-smaller
unfolding of_bits
loop-source-smaller ty c =
    let l = c.loop-source in
    let e = c.round.ensures in
    let on = sym (ap to_be_cut (c.top-more.ensures no_item)) ∙ c.if-not-more.false in
    rw (e.boxes, e.room)
    (need_less c.args.g (laid_view ty.L.Layout.layout c.args.small.now c.args.large.now) c.args.k c.requires.can_sum.1
    l.heap.room l.heap.len l.invariant.of_grid.in_use (omega arith) on)

pub loop-source-preserved : goal.loop-source-preserved
unfolding of_bits
loop-source-preserved ty c =
    let l = c.loop-source in
    let e = c.round.ensures in
    let v = laid_view ty.L.Layout.layout c.args.small.now c.args.large.now in
    let on = sym (ap to_be_cut (c.top-more.ensures no_item)) ∙ c.if-not-more.false in record {
      of_grid = rw (e.boxes, e.room) (each_round (of_grid_kept c.args.g v) l.invariant.of_grid (omega arith));
      to_come = rw (e.boxes, e.room)
          (come_round l.invariant.to_come (omega arith) c.requires.can_sum.1 l.invariant.of_grid.in_use on);
    }

pub returns-after-loop-source : goal.returns-after-loop-source
returns-after-loop-source ty c =
    let end = come_full c.loop-source.invariant.to_come (omega arith) in
    record { rounds = end.rounds; boxes = end.boxes; room = end.room }

pub returns-then-not-more : goal.returns-then-not-more
unfolding of_bits
returns-then-not-more ty c =
    let e = c.round.ensures in
    let off = sym (ap to_be_cut (c.top-more.ensures no_item)) ∙ c.if-not-more.true in
    let end = come_stop c.loop-source.invariant.to_come (omega arith) off in
    record { rounds = end.rounds; boxes = e.boxes ∙ end.boxes; room = e.room ∙ end.room }
