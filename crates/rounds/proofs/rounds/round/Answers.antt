-- `rounds::rounds::round` meets its contract: the top is cut or put back.
-- Assumes nothing.
use mathlib.Core.Path.{sym, ap, ◌∙◌}
use native.Mathlib.Omega.{arith}
use lib.Ieee.{of_bits, lt}
use Rattle.table.specs.Cell.{View}
use Rattle.table.specs.Layout.{laid_view}
use Rattle.spread.specs.Spread.{zero_of}
use Rattle.spread.specs.Cut.{best_cut}
use Rattle.heap.specs.Boxes.{BoxSpread}
use Rattle.heap.specs.Heap.{put_in}
use Rattle.rounds.specs.Loop.{by_spread, no_item, room_after, boxes_after}
use Rattle.rounds.proofs.OneRound.{room_on_lem, boxes_on, room_stops, boxes_stops}
use Rattle.rounds.proofs.rounds.round.Given.{Over}
use Rattle.rounds.proofs.rounds.round.Goals.{Start}
use Rattle.rounds.proofs.rounds.round.Goals as goal

abbrev view : (ty : Over) → Start ty → View
view ty s = laid_view ty.L.Layout.layout s.args.small.now s.args.large.now

pub returns-then-top : goal.returns-then-top
unfolding of_bits
returns-then-top ty c =
    let s = (goal.at-returns-then-top ty c).Start in
    let h = s.args.heap.now in
    let e = c.take_out-top.ensures in
    let on = sym (ap (λ (x : BoxSpread). lt zero_of x.spread) (e.top no_item)) ∙ c.if-top.true in record {
      boxes = c.cut_top.ensures.boxes
          ∙ (λ i. boxes_after (e.len i) (best_cut s.args.g (view ty s) (e.top no_item i).bounds))
          ∙ sym (boxes_on s.args.g (view ty s) h.room h.len on);
      room = c.cut_top.ensures.room
          ∙ (λ i. room_after s.args.g (view ty s) (e.room no_item i) (e.len i) (e.top no_item i).bounds
          (best_cut s.args.g (view ty s) (e.top no_item i).bounds))
          ∙ sym (room_on_lem s.args.g (view ty s) h.room h.len on);
    }

pub returns-else-top : goal.returns-else-top
unfolding of_bits
returns-else-top ty c =
    let s = (goal.at-returns-else-top ty c).Start in
    let h = s.args.heap.now in
    let e = c.take_out-top.ensures in
    let off = sym (ap (λ (x : BoxSpread). lt zero_of x.spread) (e.top no_item)) ∙ c.if-top.false in record {
      boxes = omega (arith, boxes_stops s.args.g (view ty s) h.room h.len off);
      room = c.put_in.ensures.room no_item
          ∙ (λ i. put_in by_spread no_item (e.room no_item i) (e.len i) (e.top no_item i))
          ∙ sym (room_stops s.args.g (view ty s) h.room h.len off);
    }
