-- `rounds::rounds::cut_top` meets its contract: no position puts the box back, and a position puts in its two sides.
-- Assumes nothing.
use Rattle.std.specs.Prelude.{Some}
use mathlib.Core.Path.{◌≡◌, sym, ap, ◌∙◌}
use native.Mathlib.Omega.{arith}
use lib.Ieee.{of_bits}
use Rattle.grid.specs.declared.place.Grid.{Grid}
use Rattle.table.specs.Cell.{View}
use Rattle.table.specs.Layout.{laid_view}
use Rattle.boxes.specs.declared.sides.Bounds.{Bounds}
use Rattle.boxes.specs.Box.{low_side, high_side, Ordered, Within}
use Rattle.sums.specs.declared.box_sums.Stats.{Stats}
use Rattle.sums.specs.Box.{stats_of}
use Rattle.spread.specs.declared.both_sides.BestCut.{BestCut}
use Rattle.spread.specs.Spread.{spread_of, Plain}
use Rattle.spread.specs.Cut.{best_cut}
use Rattle.spread.proofs.Choose.{plain_stats}
use Rattle.heap.specs.Boxes.{BoxSpread}
use Rattle.heap.specs.Heap.{put_in}
use Rattle.rounds.specs.Loop.{by_spread, no_item, with_spread}
use Rattle.boxes.proofs.Within.{within_ordered}
use Rattle.spread.proofs.Cases.{position_in, cut_position, cut_low, cut_high, low_box, high_box}
use Rattle.rounds.proofs.OneRound.{boxes_none, room_none, boxes_cut, room_cut}
use Rattle.rounds.proofs.rounds.cut_top.Given.{Over}
use Rattle.rounds.proofs.rounds.cut_top.Goals.{After-best_cut, Start}
use Rattle.rounds.proofs.rounds.cut_top.Goals as goal

abbrev view : (ty : Over) → Start ty → View
view ty s = laid_view ty.L.Layout.layout s.args.small.now s.args.large.now

-- a box with the spread that its statistics give
spread_is : (g : Grid) (v : View) {x y : Bounds} {r : Stats} {z : BoxSpread} → y ≡ x → r ≡ stats_of g v x
    → z ≡ record { bounds = y; spread = spread_of y r } → z ≡ with_spread g v x
unfolding with_spread
spread_is g v e l f = f ∙ (λ t. record { bounds = e t; spread = spread_of (e t) (l t) })

-- a box of the grid with its statistics has a spread
fits : (ty : Over) (s : Start ty) {x y : Bounds} {r : Stats} → Within s.args.g x → y ≡ x
    → r ≡ stats_of s.args.g (view ty s) x → Ordered y × Plain r
fits ty s w e l =
    rw e (within_ordered w, plain_stats {v = view ty s} (record { holds = s.requires.can_sum.0.is_sound }) w l)

-- the position that was found, with its two sides
module _ (ty : Over) (k : After-best_cut ty) (b : BestCut) (q : k.best_cut.result ≡ Some b) where
  abbrev start : Start ty
  start = (goal.at-After-best_cut ty k).Start

  best : best_cut start.args.g (view ty start) start.args.x ≡ Some b.position
  best =
      sym (cut_position start.args.g (view ty start) start.args.x
      (best_cut start.args.g (view ty start) start.args.x))
      ∙ ap position_in (sym k.best_cut.ensures ∙ q)

  the_low : b.low ≡ stats_of start.args.g (view ty start) (low_side start.args.x b.position.dimension b.position.bin)
  the_low = cut_low start.args.g (view ty start) start.args.x best (sym k.best_cut.ensures ∙ q)

  the_high : b.high ≡ stats_of start.args.g (view ty start) (high_side start.args.x b.position.dimension b.position.bin)
  the_high = cut_high start.args.g (view ty start) start.args.x best (sym k.best_cut.ensures ∙ q)

pub returns-in_default : goal.returns-in_default
unfolding of_bits
returns-in_default ty c =
    let g = c.args.g in
    let v = laid_view ty.L.Layout.layout c.args.small.now c.args.large.now in
    let h = c.args.heap.now in
    let q =
    sym (cut_position g v c.args.x (best_cut g v c.args.x)) ∙ ap position_in (sym c.best_cut.ensures ∙ c.in_default.is)
    in
    record {
      boxes = c.put_in.ensures.len ∙ sym (boxes_none g v h.room h.len c.args.x q);
      room = c.put_in.ensures.room no_item ∙ sym (room_none g v h.room h.len c.args.x q);
    }

pub with_spread-low-requires : goal.with_spread-low-requires
with_spread-low-requires ty c =
    let k = (goal.at-with_spread-low-requires ty c).After-best_cut in
    let b = c.in-Some.best in
    let q = c.in-Some.is in
    let s = start ty k b q in
    fits ty s (low_box (view ty s) s.requires.can_sum.1 (best ty k b q)) c.low_side.ensures (the_low ty k b q)

pub with_spread-high-requires : goal.with_spread-high-requires
with_spread-high-requires ty c =
    let k = (goal.at-with_spread-high-requires ty c).After-best_cut in
    let b = c.in-Some.best in
    let q = c.in-Some.is in
    let s = start ty k b q in
    fits ty s (high_box (view ty s) s.requires.can_sum.1 (best ty k b q)) c.high_side.ensures (the_high ty k b q)

pub returns : goal.returns
returns ty c =
    let k = (goal.at-returns ty c).After-best_cut in
    let b = c.in-Some.best in
    let q = c.in-Some.is in
    let g = c.args.g in
    let v = laid_view ty.L.Layout.layout c.args.small.now c.args.large.now in
    let h = c.args.heap.now in
    let best = best ty k b q in
    let low = spread_is g v c.low_side.ensures (the_low ty k b q) c.with_spread-low.ensures in
    let high = spread_is g v c.high_side.ensures (the_high ty k b q) c.with_spread-high.ensures in record {
      boxes = omega (arith, boxes_cut g v h.room h.len c.args.x best);
      room = c.put_in-3.ensures.room no_item
          ∙ (λ t. put_in by_spread no_item
          ((c.put_in-2.ensures.room no_item ∙ ap (put_in by_spread no_item h.room h.len) low) t) (c.put_in-2.ensures.len t) (high t))
          ∙ sym (room_cut g v h.room h.len c.args.x best);
    }
