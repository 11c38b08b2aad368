-- `rounds::gather::cut_boxes` meets its contract: the heap is that of the start, then that of the loop's end.
-- Assumes nothing.
use mathlib.Core.Path.{◌≡◌, refl, ap, ◌∙◌}
use mathlib.Core.Bool.{false}
use native.Mathlib.Omega.{arith}
use borrow.Author.Rules.{rules}
use lib.ListN.{replicate}
use lib.Ieee.{inf, of_bits}
use Rattle.grid.specs.declared.place.Grid.{Grid}
use Rattle.boxes.specs.Box.{no_box, whole_of}
use Rattle.heap.specs.Heap.{climb, put_in}
use Rattle.rounds.specs.Loop.{by_spread, no_item, with_zero, start_room, places_of, boxes_of}
use Rattle.rounds.proofs.gather.cut_boxes.Goals as goal

-- the whole grid put in where nothing was is what the loop starts with
starts : (g : Grid)
    → put_in by_spread no_item (replicate 256 (with_zero no_box)) 0 (record { bounds = whole_of g; spread = inf false })
    ≡ start_room g
unfolding start_room put_in climb
starts g = refl

pub all_rounds-rounds-requires-clause-start : goal.all_rounds-rounds-requires-clause-start
unfolding of_bits
all_rounds-rounds-requires-clause-start ty c =
    let none : c.default.result ≡ with_zero no_box = search rules in
    let n = c.new-heap.ensures in
    let e = c.put_in.ensures in (
      omega arith,
      e.room no_item
          ∙ (λ i. put_in by_spread no_item ((n.room ∙ ap (replicate 256) none) i) (n.len i)
          (record { bounds = c.whole.ensures i; spread = inf false }))
          ∙ starts c.args.g,
    )

pub returns : goal.returns
unfolding boxes_of
returns ty c =
    let e = c.all_rounds-rounds.ensures in
    λ i. record {
      boxes = (c.len.ensures ∙ e.boxes) i;
      rounds = e.rounds i;
      places = (c.gathered.ensures ∙ (λ j. places_of (e.room j) (e.boxes j))) i;
    }
