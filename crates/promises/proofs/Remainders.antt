-- Colours, counts and remainders of a cut that is done give the sums of each box back, and over all boxes those of the
-- table (Rules, Results).
-- Assumes nothing.
use Rattle.std.specs.Prelude.{Some}
use mathlib.Core.Path.{◌≡◌, ap, ◌∙◌}
use mathlib.Core.List.{List}
use Prim.Native.Nat.{ℕ, suc, ◌+◌, ◌*◌, ◌<◌}
use native.Mathlib.Omega.{arith}
use lib.ListN.{length, get_or}
use Rattle.rounds.specs.declared.gather.Boxes.{Boxes}
use Rattle.grid.specs.declared.place.Grid.{Grid}
use Rattle.basics.specs.Range.{sum_from}
use Rattle.basics.proofs.Range.{sum_same}
use Rattle.grid.specs.Grid.{grid_of, Accepted, bins_of}
use Rattle.table.specs.Layouts.{Wide}
use Rattle.table.specs.Table.{view_of}
use Rattle.table.specs.Sound.{limit}
use Rattle.boxes.specs.declared.sides.Bounds.{Bounds}
use Rattle.boxes.specs.Box.{no_box}
use Rattle.bins.specs.Sum.{box_sum}
use Rattle.rounds.specs.Loop.{boxes_of}
use Rattle.sums.specs.declared.source.Source.{Source}
use Rattle.cutter.specs.Cut.{Buffers, CanCut, cut_number, done_record, cut_record, list_of, box_list, results_on, later_on}
use Rattle.cutter.specs.Cut.{cut_later}
use Rattle.cutter.proofs.Colours.{palette_byte, counts_at, remainders_at, component_whole, component_left}
use Rattle.cutter.proofs.Listed.{list_length}
use Rattle.cutter.proofs.Tiling.{sums_total, sum_of_held}
use Rattle.cutter.proofs.RecordBoxes.{list_found, all_found}
use Rattle.cutter.proofs.Laws.{cut_says}
use Rattle.promises.specs.Tiling.{boxes_in, box_in}
use Rattle.promises.specs.Remainders.{given_back, Remainders}

-- ---- a cut that nothing refuses
module _ (source : Source) {g : Grid} {k : ℕ} (t : List ℕ) (b : Buffers) (a : Accepted g)
    (c : CanCut limit g k (view_of t)) where
  abbrev found : Boxes
  found = boxes_of g (view_of t) k

  abbrev boxes : List Bounds
  boxes = list_of found.boxes found.places

  in_list : {i : ℕ} → i < found.boxes → i < length boxes
  in_list h = omega (arith, list_length (all_found g (view_of t) k c.most a c.some).placed)

  back : (i d : ℕ) → i < found.boxes → d < 3
      → given_back (later_on Wide source g (view_of t) k b) i d ≡ box_sum g (view_of t) (get_or boxes i no_box) (suc d)
  unfolding given_back later_on results_on box_list
  back i d h l =
      (λ j.
      palette_byte g (view_of t) boxes b.results.palette i d no_box (in_list h) l j
      * counts_at g (view_of t) boxes b.results.counts i no_box (in_list h) j
      + remainders_at g (view_of t) boxes b.results.remainders i d no_box (in_list h) l j)
      ∙ component_whole g (view_of t) (get_or boxes i no_box) d l

  back_all : (d : ℕ) → d < 3
      → sum_from 0 found.boxes (λ i. given_back (later_on Wide source g (view_of t) k b) i d)
      ≡ sum_from 0 (bins_of g) (λ p. view_of t p (suc d))
  unfolding boxes_of box_list
  back_all d l =
      sum_same 0 found.boxes _ _ (λ i m h. back i d (omega arith) l)
      ∙ ap (λ (xs : List Bounds). sum_from 0 found.boxes (λ i. box_sum g (view_of t) (get_or xs i no_box) (suc d)))
      (list_found g (view_of t) k c.most)
      ∙ sums_total g (view_of t) k c.most (suc d)

  done_remainders : Remainders g t (done_record found) (later_on Wide source g (view_of t) k b)
  unfolding boxes_in box_in done_record later_on results_on box_list
  done_remainders =
      let all = all_found g (view_of t) k c.most a c.some in
      record {
        below = λ i d h l.
            rw (
              remainders_at g (view_of t) boxes b.results.remainders i d no_box (in_list h) l,
              counts_at g (view_of t) boxes b.results.counts i no_box (in_list h),
            )
            (component_left g (view_of t) (get_or boxes i no_box) d l (all.some i h));
        whole = λ i d h l. back i d h l ∙ sum_of_held (all.placed.within i h) (view_of t) (suc d);
        all = λ d l. back_all d l;
      }

pub remainders : (source : Source) (b1 b2 b3 k : ℕ) (t : List ℕ) (b : Buffers) {g : Grid}
    → grid_of b1 b2 b3 ≡ Some g
    → cut_number source b1 b2 b3 k t b ≡ 0
    → Remainders g t (cut_record source b1 b2 b3 k t b) (cut_later source b1 b2 b3 k t b)
remainders source b1 b2 b3 k t b e n =
    let d = cut_says Wide source b1 b2 b3 k t b e n in
    rw (d.hands, d.leaves) (done_remainders source t b d.accepted d.can)
