-- The boxes of the record are the loop's: they tile the grid, and palette, counts and map are made of them.
-- Assumes nothing.
use mathlib.Core.Path.{◌≡◌, refl, sym, ap, subst, ◌∙◌}
use mathlib.Core.Bool.{cond}
use mathlib.Core.List.{List, map}
use Prim.Native.Nat.{ℕ, ◌≤◌, ◌<◌}
use native.Mathlib.Nat.{zero-add, lt_of_lt_of_le}
use native.Mathlib.Omega.{arith}
use borrow.Author.Tests.{lt-ltb}
use lib.Dec.{ltb}
use lib.ListN.{length, get_or, take, length-map, get_or-map}
use lib.Seq.{ext_get_or, get_or-take, length-take-le}
use Rattle.heap.specs.Boxes.{BoxSpread}
use Rattle.grid.specs.declared.place.Grid.{Grid}
use Rattle.grid.specs.Grid.{Accepted}
use Rattle.basics.proofs.Range.{length_list, list_at}
use Rattle.table.specs.Cell.{View}
use Rattle.table.specs.Sound.{total}
use Rattle.boxes.specs.declared.sides.Bounds.{Bounds}
use Rattle.heap.specs.Heap.{item}
use Rattle.boxes.specs.Box.{no_box}
use Rattle.rounds.specs.Loop.{no_item, with_zero, heap_of, places_of, boxes_of}
use Rattle.rounds.proofs.Filled.{heap_in_use}
use Rattle.boxes.specs.Holds.{Tiles}
use Rattle.cutter.specs.Cut.{list_of, box_list}
use Rattle.cutter.specs.Inner.{Found}
use Rattle.cutter.proofs.Tiling.{boxes_found, boxes_long, box_at_lem, tiles, all_occupied}

-- a place in front has its box
place_at : (h : List BoxSpread) (n i : ℕ) → i < n → n ≤ 256 → get_or (places_of h n) i no_item ≡ item no_item h i
unfolding places_of
place_at h n i l m =
    list_at 0 256 (λ j. cond (ltb j n) (item no_item h j) (with_zero no_box)) i no_item (lt_of_lt_of_le l m)
    ∙ ap (λ (j : ℕ). cond (ltb j n) (item no_item h j) (with_zero no_box)) (zero-add i)
    ∙ rw (lt-ltb i n l) refl

module _ (g : Grid) (v : View) (k : ℕ) (most : k ≤ 256) where
  abbrev room : List BoxSpread
  room = (heap_of g v k).room

  abbrev many : ℕ
  many = (heap_of g v k).boxes

  few : many ≤ 256
  few = (heap_in_use g v k most).most

  places_long : length (places_of room many) ≡ 256
  unfolding places_of
  places_long = length_list 0 256 _

  pub list_found : box_list g v k ≡ boxes_found g v k
  unfolding box_list list_of boxes_of
  list_found =
      ext_get_or no_box (map bounds (take many places)) (boxes_found g v k) (long ∙ sym (boxes_long g v k most))
      (λ i l.
      let m : i < many = omega (arith, long) in
      get_or-map bounds (take many places) i no_item
      ∙ ap bounds (get_or-take many places i no_item m ∙ place_at room many i m few)
      ∙ sym (box_at_lem g v k most i m))
    where
      bounds : BoxSpread → Bounds
      bounds x = x.bounds

      places : List BoxSpread
      places = places_of room many

      long : length (map bounds (take many places)) ≡ many
      long = length-map (take many places) bounds ∙ length-take-le many places (omega (arith, places_long, few))

  module _ (a : Accepted g) where
    pub list_tiles : Tiles g (box_list g v k)
    list_tiles = subst (Tiles g) (sym list_found) (tiles g v k most a)

    pub all_found : 0 < total g v → Found g v (boxes_of g v k)
    unfolding box_list boxes_of
    all_found some =
        record {
          placed = record {
            few = few;
            long = places_long;
            within = λ i l. rw list_found
                (all_occupied g v k most a some i l).within;
          };
          some = λ i l. rw list_found (all_occupied g v k most a some i l).some;
        }
