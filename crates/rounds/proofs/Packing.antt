-- A heap of packed boxes does what the heap of these boxes does: what its caller has after a call.
-- Assumes nothing.
use mathlib.Core.Path.{◌≡◌, refl, sym, ap, ◌∙◌}
use mathlib.Core.Bool.{false}
use mathlib.Core.List.{List, map}
use Prim.Native.Nat.{ℕ, ◌≤◌, ◌<◌}
use native.Mathlib.Omega.{arith}
use lib.ListN.{set, replicate, length}
use lib.Ieee.{Float, inf}
use Rattle.grid.specs.declared.place.Grid.{Grid}
use Rattle.boxes.specs.declared.sides.Bounds.{Bounds}
use Rattle.boxes.specs.Box.{no_box, whole_of}
use Rattle.boxes.specs.Bytes.{pack_of, box_of, Bytes}
use Rattle.boxes.proofs.Packing.{box_pack}
use Rattle.spread.specs.Spread.{zero_of}
use Rattle.heap.specs.Heap.{item, put_in, take_out}
use Rattle.heap.specs.declared.heap.BoxSpread.{BoxSpread as AnyBox}
use Rattle.heap.specs.Boxes.{BoxSpread, by_spread, no_item}
use Rattle.heap.proofs.Keeps.{put_in_long, take_out_long}
use Rattle.heap.proofs.View.{KeepsOrder, item_view, put_in_view, take_out_view}
use Rattle.rounds.specs.Loop.{with_zero, start_room}
use Rattle.rounds.specs.Inner.{unpack, no_packed, room_in}

nothing_there : unpack no_packed ≡ no_item
unfolding box_of
nothing_there = refl

-- unpacking changes no spread
same_order : KeepsOrder unpack by_spread by_spread
same_order = record { less = λ x y. refl; at_most = λ x y. refl }

module _ (h : List (AnyBox ℕ)) where
  pub room_in_item : (p : ℕ) → item no_item (room_in h) p ≡ unpack (item no_packed h p)
  unfolding room_in
  room_in_item p =
      (λ i. item (sym nothing_there i) (map unpack h) p) ∙ item_view unpack by_spread by_spread same_order no_packed h p

  pub room_in_spread : (p : ℕ) → (item no_item (room_in h) p).spread ≡ (item no_packed h p).spread
  room_in_spread p = ap (λ (x : BoxSpread). x.spread) (room_in_item p)

  -- after a call
  module _ {h' : List (AnyBox ℕ)} (n : ℕ) (long : length h ≡ 256) where
    pub after_put : (s : Float) (x : Bounds) → Bytes x → (m : ℕ) → m ≡ pack_of x → n < 256
        → h' ≡ put_in by_spread no_packed h n (record { bounds = m; spread = s })
        → (room_in h' ≡ put_in by_spread no_item (room_in h) n (record { bounds = x; spread = s })) × (length h' ≡ 256)
    unfolding room_in
    after_put s x b m q l e = (
      ap (map unpack) e
          ∙ sym (put_in_view unpack by_spread by_spread same_order no_packed h n (record { bounds = m; spread = s }))
          ∙ (λ i. put_in by_spread (nothing_there i) (map unpack h) n
          (record { bounds = (ap box_of q ∙ box_pack x b) i; spread = s })),
      ap length e
          ∙ put_in_long by_spread no_packed h n (record { bounds = m; spread = s }) (omega (arith, long)) ∙ long,
    )

    pub after_take : 0 < n → n ≤ 256
        → h' ≡ take_out by_spread no_packed h n
        → (room_in h' ≡ take_out by_spread no_item (room_in h) n) × (length h' ≡ 256)
    unfolding room_in
    after_take some most e = (
      ap (map unpack) e
          ∙ sym (take_out_view unpack by_spread by_spread same_order no_packed h n)
          ∙ (λ i. take_out by_spread (nothing_there i) (map unpack h) n),
      ap length e ∙ take_out_long by_spread no_packed h n some (omega (arith, long, most)) ∙ long,
    )

-- ---- the room at the start
pub room_start : (g : Grid) {spread : Float} {packed : ℕ} → spread ≡ inf false → packed ≡ pack_of (whole_of g)
    → Bytes (whole_of g)
    → room_in (set (replicate 256 (record { bounds = 0; spread = zero_of })) 0 (record { bounds = packed; spread = spread }))
    ≡ start_room g
unfolding room_in start_room box_of
room_start g e f b =
    λ i. set (replicate 256 (with_zero no_box)) 0
    (record { bounds = (ap box_of f ∙ box_pack (whole_of g) b) i; spread = e i })
