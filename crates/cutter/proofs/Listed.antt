-- The boxes of the record as a list.
-- Assumes nothing.
use mathlib.Core.Path.{◌≡◌, sym, ap, ◌∙◌}
use mathlib.Core.List.{List}
use Prim.Native.Nat.{ℕ, ◌<◌}
use native.Mathlib.Omega.{arith}
use lib.ListN.{length, get_or, take, length-map, get_or-map}
use lib.Seq.{take_all, length-take-le, get_or-take}
use Rattle.rounds.specs.Loop.{no_item}
use Rattle.grid.specs.declared.place.Grid.{Grid}
use Rattle.boxes.specs.declared.sides.Bounds.{Bounds}
use Rattle.heap.specs.Boxes.{BoxSpread}
use Rattle.rounds.specs.declared.gather.Boxes.{Boxes}
use Rattle.boxes.specs.Box.{no_box}
use Rattle.cutter.specs.Cut.{list_of}
use Rattle.cutter.specs.Inner.{Placed}

module _ {g : Grid} {b : Boxes} (f : Placed g b) where
  abbrev boxes : List Bounds
  boxes = list_of b.boxes b.places

  pub list_length : length boxes ≡ b.boxes
  unfolding list_of
  list_length =
      length-map (take b.boxes b.places) (λ (x : BoxSpread). x.bounds)
      ∙ length-take-le b.boxes b.places (omega (arith, f.few, f.long))

  -- box i is the one at place i
  pub list_item : (i : ℕ) → i < b.boxes → {x : Bounds} → x ≡ (get_or b.places i no_item).bounds → x ≡ get_or boxes i no_box
  unfolding list_of
  list_item i l e =
      e
      ∙ sym (get_or-map (λ (x : BoxSpread). x.bounds) (take b.boxes b.places) i no_item
      ∙ ap (λ (x : BoxSpread). x.bounds) (get_or-take b.boxes b.places i no_item l))

  -- all of them
  pub take_listed : {i : ℕ} → i ≡ b.boxes → take i boxes ≡ boxes
  take_listed {i} e = take_all i boxes (omega (arith, list_length))
