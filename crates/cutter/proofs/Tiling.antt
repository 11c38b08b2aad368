-- The boxes of a loop as a list: each bin of the grid lies in exactly one of them, none is empty, and each of their five
-- numbers adds up to that of all bins.
-- Assumes nothing.
use mathlib.Core.Path.{◌≡◌, refl, sym, ap, ◌∙◌}
use mathlib.Core.Bool.{cond}
use mathlib.Core.List.{List, [], ◌∷◌, map}
use Prim.Native.Nat.{ℕ, zero, suc, ◌+◌, ◌-◌, ◌≤◌, ◌<◌}
use native.Mathlib.Decide.{ℕ_discrete}
use native.Mathlib.Nat.{pos_of_ne-zero}
use native.Mathlib.Omega.{arith}
use lib.ListN.{length, get_or, take, length-map, get_or-map}
use lib.Seq.{get_or-take, length-take-le}
use Rattle.heap.specs.Boxes.{BoxSpread}
use Rattle.grid.specs.declared.place.Grid.{Grid}
use Rattle.basics.specs.Range.{sum_from}
use Rattle.grid.specs.Grid.{Accepted, bins_of, place_of}
use Rattle.basics.proofs.Range.{sum_shift, sum_same, hit, hit_yes, hit_no, sum_hit}
use Rattle.grid.proofs.Places.{place_lt, place_of_bins, bins_inside}
use Rattle.table.specs.Cell.{View}
use Rattle.table.specs.Sound.{total}
use Rattle.table.proofs.Soundness.{total_is}
use Rattle.boxes.specs.declared.sides.Bounds.{Bounds}
use Rattle.boxes.specs.Box.{Within}
use Rattle.bins.specs.Sum.{bin_sum, box_sum}
use Rattle.bins.proofs.Boxes.{sum3_same, sum3_plus, sum3_zero}
use Rattle.boxes.proofs.Within.{sides}
use Rattle.bins.proofs.Laws.{cut_sum}
use Rattle.bins.proofs.Hits.{hit_box}
use Rattle.heap.specs.Heap.{item, sum_items}
use Rattle.boxes.specs.Box.{no_box}
use Rattle.rounds.specs.Loop.{no_item, heap_of}
use Rattle.rounds.proofs.Grids.{whole_sum}
use Rattle.rounds.proofs.Filled.{heap_fit, heap_in_use}
use Rattle.rounds.proofs.Cover.{over, over_heap}
use Rattle.cutter.specs.Palette.{count_of}
use Rattle.cutter.specs.Inner.{Occupied}
use Rattle.boxes.specs.Holds.{holds_at, holding, Tiles}
use Rattle.boxes.proofs.Held.{whole_holds, cut_holding}

-- the boxes of the first n places of a room
abbrev pub boxes_in : List BoxSpread → ℕ → List Bounds
boxes_in h n = map (λ (i : BoxSpread). i.bounds) (take n h)

-- "Box i is the heap's place i": the boxes of a loop
abbrev pub boxes_found : Grid → View → ℕ → List Bounds
boxes_found g v k = boxes_in (heap_of g v k).room (heap_of g v k).boxes

-- ---- one box after the other
holding_sum : (g : Grid) (p : ℕ) (h : List BoxSpread)
    → holding g (map (λ (i : BoxSpread). i.bounds) h) p ≡ sum_items (λ i. cond (holds_at g i.bounds p) 1 0) h
unfolding holding sum_items
holding_sum g p [] = refl
holding_sum g p (x ∷ h) = ap (λ (n : ℕ). cond (holds_at g x.bounds p) 1 0 + n) (holding_sum g p h)

-- number j of the boxes
sums_sum : (g : Grid) (v : View) (j : ℕ) (h : List BoxSpread)
    → sum_from 0 (length h) (λ i. box_sum g v (get_or (map (λ (x : BoxSpread). x.bounds) h) i no_box) j)
    ≡ sum_items (λ x. box_sum g v x.bounds j) h
unfolding sum_from sum_items
sums_sum g v j [] = refl
sums_sum g v j (x ∷ h) =
    ap (λ (n : ℕ). box_sum g v x.bounds j + n)
    (sum_shift 1 0 (length h) sum ∙ (λ l. sum_from 0 (length h) (λ i. sum (next i l))) ∙ sums_sum g v j h)
  where
    sum : ℕ → ℕ
    sum i = box_sum g v (get_or (map (λ (y : BoxSpread). y.bounds) (x ∷ h)) i no_box) j

    next : (i : ℕ) → 1 + i ≡ suc i
    next i = omega arith

module _ (g : Grid) (v : View) (k : ℕ) (most : k ≤ 256) where
  abbrev room : List BoxSpread
  room = (heap_of g v k).room

  abbrev many : ℕ
  many = (heap_of g v k).boxes

  in_room : many ≤ length room
  in_room = let u = heap_in_use g v k most in omega (arith, u.long, u.most)

  pub boxes_long : length (boxes_found g v k) ≡ many
  boxes_long = length-map (take many room) (λ (i : BoxSpread). i.bounds) ∙ length-take-le many room in_room

  pub box_at_lem : (i : ℕ) → i < many → get_or (boxes_found g v k) i no_box ≡ (item no_item room i).bounds
  box_at_lem i h =
      get_or-map (λ (x : BoxSpread). x.bounds) (take many room) i no_item
      ∙ ap (λ (x : BoxSpread). x.bounds) (get_or-take many room i no_item h)

  -- each bin of the grid lies in exactly one box
  pub tiles : Accepted g → Tiles g (boxes_found g v k)
  unfolding over
  tiles a =
      record {
        once = λ p h.
            holding_sum g p (take many room)
            ∙ over_heap {f = λ x. cond (holds_at g x p) 1 0} (record { adds = λ x d c l m. cut_holding g x d c l m p }) g
            v k most
            ∙ rw (whole_holds a p h) refl;
      }

  -- no box is empty
  pub all_occupied : Accepted g → 0 < total g v → (i : ℕ) → i < many → Occupied g v (get_or (boxes_found g v k) i no_box)
  all_occupied a some i h =
      let fit = (heap_fit a some k most).each i h in
      rw (box_at_lem i h) (record { within = fit.within; some = pos_of_ne-zero fit.some })

  -- number j of the boxes adds up to that of all bins
  pub sums_total : (j : ℕ) → sum_from 0 many (λ i. box_sum g v (get_or (boxes_found g v k) i no_box) j)
      ≡ sum_from 0 (bins_of g) (λ p. v p j)
  unfolding over
  sums_total j =
      ap (λ (n : ℕ). sum_from 0 n (λ i. box_sum g v (get_or (boxes_found g v k) i no_box) j))
      (sym (length-take-le many room in_room))
      ∙ sums_sum g v j (take many room)
      ∙ over_heap {f = λ x. box_sum g v x j} (record { adds = λ x d c h l. cut_sum g v x d c j h l }) g v k most
      ∙ whole_sum g v j

  -- so the counts add up to the total
  pub counts_total : sum_from 0 many (λ i. count_of g v (get_or (boxes_found g v k) i no_box)) ≡ total g v
  unfolding count_of
  counts_total = sums_total 0 ∙ sym (total_is g v)

-- ---- the sum of a box is that over the places which it holds
module _ {g : Grid} {x : Bounds} (w : Within g x) (v : View) (j : ℕ) where
  abbrev held : ℕ → ℕ
  held q = cond (holds_at g x q) (v q j) 0

  one_place : (q : ℕ) → q < bins_of g → box_sum g (λ p i. hit q p (v q j)) x j ≡ held q
  unfolding holds_at
  one_place q h =
      ap (λ (s : ℕ). box_sum g (λ p i. hit s p (v q j)) x j) (sym (place_of_bins g q))
      ∙ hit_box w (bins_inside w.accepted q h) (v q j) j

  some_places : (i n : ℕ) → i + n ≤ bins_of g
      → box_sum g (λ p k. sum_from i n (λ q. hit q p (v q j))) x j ≡ sum_from i n held
  unfolding box_sum bin_sum sum_from
  some_places i zero h =
      sum3_zero x.r0 (x.r1 - x.r0) x.g0 (x.g1 - x.g0) x.b0 (x.b1 - x.b0) _ (λ r gr z a b c d e f. refl)
  some_places i (suc n) h =
      sum3_plus x.r0 (x.r1 - x.r0) x.g0 (x.g1 - x.g0) x.b0 (x.b1 - x.b0)
      (λ r gr z. hit i (place_of g r gr z) (v i j)) (λ r gr z. sum_from (suc i) n (λ q. hit q (place_of g r gr z) (v q j)))
      ∙ (λ k. one_place i (omega arith) k + some_places (suc i) n (omega arith) k)

  -- a number of the view, as a sum of hits
  at_place : (p : ℕ) → p < bins_of g → v p j ≡ sum_from 0 (bins_of g) (λ q. hit q p (v q j))
  at_place p h =
      sym (sum_hit 0 (bins_of g) p (v p j) (omega arith) (omega arith))
      ∙ sum_same 0 (bins_of g) (λ q. hit p q (v p j)) (λ q. hit q p (v q j)) (λ q a b. turned q (ℕ_discrete p q))
    where
      turned : (q : ℕ) → Dec (p ≡ q) → hit p q (v p j) ≡ hit q p (v q j)
      turned q (yes e) = hit_yes p q (v p j) e ∙ ap (λ (r : ℕ). v r j) e ∙ sym (hit_yes q p (v q j) (sym e))
      turned q (no n) = hit_no p q (v p j) n ∙ sym (hit_no q p (v q j) (λ e. n (sym e)))

  pub sum_of_held : box_sum g v x j ≡ sum_from 0 (bins_of g) (λ p. cond (holds_at g x p) (v p j) 0)
  unfolding box_sum bin_sum
  sum_of_held =
      let e = sides w in
      sum3_same x.r0 (x.r1 - x.r0) x.g0 (x.g1 - x.g0) x.b0 (x.b1 - x.b0)
      (λ r gr z. v (place_of g r gr z) j) (λ r gr z. sum_from 0 (bins_of g) (λ q. hit q (place_of g r gr z) (v q j)))
      (λ r gr z h k l.
      at_place (place_of g r gr z)
      (place_lt
      (record {
        accepted = w.accepted;
        one = omega (arith, e.one, e.one_fits);
        two = omega
            (arith, e.two, e.two_fits);
        three = omega (arith, e.three, e.three_fits);
      })))
      ∙ some_places 0 (bins_of g) (omega arith)
