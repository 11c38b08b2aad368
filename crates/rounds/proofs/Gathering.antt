-- The places of the record: the boxes in use, and a place without a box for each place past them.
-- Assumes nothing.
use mathlib.Core.Path.{◌≡◌, ◌∙◌}
use mathlib.Core.Bool.{cond}
use mathlib.Core.List.{List}
use Prim.Native.Nat.{ℕ, ◌-◌, ◌≤◌, ◌<◌}
use native.Mathlib.Nat.{lt_of_not-le}
use native.Mathlib.Decide.{dec_le}
use native.Mathlib.Omega.{arith}
use borrow.Author.Rules.{rules}
use borrow.Author.Tests.{lt-ltb, le-ltb}
use borrow.Rule.Slice.PartMut.{put_mid}
use lib.Dec.{ltb}
use lib.ListN.{length, get_or, replicate}
use Rattle.std.proofs.lemmas.List.{places}
use Rattle.basics.proofs.Range.{list_is}
use Rattle.heap.specs.Heap.{item}
use Rattle.heap.specs.Boxes.{BoxSpread}
use Rattle.boxes.specs.Box.{no_box}
use Rattle.rounds.specs.Loop.{no_item, with_zero, places_of}

-- a place without a box
abbrev pub no_place : BoxSpread
no_place = with_zero no_box

pub gathered_is : (h : List BoxSpread) (n : ℕ) → length h ≡ 256 → n ≤ 256
    → put_mid n (256 - n) h (replicate (256 - n) no_place) ≡ places_of h n
unfolding places_of
gathered_is h n l m =
    list_is 256 (λ i. cond (ltb i n) (item no_item h i) no_place) room no_item long at
  where
    room : List BoxSpread
    room = put_mid n (256 - n) h (replicate (256 - n) no_place)

    long : length room ≡ 256
    long = grind (arith, places)

    past : (p : ℕ) → n ≤ p → p < 256 → get_or room p no_item ≡ no_place
    past p j k = search (rules, places)

    front : (p : ℕ) → p < n → get_or room p no_item ≡ item no_item h p
    front p j = search (rules, places)

    at : (p : ℕ) → p < 256 → get_or room p no_item ≡ cond (ltb p n) (item no_item h p) no_place
    at p k =
        elim (dec_le n p) [
          | yes j ↦ rw (le-ltb p n j) (past p j k)
          | no j ↦ rw (lt-ltb p n (lt_of_not-le j)) (front p (lt_of_not-le j))
        ]

-- the same, whatever the number of boxes and the room are called
pub gathered_from : (h : List BoxSpread) (n : ℕ) {was put : List BoxSpread} {m : ℕ} → was ≡ h → m ≡ n
    → put ≡ replicate (256 - m) no_place → length h ≡ 256 → n ≤ 256 → put_mid m (256 - m) was put ≡ places_of h n
gathered_from h n {was} {put} {m} e f p l k =
    (λ i. put_mid (f i) (256 - f i) (e i) ((p ∙ (λ j. replicate (256 - f j) no_place)) i)) ∙ gathered_is h n l k
