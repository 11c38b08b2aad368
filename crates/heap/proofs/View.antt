-- The heap sees nothing of its elements but how their spreads compare: mapped by whatever keeps every comparison, they
-- climb, sink, are put in and taken out the same.
-- Assumes nothing.
use mathlib.Core.Path.{◌≡◌, refl, ap, ◌∙◌}
use mathlib.Core.Bool.{Bool, true, false, cond, ◌&&◌}
use mathlib.Core.List.{List, [], ◌∷◌, map}
use Prim.Native.Nat.{ℕ, zero, suc, ◌+◌, ◌-◌, ◌*◌}
use lib.Dec.{eqb, ltb}
use lib.ListN.{set, get_or-map}
use lib.Ieee.{Float, lt, le}
use Rattle.heap.specs.Heap.{Holed, parent, item, swap, climbs, climb, put_in, child, sink, enter, take_out}

map_cond {ℓ κ} : {A : Type ℓ} {B : Type κ} (f : A → B) (b : Bool) (x y : A) → cond b (f x) (f y) ≡ f (cond b x y)
map_cond f true x y = refl
map_cond f false x y = refl

map_set {ℓ κ} : {A : Type ℓ} {B : Type κ} (f : A → B) (l : List A) (p : ℕ) (x : A)
    → set (map f l) p (f x) ≡ map f (set l p x)
map_set f [] p x = refl
map_set f (y ∷ l) zero x = refl
map_set {B = B} f (y ∷ l) (suc p) x = ap (λ (k : List B). f y ∷ k) (map_set f l p x)

-- a map of elements that keeps every comparison of their spreads
pub record KeepsOrder {X Y : Type 0} (f : X → Y) (key : X → Float) (key' : Y → Float) : Type 0 where
  pub less : (x y : X) → lt (key' (f x)) (key' (f y)) ≡ lt (key x) (key y)
  pub at_most : (x y : X) → le (key' (f x)) (key' (f y)) ≡ le (key x) (key y)

module _ {X Y : Type 0} (f : X → Y) (key : X → Float) (key' : Y → Float) (keeps : KeepsOrder f key key')
    (none : X) where
  abbrev view_holed : Holed X → Holed Y
  view_holed s = record { room = map f s.room; hole = s.hole }

  pub item_view : (h : List X) (p : ℕ) → item (f none) (map f h) p ≡ f (item none h p)
  item_view h p = get_or-map f h p none

  less_view : (h : List X) (p q : ℕ)
      → lt (key' (item (f none) (map f h) p)) (key' (item (f none) (map f h) q))
      ≡ lt (key (item none h p)) (key (item none h q))
  less_view h p q =
      (λ i. lt (key' (item_view h p i)) (key' (item_view h q i))) ∙ keeps.less (item none h p) (item none h q)

  set_view : (h : List X) (p : ℕ) {y : Y} (x : X) → y ≡ f x → set (map f h) p y ≡ map f (set h p x)
  set_view h p x e = ap (λ (z : Y). set (map f h) p z) e ∙ map_set f h p x

  swap_view : (h : List X) (p q : ℕ) → swap (f none) (map f h) p q ≡ map f (swap none h p q)
  swap_view h p q =
      (λ i. set (set_view h p (item none h q) (item_view h q) i) q (item_view h p i))
      ∙ map_set f (set h p (item none h q)) q (item none h p)

  climb_view : (times : ℕ) (h : List X) (p : ℕ)
      → climb key' (f none) times (map f h) p ≡ map f (climb key none times h p)
  unfolding climb
  climb_view zero h p = refl
  climb_view (suc times) h p =
      (λ i. cond (ltb 0 p && less_view h (parent p) p i)
      (climb key' (f none) times (swap_view h p (parent p) i) (parent p))
      (map f h))
      ∙ ap (λ (k : List Y). cond (climbs key none h p) k (map f h))
      (climb_view times (swap none h p (parent p)) (parent p))
      ∙ map_cond (map f) (climbs key none h p) _ _

  child_view : (h : List X) (p : ℕ) → child key' (f none) (map f h) p ≡ child key none h p
  child_view h p =
      ap (λ (b : Bool). cond b (2 * p + 2) (2 * p + 1))
      ((λ i. le (key' (item_view h (2 * p + 1) i)) (key' (item_view h (2 * p + 2) i)))
      ∙ keeps.at_most (item none h (2 * p + 1)) (item none h (2 * p + 2)))

  sink_view : (times : ℕ) (h : List X) (n p : ℕ)
      → sink key' (f none) times (map f h) n p ≡ view_holed (sink key none times h n p)
  unfolding sink
  sink_view zero h n p = refl
  sink_view (suc times) h n p =
      (λ i. cond (ltb (2 * p + 2) n)
      (sink key' (f none) times (set (map f h) p (item (f none) (map f h) (child_view h p i))) n (child_view h p i))
      (cond (ltb (2 * p + 1) n)
      (record { room = set_view h p (item none h (2 * p + 1)) (item_view h (2 * p + 1)) i; hole = 2 * p + 1 })
      (record { room = map f h; hole = p })))
      ∙ (λ i. cond (ltb (2 * p + 2) n)
      (sink key' (f none) times (set_view h p (item none h up) (item_view h up) i) n up)
      (map_cond view_holed (ltb (2 * p + 1) n) left here i))
      ∙ ap (λ (s : Holed Y). cond (ltb (2 * p + 2) n) s (view_holed (cond (ltb (2 * p + 1) n) left here)))
      (sink_view times (set h p (item none h up)) n up)
      ∙ map_cond view_holed (ltb (2 * p + 2) n) _ _
    where
      up : ℕ
      up = child key none h p

      left : Holed X
      left = record { room = set h p (item none h (2 * p + 1)); hole = 2 * p + 1 }

      here : Holed X
      here = record { room = h; hole = p }

  enter_view : (s : Holed X) (x : X) → enter key' (f none) (view_holed s) (f x) ≡ map f (enter key none s x)
  unfolding enter
  enter_view s x =
      ap (λ (k : List Y). climb key' (f none) s.hole k s.hole) (map_set f s.room s.hole x)
      ∙ climb_view s.hole (set s.room s.hole x) s.hole

  pub put_in_view : (h : List X) (n : ℕ) (x : X) → put_in key' (f none) (map f h) n (f x) ≡ map f (put_in key none h n x)
  unfolding put_in
  put_in_view h n x = ap (λ (k : List Y). climb key' (f none) n k n) (map_set f h n x) ∙ climb_view n (set h n x) n

  pub take_out_view : (h : List X) (n : ℕ) → take_out key' (f none) (map f h) n ≡ map f (take_out key none h n)
  unfolding take_out
  take_out_view h n =
      ap (λ (k : List Y). cond (eqb (n - 1) 0) (map f h) k)
      ((λ i. enter key' (f none) (sink_view (n - 1) h (n - 1) 0 i) (item_view h (n - 1) i))
      ∙ enter_view (sink key none (n - 1) h (n - 1) 0) (item none h (n - 1)))
      ∙ map_cond (map f) (eqb (n - 1) 0) _ _
