-- The heap (Rules, Heap): a list of elements of any type with their spreads; how many places are in use stands beside
-- it. Definitions only.
use Rattle.std.specs.Prelude.{◌≡◌, Bool, false, ◌&&◌, cond, List, [], ◌∷◌, ◌≢◌, ℕ, zero, suc, ◌+◌, ◌-◌, ◌*◌, ◌/◌, ◌<◌, eqb, ltb, get_or, set, Float}
use Rattle.std.specs.Float.{nan}
use Rattle.std.specs.Float.Ieee.{lt, le}

-- a list with a hole in it: what stands at the hole's place counts for nothing
pub record Holed (X : Type 0) : Type 0 where
  pub room : List X
  pub hole : ℕ

-- "the parent of p is (p − 1)/2 rounded down"
abbrev pub parent : ℕ → ℕ
parent p = (p - 1) / 2

-- none stands for what a place past the end has; the laws hold whatever it is
module _ {X : Type 0} (none : X) where
  -- "Places count from 0"
  abbrev pub item : List X → ℕ → X
  item h p = get_or h p none

  -- the elements at p and q exchanged
  abbrev pub swap : List X → ℕ → ℕ → List X
  swap h p q = set (set h p (item h q)) q (item h p)

-- greater, and the like, are said of the elements' spreads
module _ {X : Type 0} (spread : X → Float) (none : X) where
  -- whether the element at p is "strictly greater than the parent"
  abbrev pub climbs : List X → ℕ → Bool
  climbs h p = ltb 0 p && lt (spread (item none h (parent p))) (spread (item none h p))

  -- the element at p is to "climb while strictly greater than the parent"; it climbs at most as often as it is told,
  -- and p times are enough
  unfoldable pub climb : ℕ → List X → ℕ → List X
  climb zero h p = h
  climb (suc times) h p =
      let above = climb times (swap none h p (parent p)) (parent p) in
      cond (climbs h p) above h

  -- "Put in: append, then climb", where n places are in use
  unfoldable pub put_in : List X → ℕ → X → List X
  put_in h n x = climb n (set h n x) n

  -- of two children, "the right child if left ≤ right, else the left"
  abbrev pub child : List X → ℕ → ℕ
  child h p = cond (le (spread (item none h (2 * p + 1))) (spread (item none h (2 * p + 2)))) (2 * p + 2) (2 * p + 1)

  -- a hole at p is to sink among n places: "while both children exist, move up" one of them;
  -- "if only a left child exists, move that up". It sinks at most as often as it is told, and n times are enough
  unfoldable pub sink : ℕ → List X → ℕ → ℕ → Holed X
  sink zero h n p = record { room = h; hole = p }
  sink (suc times) h n p =
      let below = sink times (set h p (item none h (child h p))) n (child h p) in
      let left : Holed X = record { room = set h p (item none h (2 * p + 1)); hole = 2 * p + 1 } in
      let here : Holed X = record { room = h; hole = p } in
      cond (ltb (2 * p + 2) n) below (cond (ltb (2 * p + 1) n) left here)

  -- "The carried element enters the hole and climbs"
  unfoldable pub enter : Holed X → X → List X
  enter s x = climb s.hole (set s.room s.hole x) s.hole

  -- "Take out: the last element leaves the end; if others remain, it will replace place 0", and "Sink a hole from 0";
  -- n places are in use before, the last of them is free afterwards and keeps what stood there
  unfoldable pub take_out : List X → ℕ → List X
  take_out h n =
      let rest = enter (sink (n - 1) h (n - 1) 0) (item none h (n - 1)) in
      cond (eqb (n - 1) 0) h rest

  -- no element in use is greater than its parent
  pub record InOrder (h : List X) (n : ℕ) : Type 0 where
    pub under : (p : ℕ) → 0 < p → p < n → lt (spread (item none h (parent p))) (spread (item none h p)) ≡ false

  -- no spread in use is a NaN
  pub record NoNaN (h : List X) (n : ℕ) : Type 0 where
    pub number : (p : ℕ) → p < n → spread (item none h p) ≢ nan

-- the sum of f over a list
unfoldable pub sum_items {ℓ} : {A : Type ℓ} → (A → ℕ) → List A → ℕ
sum_items f [] = 0
sum_items f (x ∷ h) = f x + sum_items f h
