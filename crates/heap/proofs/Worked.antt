-- Worked examples, computed on the definitions: ties, a lone left child, an element that climbs back, numbers that are
-- none.
-- Assumes nothing.
use mathlib.Core.Path.{◌≡◌, refl}
use mathlib.Core.Bool.{false}
use mathlib.Core.List.{List, [], ◌∷◌, map}
use Prim.Native.Nat.{ℕ, suc, ◌-◌}
use lib.IntN.{pos}
use lib.Ieee.{Float, nan, fin, lt, eq, le}
use Rattle.heap.specs.Heap.{climb, put_in, sink, enter, take_out}
use Rattle.boxes.specs.Box.{no_box}
use Rattle.heap.specs.Boxes.{BoxSpread}
use Rattle.heap.specs.Boxes.{by_spread, no_item}

-- a whole number as a spread
number : ℕ → Float
number n = fin false n (pos 0)

-- a box has a first bin of its own, so that equal spreads can be told apart
of : ℕ → Float → BoxSpread
of first spread = record { bounds = record no_box { r0 = first }; spread = spread }

data Step : Type 0 where
  put : BoxSpread → Step
  take : Step

-- the room after some steps, from n places in use
after : List BoxSpread → ℕ → List Step → List BoxSpread
after h n [] = h
after h n (put x ∷ steps) = after (put_in by_spread no_item h n x) (suc n) steps
after h n (take ∷ steps) = after (take_out by_spread no_item h n) (n - 1) steps

record Case : Type 0 where
  room : List BoxSpread
  used : ℕ
  steps : List Step
  expected : List ℕ

cases : List Case
cases =
    -- equal elements do not climb, and a greater one climbs to the top; the last places stay
    record {
      room = of 0 nan ∷ of 0 nan ∷ of 0 nan ∷ of 0 nan ∷ of 9 nan ∷ [];
      used = 0;
      steps = put (of 1 (number 3)) ∷ put (of 2 (number 3)) ∷ put (of 3 (number 3)) ∷ put (of 4 (number 5)) ∷ [];
      expected = 4 ∷ 1 ∷ 3 ∷ 2 ∷ 9 ∷ [];
    }
    -- of equal children the right one moves up; the place that is free keeps what stood there
    ∷ record {
      room = of 1 (number 5) ∷ of 2 (number 3) ∷ of 3 (number 3) ∷ of 4 (number 1) ∷ [];
      used = 4;
      steps = take ∷ [];
      expected = 3 ∷ 2 ∷ 4 ∷ 4 ∷ [];
    }
    -- only a left child
    ∷ record {
      room = of 1 (number 5) ∷ of 2 (number 3) ∷ of 3 (number 1) ∷ [];
      used = 3;
      steps = take ∷ [];
      expected = 2 ∷ 3 ∷ 3 ∷ [];
    }
    -- the hole sinks past smaller elements, and the carried one climbs back over one of them
    ∷ record {
      room = of 1 (number 9) ∷ of 2 (number 7) ∷ of 3 (number 5) ∷ of 4 (number 1) ∷ of 5 (number 1) ∷ of 6
          (number 3) ∷ [];
      used = 6;
      steps = take ∷ [];
      expected = 2 ∷ 6 ∷ 3 ∷ 4 ∷ 5 ∷ 6 ∷ [];
    }
    -- taking out the only element leaves the room as it was
    ∷ record { room = of 1 (number 5) ∷ of 2 nan ∷ []; used = 1; steps = take ∷ []; expected = 1 ∷ 2 ∷ [] }
    -- a NaN neither climbs nor is climbed over, and moves up only as a left child that is not ≤
    ∷ record {
      room = of 1 (number 1) ∷ of 0 nan ∷ of 0 nan ∷ of 0 nan ∷ [];
      used = 1;
      steps = put (of 2 nan) ∷ put (of 3 (number 1)) ∷ put (of 4 (number 9)) ∷ take ∷ [];
      expected = 2 ∷ 4 ∷ 3 ∷ 4 ∷ [];
    }
    ∷ []

boxes : Case → List ℕ
boxes c = map (λ x. x.bounds.r0) (after c.room c.used c.steps)

worked : map boxes cases ≡ map (λ c. c.expected) cases
unfolding lt eq le climb put_in sink enter take_out number of after cases boxes
worked = refl
