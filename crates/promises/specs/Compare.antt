-- What a comparison tells of two tables (Rules, Compare). Definitions only.
use Rattle.std.specs.Prelude.{◌≡◌, Bool, true, false, not, List, [], ◌∷◌, ℕ, ◌+◌, ◌*◌, ◌≤◌, ◌<◌, eqb, ℤ, pos, nat_abs, ◌+ℤ◌, get_or}
use Rattle.basics.specs.Range.{all_from}

-- two lists added, number by number
unfoldable pub plus_each : List ℤ → List ℤ → List ℤ
plus_each [] ys = []
plus_each (x ∷ xs) [] = []
plus_each (x ∷ xs) (y ∷ ys) = (x +ℤ y) ∷ plus_each xs ys

-- whether one of the five differences from 5·place on is not 0
unfoldable pub changed : List ℤ → ℕ → Bool
changed l p = not (all_from 0 5 (λ j. eqb (nat_abs (get_or l (5 * p + j) (pos 0))) 0))

-- the first of the places below n at which a test holds, or n where it holds at none
pub record IsFirst (n : ℕ) (f : ℕ → Bool) (at : ℕ) : Type 0 where
  pub within : at ≤ n
  pub here : at < n → f at ≡ true
  pub none_before : (p : ℕ) → p < at → f p ≡ false
