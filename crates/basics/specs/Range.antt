-- What is said of n numbers from i on, one after the other. Definitions only.
use Rattle.std.specs.Prelude.{Bool, true, ◌&&◌, List, [], ◌∷◌, ℕ, zero, suc, ◌+◌}

-- the list of f at each
unfoldable pub list_from : {A : Type 0} → ℕ → ℕ → (ℕ → A) → List A
list_from i zero f = []
list_from i (suc n) f = f i ∷ list_from (suc i) n f

-- the sum of f at each
unfoldable pub sum_from : ℕ → ℕ → (ℕ → ℕ) → ℕ
sum_from i zero f = 0
sum_from i (suc n) f = f i + sum_from (suc i) n f

-- f holds at each
unfoldable pub all_from : ℕ → ℕ → (ℕ → Bool) → Bool
all_from i zero f = true
all_from i (suc n) f = f i && all_from (suc i) n f
