-- What a caller is told (Rules, Answers). Definitions only.
use Rattle.std.specs.Prelude.{Bool, true, false, List, ℕ, zero, suc}

-- an answer, 0 to 9, and the values that stand beside it
pub record Answer : Type 0 where
  pub number : ℕ
  pub values : List ℕ

-- the answer n where the test holds, else what comes after it: "The lowest answer from 1 to 9 that applies is given"
unfoldable pub refuse : Bool → ℕ → ℕ → ℕ
refuse true n rest = n
refuse false n rest = rest

-- what is left behind where a call is done, and where it is refused
unfoldable pub when_done : {A : Type 0} → ℕ → A → A → A
when_done zero done kept = done
when_done (suc n) done kept = kept
