-- What is written, one item after the other, into the front of a lent array. Definitions only.
use Rattle.std.specs.Prelude.{List, [], ◌∷◌, ◌++◌, ℕ, ◌+◌, ◌*◌, length, drop, set}

-- the values of each item, one after the other
unfoldable pub join_all : {A B : Type 0} → (A → List B) → List A → List B
join_all f [] = []
join_all f (x ∷ xs) = f x ++ join_all f xs

-- an array whose front they fill, w values an item: "Places past the filled front of palette, counts and remainders
-- stay"
unfoldable pub filled : {A B : Type 0} → ℕ → (A → List B) → List A → List B → List B
filled w f xs old = join_all f xs ++ drop (w * length xs) old

-- an array with values from a place on
unfoldable pub put_from : {B : Type 0} → List B → ℕ → List B → List B
put_from l n [] = l
put_from l n (b ∷ bs) = put_from (set l n b) (n + 1) bs
