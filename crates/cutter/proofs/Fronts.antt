-- Filling the front of a lent array, item by item: one law over the width of an item.
-- Assumes nothing.
use mathlib.Core.Path.{◌≡◌, sym, ap, ◌∙◌}
use mathlib.Core.List.{List, [], ◌∷◌, ◌++◌, append_assoc, append-nil}
use Prim.Native.Nat.{ℕ, zero, suc, ◌+◌, ◌*◌, ◌≤◌, ◌<◌}
use native.Mathlib.Nat.{le_of_lt, add-zero, mul-zero, mul-add, mul-one, one-mul, le_trans, mul-le-mul_left}
use native.Mathlib.Numerals.{add-one}
use native.Mathlib.Omega.{arith}
use lib.ListN.{length, get_or, take, drop, set, length-append, length-drop, get_or-append}
use lib.Seq.{drop-cons, set_at, take_at, length-take-le, take-suc, append_snoc, get_or-append-add, get_or-drop}
use Rattle.cutter.specs.Fronts.{join_all, filled, put_from}

-- one value at place i is an item of width 1 there
pub put_one : {B : Type 0} (old : List B) (i : ℕ) (b : B) → set old i b ≡ put_from old (1 * i) (b ∷ [])
unfolding put_from
put_one old i b = ap (λ (n : ℕ). set old n b) (sym (one-mul i))

-- values written where a front ends make it longer
pub put_front : {B : Type 0} (none : B) (front old bs : List B) (n : ℕ) → length front ≡ n → n + length bs ≤ length old
    → put_from (front ++ drop n old) n bs ≡ front ++ (bs ++ drop (n + length bs) old)
unfolding put_from
put_front none front old [] n e h = ap (λ (k : ℕ). front ++ drop k old) (sym (add-zero n))
put_front none front old (b ∷ bs) n e h =
    ap (λ (l : List _). put_from l (n + 1) bs) (first ∙ sym (append_snoc front b (drop (n + 1) old)))
    ∙ put_front none (front ++ (b ∷ [])) old bs (n + 1) (length-append front (b ∷ []) ∙ ap (λ (k : ℕ). k + 1) e)
    (omega arith)
    ∙ append_snoc front b (bs ++ drop (n + 1 + length bs) old)
    ∙ ap (λ (k : ℕ). front ++ (b ∷ (bs ++ drop k old))) (same n (length bs))
  where
    same : (n k : ℕ) → n + 1 + k ≡ n + suc k
    same n k = omega arith

    first : set (front ++ drop n old) n b ≡ front ++ (b ∷ drop (n + 1) old)
    first =
        ap (λ (l : List _). set (front ++ l) n b) (drop-cons old n none (omega arith))
        ∙ set_at front (get_or old n none) (drop (suc n) old) b n e
        ∙ ap (λ (k : ℕ). front ++ (b ∷ drop k old)) (sym (add-one n))

module _ {A B : Type 0} (w : ℕ) (f : A → List B) (each : (x : A) → length (f x) ≡ w) where
  pub length_joined : (xs : List A) → length (join_all f xs) ≡ w * length xs
  unfolding join_all
  length_joined [] = omega arith
  length_joined (x ∷ xs) = length-append (f x) (join_all f xs) ∙ omega (arith, each x, length_joined xs)

  joined_more : (xs : List A) (x : A) → join_all f (xs ++ (x ∷ [])) ≡ join_all f xs ++ f x
  unfolding join_all
  joined_more [] x = append-nil (f x)
  joined_more (y ∷ xs) x =
      ap (λ (l : List B). f y ++ l) (joined_more xs x) ∙ sym (append_assoc (f y) (join_all f xs) (f x))

  pub filled_none : (old : List B) → filled w f [] old ≡ old
  unfolding filled join_all
  filled_none old = ap (λ (k : ℕ). drop k old) (mul-zero w)

  pub length_filled : (xs : List A) (old : List B) → w * length xs ≤ length old
      → length (filled w f xs old) ≡ length old
  unfolding filled
  length_filled xs old h = simp (length-append, length-drop, length_joined) (omega arith)

  -- of the first i items
  pub length_filled_part : (xs : List A) (i : ℕ) → i ≤ length xs → (old : List B) → w * length xs ≤ length old
      → length (filled w f (take i xs) old) ≡ length old
  length_filled_part xs i h old l =
      length_filled (take i xs) old (rw (length-take-le i xs h) (le_trans (mul-le-mul_left w h) l))

  -- ---- what stands where
  -- value j of item i
  joined_at : (xs : List A) (rest : List B) (i j : ℕ) (none : A) (past : B) → i < length xs → j < w
      → get_or (join_all f xs ++ rest) (w * i + j) past ≡ get_or (f (get_or xs i none)) j past
  unfolding join_all
  joined_at [] rest i j none past h l = absurd (omega arith)
  joined_at (x ∷ xs) rest zero j none past h l =
      (λ k. get_or (append_assoc (f x) (join_all f xs) rest k) (first k) past)
      ∙ get_or-append (f x) (join_all f xs ++ rest) past j (rw (each x) l)
    where
      first : w * 0 + j ≡ j
      first = omega arith
  joined_at (x ∷ xs) rest (suc i) j none past h l =
      (λ k. get_or (append_assoc (f x) (join_all f xs) rest k) (later k) past)
      ∙ get_or-append-add (f x) (join_all f xs ++ rest) (w * i + j) past
      ∙ joined_at xs rest i j none past (omega arith) l
    where
      later : w * suc i + j ≡ length (f x) + (w * i + j)
      later = omega (arith, each x)

  pub filled_at : (xs : List A) (old : List B) (i j : ℕ) (none : A) (past : B) → i < length xs → j < w
      → get_or (filled w f xs old) (w * i + j) past ≡ get_or (f (get_or xs i none)) j past
  unfolding filled
  filled_at xs old i j none past h l = joined_at xs (drop (w * length xs) old) i j none past h l

  pub filled_past : (xs : List A) (old : List B) (k : ℕ) (past : B)
      → get_or (filled w f xs old) (w * length xs + k) past ≡ get_or old (w * length xs + k) past
  unfolding filled
  filled_past xs old k past =
      ap (λ (n : ℕ). get_or (join_all f xs ++ drop (w * length xs) old) (n + k) past) (sym (length_joined xs))
      ∙ get_or-append-add (join_all f xs) (drop (w * length xs) old) k past
      ∙ get_or-drop (w * length xs) old k past

  pub filled_front : (xs : List A) (old : List B) → take (w * length xs) (filled w f xs old) ≡ join_all f xs
  unfolding filled
  filled_front xs old = take_at (join_all f xs) (drop (w * length xs) old) (w * length xs) (length_joined xs)

  -- ---- the item at place i after the first i
  pub filled_next : (xs : List A) (i : ℕ) (none : A) (past : B) → i < length xs → (old : List B)
      → w * length xs ≤ length old → {before later : List B} → before ≡ filled w f (take i xs) old
      → later ≡ put_from before (w * i) (f (get_or xs i none)) → later ≡ filled w f (take (i + 1) xs) old
  unfolding filled
  filled_next xs i none past h old l e g =
      let front = take i xs in
      let item = f (get_or xs i none) in
      let before-it : length front ≡ i = length-take-le i xs (le_of_lt h) in
      let long : length (join_all f front) ≡ w * i = length_joined front ∙ ap (λ (k : ℕ). w * k) before-it in
      let more : take i xs ++ (get_or xs i none ∷ [])
      ≡ take (i + 1) xs = sym (ap (λ (k : ℕ). take k xs) (add-one i) ∙ take-suc xs i none h) in
      g
      ∙ ap (λ (l : List B). put_from l (w * i) item) (e ∙ ap (λ (k : ℕ). join_all f front ++ drop (w * k) old) before-it)
      ∙ put_front past (join_all f front) old item (w * i) long (rw (each (get_or xs i none)) (fits l))
      ∙ sym (append_assoc (join_all f front) item (drop (w * i + length item) old))
      ∙ (λ k. sym (joined_more front (get_or xs i none)) k ++ drop (after k) old)
      ∙ ap (λ (ys : List A). join_all f ys ++ drop (w * (i + 1)) old) more
      ∙ ap (λ (k : ℕ). join_all f (take (i + 1) xs) ++ drop (w * k) old) (sym (length-take-le (i + 1) xs (next h)))
    where
      next : i < length xs → i + 1 ≤ length xs
      next h = omega arith

      after : w * i + length (f (get_or xs i none)) ≡ w * (i + 1)
      after =
          ap (λ (k : ℕ). w * i + k) (each (get_or xs i none))
          ∙ sym (mul-add w i 1 ∙ ap (λ (k : ℕ). w * i + k) (mul-one w))

      fits : w * length xs ≤ length old → w * i + w ≤ length old
      fits l = le_trans (rw (← (mul-add w i 1 ∙ ap (λ (k : ℕ). w * i + k) (mul-one w))) (mul-le-mul_left w (next h))) l
