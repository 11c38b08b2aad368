-- Laws of decimal digits: a number by its last digit, how many digits there are, and their value.
-- Assumes nothing.
use mathlib.Core.Path.{◌≡◌, refl, sym, ap, ◌∙◌}
use mathlib.Core.List.{List, [], ◌∷◌, ◌++◌}
use Prim.Native.Nat.{ℕ, zero, suc, ◌+◌, ◌-◌, ◌*◌, ◌/◌, ◌%◌, ◌^◌, ◌≤◌, ◌<◌}
use native.Mathlib.Omega.{arith}
use native.Mathlib.Nat.{mod-lt, div-lt_self, div-lt_iff_lt-mul, div-add-mod', lt_of_not-le, pow-suc}
use native.Mathlib.Numerals.{add-one}
use native.Mathlib.Decide.{dec_le}
use borrow.Author.Tests.{lt-ltb, le-ltb}
use lib.ListN.{length, length-append}
use Rattle.lines.specs.Text.{digits_within, decimal_of}

-- a number below 10 is its own last digit, and any other has its tenth in front
one : (k n : ℕ) → n < 10 → digits_within (suc k) n ≡ (48 + n % 10) ∷ []
unfolding digits_within
one k n h = rw (lt-ltb n 10 h)

more : (k n : ℕ) → 10 ≤ n → digits_within (suc k) n ≡ digits_within k (n / 10) ++ (48 + n % 10) ∷ []
unfolding digits_within
more k n h = rw (le-ltb n 10 h)

pub tenth : {n : ℕ} → 10 ≤ n → n / 10 < n
tenth {n} h = div-lt_self {n = n} {k = 10} (omega arith) (omega arith)

-- what holds of the numbers below 10, and of a number where it holds of its tenth, holds of every number
by_tenths : (P : ℕ → Type 0) → ((n : ℕ) → n < 10 → P n) → ((n : ℕ) → 10 ≤ n → P (n / 10) → P n) → (n : ℕ) → P n
by_tenths P small large n = below (suc n) n (omega arith)
  where
    step : (k m : ℕ) → m < suc k → ((i : ℕ) → i < k → P i) → Dec (10 ≤ m) → P m
    step k m h lower (yes l) = let t = tenth l in large m l (lower (m / 10) (omega arith))
    step k m h lower (no l) = small m (lt_of_not-le l)

    below : (k m : ℕ) → m < k → P m
    below zero m h = absurd (omega arith)
    below (suc k) m h = step k m h (below k) (dec_le 10 m)

-- however many digits are allowed beyond the number, they are the same
same : (n j k : ℕ) → n < j → n < k → digits_within j n ≡ digits_within k n
same = by_tenths (λ n. (j k : ℕ) → n < j → n < k → digits_within j n ≡ digits_within k n) small large
  where
    small : (n : ℕ) → n < 10 → (j k : ℕ) → n < j → n < k → digits_within j n ≡ digits_within k n
    small n h (suc j) (suc k) a b = one j n h ∙ sym (one k n h)
    small n h zero k a b = absurd (omega arith)
    small n h (suc j) zero a b = absurd (omega arith)

    large : (n : ℕ) → 10 ≤ n → ((j k : ℕ) → n / 10 < j → n / 10 < k → digits_within j (n / 10) ≡ digits_within k (n / 10))
        → (j k : ℕ) → n < j → n < k → digits_within j n ≡ digits_within k n
    large n h front (suc j) (suc k) a b =
        let t = tenth h in
        more j n h ∙ ap (λ (l : List ℕ). l ++ (48 + n % 10) ∷ []) (front j k (omega arith) (omega arith))
        ∙ sym (more k n h)
    large n h front zero k a b = absurd (omega arith)
    large n h front (suc j) zero a b = absurd (omega arith)

pub decimal_one : (n : ℕ) → n < 10 → decimal_of n ≡ (48 + n % 10) ∷ []
unfolding decimal_of
decimal_one n h = one n n h

pub decimal_more : (n : ℕ) → 10 ≤ n → decimal_of n ≡ decimal_of (n / 10) ++ (48 + n % 10) ∷ []
unfolding decimal_of
decimal_more n h =
    more n n h ∙ ap (λ (l : List ℕ). l ++ (48 + n % 10) ∷ []) (same (n / 10) n (suc (n / 10)) (tenth h) (omega arith))

-- ---- how many
pub decimal_length : (n k : ℕ) → n < 10 ^ suc k → length (decimal_of n) ≤ suc k
decimal_length = by_tenths (λ n. (k : ℕ) → n < 10 ^ suc k → length (decimal_of n) ≤ suc k) small large
  where
    small : (n : ℕ) → n < 10 → (k : ℕ) → n < 10 ^ suc k → length (decimal_of n) ≤ suc k
    small n h k l = rw (decimal_one n h) (omega arith)

    large : (n : ℕ) → 10 ≤ n → ((k : ℕ) → n / 10 < 10 ^ suc k → length (decimal_of (n / 10)) ≤ suc k)
        → (k : ℕ) → n < 10 ^ suc k → length (decimal_of n) ≤ suc k
    large n h front zero l = absurd (omega arith)
    large n h front (suc k) l =
        let f = front k
        ((div-lt_iff_lt-mul {k = 10} {x = n} {y = 10 ^ suc k} (omega arith)).1 (rw (pow-suc 10 (suc k)) at l)) in
        rw (decimal_more n h, length-append) (omega arith)

-- no u64 has more than 20
pub decimal_20 : (n : ℕ) → n < 2 ^ 64 → length (decimal_of n) ≤ 20
decimal_20 n h = decimal_length n 19 (omega arith)

-- and a number has no more than it needs: one digit less would be too few
pub decimal_fewest : (n : ℕ) → 0 < n → 10 ^ length (decimal_of n) ≤ 10 * n
decimal_fewest = by_tenths (λ n. 0 < n → 10 ^ length (decimal_of n) ≤ 10 * n) small large
  where
    small : (n : ℕ) → n < 10 → 0 < n → 10 ^ length (decimal_of n) ≤ 10 * n
    small n h some = rw (decimal_one n h) (omega arith)

    large : (n : ℕ) → 10 ≤ n → (0 < n / 10 → 10 ^ length (decimal_of (n / 10)) ≤ 10 * (n / 10)) → 0 < n
        → 10 ^ length (decimal_of n) ≤ 10 * n
    large n h front some =
        let d = div-add-mod' n 10 in
        let m = mod-lt n {m = 10} (omega arith) in
        let f = front (omega arith) in
        rw (decimal_more n h, length-append, add-one, pow-suc) (omega arith)

-- ---- their value
-- the number that digits say, behind a number that was said before
unfoldable pub value_from : ℕ → List ℕ → ℕ
value_from before [] = before
value_from before (d ∷ ds) = value_from (before * 10 + (d - 48)) ds

value_append : (before : ℕ) (xs ys : List ℕ) → value_from before (xs ++ ys) ≡ value_from (value_from before xs) ys
unfolding value_from
value_append before [] ys = refl
value_append before (x ∷ xs) ys = value_append (before * 10 + (x - 48)) xs ys

-- the digits of a number say that number
pub decimal_value : (n : ℕ) → value_from 0 (decimal_of n) ≡ n
unfolding value_from
decimal_value = by_tenths (λ n. value_from 0 (decimal_of n) ≡ n) small large
  where
    small : (n : ℕ) → n < 10 → value_from 0 (decimal_of n) ≡ n
    small n h = rw (decimal_one n h) (omega (arith, div-add-mod' n 10))

    large : (n : ℕ) → 10 ≤ n → value_from 0 (decimal_of (n / 10)) ≡ n / 10 → value_from 0 (decimal_of n) ≡ n
    large n h front = rw (decimal_more n h, value_append, front) (omega (arith, div-add-mod' n 10))
