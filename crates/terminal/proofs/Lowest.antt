-- The number with the smallest f, the lowest on a tie: what it is, that there is one only, and how a loop finds it.
-- Assumes nothing.
use mathlib.Core.Path.{◌≡◌, refl, sym, ap, ◌∙◌}
use mathlib.Core.Bool.{Bool, true, false, cond}
use Prim.Native.Nat.{min, ℕ, zero, suc, ◌+◌, ◌*◌, ◌-◌, ◌≤◌, ◌<◌}
use native.Mathlib.Nat.{lt_of_not-le}
use native.Mathlib.Omega.{arith}
use native.Mathlib.Decide.{dec_le}
use borrow.Author.Tests.{ltb-true, ltb-false, lt-ltb, le-ltb}
use lib.Dec.{ltb}
use Rattle.terminal.specs.Nearest.{least_from}

module _ (i : ℕ) (f : ℕ → ℕ) where
  -- it is among the numbers, none has a smaller f, and each lower one has a larger
  pub record Lowest (n b : ℕ) : Type 0 where
    pub from : i ≤ b
    pub to : b ≤ i + n
    pub least : (m : ℕ) → i ≤ m → m ≤ i + n → f b ≤ f m
    pub first : (m : ℕ) → i ≤ m → m < b → f b < f m

  alone : Lowest 0 i
  alone =
      record {
        from = omega arith;
        to = omega arith;
        least = λ m h k. same m (omega (arith, h, k));
        first = λ m h k. absurd (omega arith);
      }
    where
      same : (m : ℕ) → m ≡ i → f i ≤ f m
      same m e = rw e (omega arith)

  -- one number more, whose f is smaller, or is not
  more : (n b : ℕ) → Lowest n b → f (i + suc n) < f b → Lowest (suc n) (i + suc n)
  more n b old now =
      record {
        from = omega arith;
        to = omega arith;
        least = λ m h k. at m h k (dec_le m (i + n));
        first = λ m h k. omega (arith, now, old.least m h (omega (arith, k)));
      }
    where
      at : (m : ℕ) → i ≤ m → m ≤ i + suc n → Dec (m ≤ i + n) → f (i + suc n) ≤ f m
      at m h k (yes l) = omega (arith, now, old.least m h l)
      at m h k (no l) = let e : m ≡ i + suc n = omega (arith, lt_of_not-le l) in rw e (omega arith)

  kept : (n b : ℕ) → Lowest n b → f b ≤ f (i + suc n) → Lowest (suc n) b
  kept n b old now =
      record {
        from = old.from;
        to = omega (arith, old.to);
        least = λ m h k. at m h k (dec_le m (i + n));
        first = old.first;
      }
    where
      at : (m : ℕ) → i ≤ m → m ≤ i + suc n → Dec (m ≤ i + n) → f b ≤ f m
      at m h k (yes l) = old.least m h l
      at m h k (no l) = let e : m ≡ i + suc n = omega (arith, lt_of_not-le l) in rw e now

  pub lowest_is : (n : ℕ) → Lowest n (least_from i n f)
  unfolding least_from
  lowest_is zero = alone
  lowest_is (suc n) = go (ltb (f (i + suc n)) (f (least_from i n f))) refl (lowest_is n)
    where
      go : (t : Bool) → ltb (f (i + suc n)) (f (least_from i n f)) ≡ t → Lowest n (least_from i n f)
          → Lowest (suc n) (cond t (i + suc n) (least_from i n f))
      go true e old = more n _ old (ltb-true (f (i + suc n)) (f (least_from i n f)) e)
      go false e old = kept n _ old (ltb-false (f (i + suc n)) (f (least_from i n f)) e)

  -- there is one such number only
  pub lowest_one : (n a b : ℕ) → Lowest n a → Lowest n b → a ≡ b
  lowest_one n a b p q = go (dec_le a b) (dec_le b a)
    where
      go : Dec (a ≤ b) → Dec (b ≤ a) → a ≡ b
      go (yes h) (yes k) = omega arith
      go (no h) k = absurd (omega (arith, p.first b q.from (lt_of_not-le h), q.least a p.from p.to))
      go (yes h) (no k) = absurd (omega (arith, q.first a p.from (lt_of_not-le k), p.least b q.from q.to))

  -- ---- a value of f and its number as one, the smallest of which tells both
  abbrev pub key_of : ℕ → ℕ
  key_of b = 256 * f b + b

  next : (n : ℕ) → f (i + suc n) < f (least_from i n f) → least_from i (suc n) f ≡ i + suc n
  unfolding least_from
  next n h = ap (λ (t : Bool). cond t (i + suc n) (least_from i n f)) (lt-ltb (f (i + suc n)) (f (least_from i n f)) h)

  same : (n : ℕ) → f (least_from i n f) ≤ f (i + suc n) → least_from i (suc n) f ≡ least_from i n f
  unfolding least_from
  same n h = ap (λ (t : Bool). cond t (i + suc n) (least_from i n f)) (le-ltb (f (i + suc n)) (f (least_from i n f)) h)

  -- one number more, as a loop over k has it, whose key is smaller, or is not
  module _ (low : i ≤ 16) where
    pub key_next : (k l x : ℕ) → 1 ≤ k → k < 240 → l ≡ key_of (least_from i (k - 1) f) → x ≡ key_of (i + k) → x < l
        → x ≡ key_of (least_from i (k + 1 - 1) f)
    key_next zero l x h j p q r = absurd (omega arith)
    key_next (suc n) l x h j p q r =
        let back : suc n - 1 ≡ n = omega arith in
        let on : suc n + 1 - 1 ≡ suc n = omega arith in
        let was = p ∙ ap (λ (m : ℕ). key_of (least_from i m f)) back in
        let is = lowest_is n in
        q ∙ ap key_of (sym (ap (λ (m : ℕ). least_from i m f) on ∙ next n (omega (arith, is.to, is.from, was, q, r))))

    pub key_same : (k l x : ℕ) → 1 ≤ k → k < 240 → l ≡ key_of (least_from i (k - 1) f) → x ≡ key_of (i + k) → l ≤ x
        → l ≡ key_of (least_from i (k + 1 - 1) f)
    key_same zero l x h j p q r = absurd (omega arith)
    key_same (suc n) l x h j p q r =
        let back : suc n - 1 ≡ n = omega arith in
        let on : suc n + 1 - 1 ≡ suc n = omega arith in
        let was = p ∙ ap (λ (m : ℕ). key_of (least_from i m f)) back in
        let is = lowest_is n in
        was ∙ ap key_of (sym (ap (λ (m : ℕ). least_from i m f) on ∙ same n (omega (arith, is.to, is.from, was, q, r))))

    -- the smaller of the two keys is that of the lowest of one number more, for a loop in whatever form
    pub least_more : (k : ℕ) → 1 ≤ k → k < 240
        → key_of (least_from i (k + 1 - 1) f) ≡ min (key_of (least_from i (k - 1) f)) (key_of (i + k))
    least_more k h j =
        let l = key_of (least_from i (k - 1) f) in
        let x = key_of (i + k) in
        grind (arith, key_same k l x h j refl refl, key_next k l x h j refl refl)
