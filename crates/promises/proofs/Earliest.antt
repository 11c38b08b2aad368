-- A chain of refusals whose answers from 10 to 14 come before those from 1 to 9 gives the earliest that applies.
-- Assumes nothing.
use mathlib.Core.Path.{◌≡◌, refl, sym, ap, ◌∙◌}
use mathlib.Core.Bool.{Bool, true, false, ◌&&◌, ◌||◌, cond}
use mathlib.Core.List.{[], ◌∷◌, ◌++◌}
use Prim.Native.Nat.{ℕ, zero, suc, ◌+◌, ◌≤◌, ◌<◌}
use native.Mathlib.Nat.{add-suc, suc-add}
use native.Mathlib.Omega.{arith}
use borrow.Author.Tests.{ne_eqb, leb-true}
use lib.Dec.{eqb, leb}
use Rattle.basics.specs.Answer.{refuse, when_done}
use Rattle.basics.proofs.Range.{and_left, and_right}
use Rattle.promises.specs.Numbers.{Tests, applies, chain, ascends, lowest_from, lowest_of, earliest_of}
use Rattle.promises.proofs.Numbers.{none_below, lowest_from_lem}

-- answers past the last one do not apply
none_above : (last : ℕ) (xs : Tests) (n m : ℕ) → ascends last n xs ≡ true → last < m → applies xs m ≡ false
unfolding applies ascends
none_above last [] n m a h = refl
none_above last (x ∷ xs) n m a h =
    let later = and_right (leb n x.0) _ a in
    let most : x.0 ≤ last = leb-true x.0 last (and_left (leb x.0 last) _ later) in
    rw (
      ne_eqb x.0 m (λ e. omega (arith, most, e, h)),
      none_above last xs x.0 m (and_right (leb x.0 last) _ later) h,
    ) refl

-- ---- tests one after the other
or_assoc : (a b c : Bool) → (a || (b || c)) ≡ ((a || b) || c)
or_assoc true b c = refl
or_assoc false b c = refl

or_none : (a : Bool) → (a || false) ≡ a
or_none true = refl
or_none false = refl

applies_both : (es xs : Tests) (m : ℕ) → applies (es ++ xs) m ≡ (applies es m || applies xs m)
unfolding applies
applies_both [] xs m = refl
applies_both (x ∷ es) xs m =
    ap (λ (b : Bool). (eqb x.0 m && x.1) || b) (applies_both es xs m)
    ∙ or_assoc (eqb x.0 m && x.1) (applies es m) (applies xs m)

chain_both : (es xs : Tests) (last n : ℕ) → 1 ≤ n → ascends last n es ≡ true
    → chain (es ++ xs) ≡ when_done (chain es) (chain xs) (chain es)
unfolding chain ascends refuse when_done
chain_both [] xs last n h a = refl
chain_both (x ∷ es) xs last n h a =
    let least : n ≤ x.0 = leb-true n x.0 (and_left (leb n x.0) _ a) in
    let rest = and_right (leb x.0 last) _ (and_right (leb n x.0) _ a) in
    go x.1 x.0 (omega (arith, h, least)) (chain_both es xs last x.0 (omega (arith, h, least)) rest)
  where
    go : (b : Bool) (k : ℕ) → 1 ≤ k → chain (es ++ xs) ≡ when_done (chain es) (chain xs) (chain es)
        → refuse b k (chain (es ++ xs)) ≡ when_done (refuse b k (chain es)) (chain xs) (refuse b k (chain es))
    go true zero l later = absurd (omega arith)
    go true (suc k) l later = refl
    go false k l later = later

-- ---- the earliest
lowest_same : (n more : ℕ) (f g : ℕ → Bool) → ((m : ℕ) → n ≤ m → m < n + more → f m ≡ g m)
    → lowest_from n more f ≡ lowest_from n more g
unfolding lowest_from
lowest_same n zero f g h = refl
lowest_same n (suc more) f g h =
    λ i. cond (h n (omega arith) (omega (arith, add-suc n more)) i) n
    (lowest_same (suc n) more f g
    (λ m a b. h m (omega arith) (omega (arith, b, suc-add n more, add-suc n more))) i)

split : (f : ℕ → Bool) → earliest_of f ≡ when_done (lowest_from 10 5 f) (lowest_of f) (lowest_from 10 5 f)
unfolding earliest_of lowest_from when_done
split f = go (f 10) (f 11) (f 12) (f 13) (f 14)
  where
    go : (a b c d e : Bool)
        → cond a 10 (cond b 11 (cond c 12 (cond d 13 (cond e 14 (lowest_of f)))))
        ≡ when_done (cond a 10 (cond b 11 (cond c 12 (cond d 13 (cond e 14 0))))) (lowest_of f)
        (cond a 10 (cond b 11 (cond c 12 (cond d 13 (cond e 14 0)))))
    go true b c d e = refl
    go false true c d e = refl
    go false false true d e = refl
    go false false false true e = refl
    go false false false false true = refl
    go false false false false false = refl

-- tests with answers from 10 to 14, and then those with answers from 1 to 9
pub early : (es xs : Tests) → ascends 14 10 es ≡ true → ascends 9 1 xs ≡ true
    → chain (es ++ xs) ≡ earliest_of (applies (es ++ xs))
unfolding lowest_of
early es xs a b =
    chain_both es xs 14 10 (omega arith) a
    ∙ (λ i. when_done (first i) (second i) (first i))
    ∙ sym (split (applies (es ++ xs)))
  where
    first : chain es ≡ lowest_from 10 5 (applies (es ++ xs))
    first =
        lowest_from_lem 10 5 es 14 10 (omega arith) (omega arith) a
        ∙ lowest_same 10 5 (applies es) (applies (es ++ xs))
        (λ m h l. sym (applies_both es xs m
        ∙ ap (λ (c : Bool). applies es m || c) (none_above 9 xs 1 m b (omega (arith, h)))
        ∙ or_none (applies es m)))

    second : chain xs ≡ lowest_from 1 9 (applies (es ++ xs))
    second =
        lowest_from_lem 1 9 xs 9 1 (omega arith) (omega arith) b
        ∙ lowest_same 1 9 (applies xs) (applies (es ++ xs))
        (λ m h l. sym (applies_both es xs m
        ∙ ap (λ (c : Bool). c || applies xs m) (none_below 14 es 10 m a (omega (arith, l)))))
