-- Laws of numbers in a header: a digit of one, its end, and a value kept within 65,536.
-- Assumes nothing.
use mathlib.Core.Path.{◌≡◌, refl, sym, ap, ◌∙◌}
use mathlib.Core.Bool.{Bool, true, false, cond}
use mathlib.Core.List.{List, [], ◌∷◌}
use Prim.Native.Nat.{ℕ, ◌+◌, ◌-◌, ◌*◌, ◌≤◌, ◌<◌, min}
use native.Mathlib.Omega.{arith}
use borrow.Author.Tests.{leb-true}
use lib.Dec.{leb}
use lib.ListN.{length, get_or, drop}
use Rattle.basics.proofs.Range.{and_left, and_right}
use Rattle.ppm.specs.Header.{is_digit, value_from, after_number}
use Rattle.ppm.specs.Inner.{most, behind}
use Rattle.ppm.proofs.Tails.{Tail, tail_all, tail_next, next_byte, no_byte, behind_drop}

-- what is left after a number is an end of what was there
pub number_tail : (xs : List ℕ) → Tail xs (after_number xs)
unfolding after_number
number_tail [] = tail_all []
number_tail (c ∷ cs) = go (is_digit c) (number_tail cs)
  where
    go : (b : Bool) → Tail cs (after_number cs) → Tail (c ∷ cs) (cond b (after_number cs) (c ∷ cs))
    go true t = tail_next t
    go false t = tail_all (c ∷ cs)

pub digit_says : (c : ℕ) → is_digit c ≡ true → (48 ≤ c) × (c ≤ 57)
unfolding is_digit
digit_says c e = (leb-true 48 c (and_left (leb 48 c) (leb c 57) e), leb-true c 57 (and_right (leb 48 c) (leb c 57) e))

-- ---- a value that is kept at 65,536
kept_twice : (n : ℕ) → min (min n most) most ≡ min n most
kept_twice n = omega arith

kept_longer : (n d : ℕ) → min (10 * min n most + d) most ≡ min (10 * n + d) most
kept_longer n d = omega arith

-- digits behind it make no difference
pub value_kept : (value : ℕ) (xs : List ℕ) → min (value_from (min value most) xs) most ≡ min (value_from value xs) most
unfolding value_from
value_kept value [] = kept_twice value
value_kept value (c ∷ cs) = go (is_digit c) (λ n. value_kept n cs)
  where
    go : (b : Bool) → ((n : ℕ) → min (value_from (min n most) cs) most ≡ min (value_from n cs) most)
        → min (cond b (value_from (10 * min value most + (c - 48)) cs) (min value most)) most
        ≡ min (cond b (value_from (10 * value + (c - 48)) cs) value) most
    go true later =
        sym (later (10 * min value most + (c - 48)))
        ∙ ap (λ (n : ℕ). min (value_from n cs) most) (kept_longer value (c - 48))
        ∙ later (10 * value + (c - 48))
    go false later = kept_twice value

-- ---- a number that was read up to a place, with the value so far
pub record NumberTo (file : List ℕ) (at value p : ℕ) : Type 0 where
  pub there : p ≤ length file
  pub few : value ≤ most
  pub same : min (value_from value (drop p file)) most ≡ min (value_from 0 (drop at file)) most
  pub rest : after_number (drop p file) ≡ after_number (drop at file)

pub number_starts : (file : List ℕ) (at : ℕ) → at ≤ length file → NumberTo file at 0 at
number_starts file at h = record { there = h; few = omega arith; same = refl; rest = refl }

module _ {file : List ℕ} {at value p : ℕ} (n : NumberTo file at value p) where
  -- one digit further
  pub number_goes : p < length file → is_digit (get_or file p 0) ≡ true → {v : ℕ}
      → v ≡ min (10 * value + (get_or file p 0 - 48)) most → NumberTo file at v (p + 1)
  unfolding value_from after_number
  number_goes h e {v} q =
      let c : ℕ = get_or file p 0 in
      let rest : List ℕ = drop (p + 1) file in
      record {
        there = omega (arith, h);
        few = omega (arith, q);
        same =
            ap (λ (k : ℕ). min (value_from k rest) most) q
            ∙ value_kept (10 * value + (c - 48)) rest
            ∙ sym (ap (λ (l : List ℕ). min (value_from value l) most) (next_byte file p h)
            ∙ ap (λ (b : Bool). min (cond b (value_from (10 * value + (c - 48)) rest) value) most) e)
            ∙ n.same;
        rest =
            sym (ap after_number (next_byte file p h) ∙ ap (λ (b : Bool). cond b (after_number rest) (c ∷ rest)) e)
            ∙ n.rest;
      }

  kept : min value most ≡ value
  kept = omega (arith, n.few)

  -- its end: another byte, or none
  pub number_ends : p < length file → is_digit (get_or file p 0) ≡ false
      → (value ≡ min (value_from 0 (drop at file)) most) × (p ≡ behind file (after_number (drop at file)))
  unfolding value_from after_number
  number_ends h e =
      let c : ℕ = get_or file p 0 in
      let rest : List ℕ = drop (p + 1) file in
      let left : after_number (drop p file) ≡ drop p file =
      ap after_number (next_byte file p h) ∙ ap (λ (b : Bool). cond b (after_number rest) (c ∷ rest)) e
      ∙ sym (next_byte file p h) in
      let read : value_from value (drop p file) ≡ value =
      ap (value_from value) (next_byte file p h)
      ∙ ap (λ (b : Bool). cond b (value_from (10 * value + (c - 48)) rest) value) e in (
        sym kept ∙ ap (λ (k : ℕ). min k most) (sym read) ∙ n.same,
        sym (behind_drop file p n.there) ∙ ap (behind file) (sym left ∙ n.rest),
      )

  pub number_cut : (p < length file → ⊥)
      → (value ≡ min (value_from 0 (drop at file)) most) × (p ≡ behind file (after_number (drop at file)))
  unfolding value_from after_number
  number_cut m =
      let none = no_byte file p n.there m in (
        sym kept ∙ ap (λ (l : List ℕ). min (value_from value l) most) (sym none) ∙ n.same,
        sym (behind_drop file p n.there) ∙ ap (behind file) (none ∙ ap after_number (sym none) ∙ n.rest),
      )
