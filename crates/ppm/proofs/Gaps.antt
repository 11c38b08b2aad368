-- Laws of gaps: a byte of one, its end, and the whole of one read byte by byte.
-- Assumes nothing.
use Rattle.std.specs.Prelude.{Some, None}
use Rattle.std.specs.Bool.{then_some}
use mathlib.Core.Path.{◌≡◌, refl, sym, ap, ◌∙◌}
use mathlib.Core.Bool.{Bool, true, false, not, ◌&&◌, ◌||◌, cond}
use mathlib.Core.List.{List, [], ◌∷◌}
use Prim.Native.Nat.{ℕ, ◌+◌, ◌≤◌, ◌<◌}
use native.Mathlib.Omega.{arith}
use lib.ListN.{length, get_or, drop}
use Rattle.ppm.specs.Header.{is_blank, opens, in_gap, after_gap, has_blank}
use Rattle.ppm.specs.Inner.{blank_seen, behind}
use Rattle.ppm.proofs.Tails.{Tail, tail_all, tail_next, next_byte, no_byte, behind_drop}

-- what is left after a gap is an end of what was there
pub gap_tail : (within : Bool) (xs : List ℕ) → Tail xs (after_gap within xs)
unfolding after_gap
gap_tail within [] = tail_all []
gap_tail within (c ∷ cs) = go (in_gap within c) (gap_tail (opens within c) cs)
  where
    go : (b : Bool) → Tail cs (after_gap (opens within c) cs)
        → Tail (c ∷ cs) (cond b (after_gap (opens within c) cs) (c ∷ cs))
    go true t = tail_next t
    go false t = tail_all (c ∷ cs)

-- ---- a gap that was read up to a place: in a comment or not, with whitespace seen or not
pub record GapTo (file : List ℕ) (at : ℕ) (within blank : Bool) (p : ℕ) : Type 0 where
  pub there : p ≤ length file
  pub rest : after_gap within (drop p file) ≡ after_gap false (drop at file)
  pub seen : (blank || has_blank within (drop p file)) ≡ has_blank false (drop at file)

pub gap_starts : (file : List ℕ) (at : ℕ) → at ≤ length file → GapTo file at false false at
gap_starts file at h = record { there = h; rest = refl; seen = refl }

or_assoc : (a b c : Bool) → ((a || b) || c) ≡ (a || (b || c))
or_assoc true b c = refl
or_assoc false b c = refl

or_none : (a : Bool) → (a || false) ≡ a
or_none true = refl
or_none false = refl

module _ {file : List ℕ} {at : ℕ} {within blank : Bool} {p : ℕ} (g : GapTo file at within blank p) where
  -- one byte further
  pub gap_goes : p < length file → in_gap within (get_or file p 0) ≡ true
      → GapTo file at (opens within (get_or file p 0)) (blank_seen blank within (get_or file p 0)) (p + 1)
  unfolding after_gap has_blank blank_seen
  gap_goes h e =
      let c : ℕ = get_or file p 0 in
      let later : Bool = has_blank (opens within c) (drop (p + 1) file) in
      record {
        there = omega (arith, h);
        rest =
            sym (ap (after_gap within) (next_byte file p h)
            ∙ ap (λ (b : Bool). cond b (after_gap (opens within c) (drop (p + 1) file)) (c ∷ drop (p + 1) file)) e)
            ∙ g.rest;
        seen =
            or_assoc blank (not within && is_blank c) later
            ∙ ap (λ (b : Bool). blank || b)
            (sym (ap (has_blank within) (next_byte file p h)
            ∙ ap (λ (b : Bool). b && ((not within && is_blank c) || later)) e))
            ∙ g.seen;
      }

  -- its end: a byte of no gap, or no byte
  pub gap_ends : p < length file → in_gap within (get_or file p 0) ≡ false
      → (blank ≡ has_blank false (drop at file)) × (p ≡ behind file (after_gap false (drop at file)))
  unfolding after_gap has_blank
  gap_ends h e =
      let c : ℕ = get_or file p 0 in
      let later : Bool = has_blank (opens within c) (drop (p + 1) file) in
      let none : has_blank within (drop p file) ≡ false =
      ap (has_blank within) (next_byte file p h) ∙ ap (λ (b : Bool). b && ((not within && is_blank c) || later)) e in
      let left : after_gap within (drop p file) ≡ drop p file =
      ap (after_gap within) (next_byte file p h)
      ∙ ap (λ (b : Bool). cond b (after_gap (opens within c) (drop (p + 1) file)) (c ∷ drop (p + 1) file)) e
      ∙ sym (next_byte file p h) in (
        sym (or_none blank) ∙ ap (λ (b : Bool). blank || b) (sym none) ∙ g.seen,
        sym (behind_drop file p g.there) ∙ ap (behind file) (sym left ∙ g.rest),
      )

  pub gap_cut : (p < length file → ⊥)
      → (blank ≡ has_blank false (drop at file)) × (p ≡ behind file (after_gap false (drop at file)))
  unfolding after_gap has_blank
  gap_cut n =
      let none = no_byte file p g.there n in (
        sym (or_none blank) ∙ ap (λ (l : List ℕ). blank || has_blank within l) (sym none) ∙ g.seen,
        sym (behind_drop file p g.there) ∙ ap (behind file) (none ∙ ap (after_gap within) (sym none) ∙ g.rest),
      )

-- ---- where a gap has whitespace, the place behind it
pub gap_there : (b : Bool) (e : ℕ) {end : ℕ} → Some end ≡ then_some b e → (b ≡ true) × (end ≡ e)
gap_there true e q = (refl, cc)
gap_there false e q = cc

pub gap_bare : (b : Bool) (e : ℕ) → None ≡ then_some b e → b ≡ false
gap_bare true e q = cc
gap_bare false e q = refl
