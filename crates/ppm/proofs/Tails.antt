-- Laws of what is left of a file, and of its place.
-- Assumes nothing.
use mathlib.Core.Path.{◌≡◌, refl, sym, ap, subst, ◌∙◌}
use mathlib.Core.List.{List, [], ◌∷◌}
use Prim.Native.Nat.{ℕ, suc, ◌+◌, ◌≤◌, ◌<◌}
use native.Mathlib.Omega.{arith}
use lib.ListN.{length, get_or, drop, length-drop}
use lib.Seq.{drop-cons, drop-length, drop-drop}
use Rattle.ppm.specs.Inner.{behind, StartsAt}

-- a list that is another one's end
pub record Tail (xs rest : List ℕ) : Type 0 where
  pub at : ℕ
  pub starts : StartsAt xs rest at

pub tail_all : (xs : List ℕ) → Tail xs xs
tail_all xs = record { at = 0; starts = record { there = omega arith; left = refl } }

pub tail_next : {c : ℕ} {xs rest : List ℕ} → Tail xs rest → Tail (c ∷ xs) rest
tail_next t =
    record { at = suc t.at; starts = record { there = omega (arith, t.starts.there); left = t.starts.left } }

pub tail_of : {xs ys rest : List ℕ} → Tail xs ys → Tail ys rest → Tail xs rest
tail_of {xs} {ys} t u =
    record {
      at = t.at + u.at;
      starts = record {
        there =
            omega (
              arith,
              t.starts.there,
              u.starts.there,
              length-drop t.at xs,
              ap length t.starts.left,
            );
        left =
            sym (drop-drop u.at t.at xs) ∙ ap (λ (l : List ℕ). drop u.at l) t.starts.left ∙ u.starts.left;
      };
    }

pub tail_drop : (file : List ℕ) (p : ℕ) → p ≤ length file → Tail file (drop p file)
tail_drop file p h = record { at = p; starts = record { there = h; left = refl } }

-- ---- its place is the one that so many bytes are left behind
pub place_is : {file rest : List ℕ} {p : ℕ} → StartsAt file rest p → p ≡ behind file rest
place_is {file} {rest} {p} s = omega (arith, s.there, length-drop p file, ap length s.left)

pub starts_behind : {file rest : List ℕ} → Tail file rest → StartsAt file rest (behind file rest)
starts_behind {file} {rest} t = subst (StartsAt file rest) (place_is t.starts) t.starts

pub behind_drop : (file : List ℕ) (p : ℕ) → p ≤ length file → behind file (drop p file) ≡ p
behind_drop file p h = sym (place_is {file = file} (record { there = h; left = refl }))

-- ---- the byte at a place and those after it
pub next_byte : (file : List ℕ) (p : ℕ) → p < length file → drop p file ≡ get_or file p 0 ∷ drop (p + 1) file
next_byte file p h =
    drop-cons file p 0 h ∙ ap (λ (k : ℕ). get_or file p 0 ∷ drop k file) (next p)
  where
    next : (n : ℕ) → suc n ≡ n + 1
    next n = omega arith

pub no_byte : (file : List ℕ) (p : ℕ) → p ≤ length file → (p < length file → ⊥) → drop p file ≡ []
no_byte file p h n = ap (λ (k : ℕ). drop k file) (all p h n) ∙ drop-length file
  where
    all : (p : ℕ) → p ≤ length file → (p < length file → ⊥) → p ≡ length file
    all p h n = omega (arith, h, n)
