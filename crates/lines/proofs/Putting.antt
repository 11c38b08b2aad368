-- Laws of texts that are put into a buffer: one behind the other, and what is then in the buffer.
-- Assumes nothing.
use mathlib.Core.Path.{◌≡◌, refl, ap, ◌∙◌}
use mathlib.Core.List.{List, [], ◌∷◌, ◌++◌}
use Prim.Native.Nat.{ℕ, suc, ◌+◌, ◌≤◌}
use native.Mathlib.Omega.{arith}
use lib.ListN.{length, drop, length-append}
use lib.Seq.{sets, sets-eq, length-sets}
use Rattle.lines.specs.Text.{with_text, Put}

sets_append : (a : List ℕ) (i : ℕ) (xs ys : List ℕ) → sets (sets a i xs) (i + length xs) ys ≡ sets a i (xs ++ ys)
sets_append a i [] ys = ap (λ (k : ℕ). sets a k ys) (omega arith)
sets_append a i (x ∷ xs) ys = ap (λ (k : ℕ). sets (sets a i (x ∷ xs)) k ys) (omega arith) ∙ sets_append _ (suc i) xs ys

pub put_none : {a : List ℕ} {i : ℕ} → Put a i [] a i
put_none = record { later = refl; ends = omega arith }

-- a text and another behind it are one text
pub put_more : {a : List ℕ} {i : ℕ} {xs b : List ℕ} {j : ℕ} {ys c : List ℕ} {k : ℕ}
    → Put a i xs b j → Put b j ys c k → Put a i (xs ++ ys) c k
put_more {a} {i} {xs} {b} {j} {ys} {c} {k} p q =
    record {
      later = q.later ∙ rw (p.later, p.ends) (sets_append a i xs ys);
      ends = q.ends ∙ rw (p.ends, length-append) (omega arith);
    }

pub put_length : {a : List ℕ} {i : ℕ} {xs b : List ℕ} {j : ℕ} → Put a i xs b j → length b ≡ length a
put_length {a} {i} {xs} p = ap length p.later ∙ length-sets a i xs

-- a text put at the start of a buffer that has room for it
pub put_whole : {a xs b : List ℕ} {j : ℕ} → Put a 0 xs b j → j ≤ length a
    → (j ≡ length xs) × ((b ≡ with_text xs a) × (j ≤ length b))
unfolding with_text
put_whole {a} {xs} {b} {j} p h =
    let e : 0 + length xs ≡ length xs = omega arith in
    let f = p.ends in (
      omega arith,
      (p.later ∙ sets-eq xs a 0 (omega arith) ∙ ap (λ (k : ℕ). xs ++ drop k a) e, omega (arith, put_length p)),
    )
