-- Laws of texts that a writer puts one behind the other.
-- Assumes nothing.
use mathlib.Core.Path.{◌≡◌, refl, subst, ◌∙◌}
use mathlib.Core.List.{List, [], ◌++◌}
use Prim.Native.Nat.{ℕ, ◌+◌, ◌≤◌}
use native.Mathlib.Omega.{arith}
use lib.ListN.{length}
use Rattle.lines.specs.declared.writer.Writer.{Writer}
use Rattle.lines.specs.Text.{with_text, Put}
use Rattle.lines.specs.Writing.{Writes}
use Rattle.lines.proofs.Putting.{put_none, put_more, put_whole}

pub writes_more : {a b c : Writer} {xs ys : List ℕ} {m n : ℕ} → Writes a xs m b → Writes b ys n c → Writes a (xs ++ ys) (m + n) c
writes_more p q =
    record {
      same = q.same ∙ p.same;
      put = put_more p.put q.put;
      long = q.long ∙ p.long;
      fits = omega (arith, p.fits, q.fits);
    }

pub writes_within : {a b : Writer} {xs : List ℕ} {m : ℕ} (n : ℕ) → m ≤ n → Writes a xs m b → Writes a xs n b
writes_within n h p = record { same = p.same; put = p.put; long = p.long; fits = omega (arith, p.fits, h) }

-- what is put behind a first text that is put at the start of a buffer
pub writes_whole : {a b : Writer} {xs : List ℕ} {m : ℕ} → a.at ≡ 0 → Writes a xs m b → m ≤ length a.out.now
    → (b.at ≡ length xs) × ((b.out.now ≡ with_text xs a.out.now) × (b.at ≤ length b.out.now))
writes_whole {a} {b} {xs} s p h = put_whole (subst (λ (i : ℕ). Put a.out.now i xs b.out.now b.at) s p.put) (omega (arith, s, p.fits))

pub writes_none : {a : Writer} → Writes a [] 0 a
writes_none = record { same = refl; put = put_none; long = refl; fits = omega arith }
