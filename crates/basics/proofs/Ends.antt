-- How a call ends: refused it leaves what was there, and its answer tells which tests it passed.
-- Assumes nothing.
use mathlib.Core.Path.{◌≡◌, refl, ap}
use mathlib.Core.Bool.{Bool, true, false}
use mathlib.Core.List.{List}
use Prim.Native.Nat.{ℕ, zero, suc}
use native.Mathlib.Omega.{arith}
use lib.ListN.{length}
use Rattle.basics.specs.Answer.{refuse, when_done}

-- a call that gives another answer than 0 leaves what was there
pub refused_keeps : {A : Type 0} (n : ℕ) → (n ≡ 0 → ⊥) → (kept done : A) → kept ≡ when_done n done kept
unfolding when_done
refused_keeps zero h kept done = absurd (h refl)
refused_keeps (suc n) h kept done = refl

-- a test that did not refuse
pub passed : (b : Bool) (n rest : ℕ) → refuse b (suc n) rest ≡ 0 → (b ≡ false) × (rest ≡ 0)
unfolding refuse
passed true n rest e = absurd (never e)
  where
    never : suc n ≡ 0 → ⊥
    never q = omega arith
passed false n rest e = (refl, e)

-- the length after a call that, where it is done, leaves as many elements as there were
pub same_length : (n : ℕ) (t e : List ℕ) → ((m : ℕ) → n ≡ suc m → e ≡ t) → (n ≡ 0 → length e ≡ length t)
    → length e ≡ length t
same_length zero t e r d = d refl
same_length (suc n) t e r d = ap length (r n refl)
