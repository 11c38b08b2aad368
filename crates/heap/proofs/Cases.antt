-- Splitting by a test.
-- Assumes nothing.
use mathlib.Core.Path.{◌≡◌, refl}
use mathlib.Core.Bool.{Bool, true, false, cond}
use mathlib.Core.Logic.{◌≢◌}
use Prim.Native.Nat.{ℕ}
use borrow.Author.Tests.{eqb-true, eqb-false}
use lib.Dec.{eqb}

pub by_cond {ℓ κ} : {A : Type ℓ} (P : A → Type κ) (b : Bool) (x y : A) → P x → P y → P (cond b x y)
by_cond P true x y p q = p
by_cond P false x y p q = q

pub by_eq {ℓ} : {P : Type ℓ} (i j : ℕ) → (i ≡ j → P) → (i ≢ j → P) → P
by_eq {P = P} i j same other = go (eqb i j) refl
  where
    go : (b : Bool) → eqb i j ≡ b → P
    go true e = same (eqb-true i j e)
    go false e = other (eqb-false i j e)
