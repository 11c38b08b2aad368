-- The total of a sound table, or that it is not sound: the two cases.
-- Assumes nothing.
use Rattle.std.specs.Prelude.{None, Some}
use Rattle.std.proofs.Common.{◌≡◌, ℕ, Bool, true, false, cond, refl, arith}
use Rattle.grid.specs.declared.place.Grid.{Grid}
use Rattle.table.specs.Cell.{View}
use Rattle.table.specs.Sound.{total, sound, sound_total}

pub cond_total : (b : Bool) (x y : ℕ) → cond b (Some x) None ≡ Some y → (b ≡ true) × (y ≡ x)
cond_total true x y e = (refl, (cc))
cond_total false x y e = absurd (never e)
  where
    never : None ≡ Some y → ⊥
    never q = let z : ◌≡◌ {A = ℕ} 0 1 = cc in omega arith

pub cond_unsound : (b : Bool) (x : ℕ) → cond b (Some x) None ≡ None → b ≡ false
cond_unsound true x e = absurd (never e)
  where
    never : Some x ≡ None → ⊥
    never q = let z : ◌≡◌ {A = ℕ} 0 1 = cc in omega arith
cond_unsound false x e = refl

-- ---- what the answer says
pub unsound_says : (most : ℕ) (g : Grid) (v : View) → sound_total most g v ≡ None → sound most g v ≡ false
unfolding sound_total
unsound_says most g v e = cond_unsound (sound most g v) (total g v) e

pub total_says : (most : ℕ) (g : Grid) (v : View) (x : ℕ) → sound_total most g v ≡ Some x
    → (sound most g v ≡ true) × (x ≡ total g v)
unfolding sound_total
total_says most g v x e = cond_total (sound most g v) (total g v) x e

-- ---- the answer, case by case
module _ (most : ℕ) (g : Grid) (v : View) where
  pub total_told : sound most g v ≡ true → sound_total most g v ≡ Some (total g v)
  unfolding sound_total
  total_told e = rw e refl

  pub unsound_told : sound most g v ≡ false → sound_total most g v ≡ None
  unfolding sound_total
  unsound_told e = rw e refl
