-- `compare::bins::taken_from` meets its contract: both numbers and their difference fit an i64, so that the casts and
-- the subtraction lose nothing.
-- Assumes nothing.
-- the machine reads back what was cast
use mathlib.Core.Path.{◌≡◌, sym, subst, ◌∙◌}
use Prim.Native.Nat.{ℕ, ◌^◌, ◌<◌}
use native.Mathlib.Nat.{lt_trans}
use lib.Dec.{lit<}
use lib.IntN.{pos, ◌-ℤ◌}
use mir.Syntax.{w64}
use mir.Val.{SFits, to_z}
use mir.ValLaws.{to_z-of_z}
use Rattle.compare.proofs.Differences.{less_small, mag_small}
use Rattle.compare.proofs.bins.taken_from.Goals as goal

read_back : (n : ℕ) → n < 2 ^ 50 → to_z w64 n ≡ pos n
read_back n h = to_z-of_z w64 (pos n) (record { sfits = lt_trans h (lit< tt) })

module _ (x y : ℕ) (h : (x < 2 ^ 50) × (y < 2 ^ 50)) where
  is : to_z w64 y -ℤ to_z w64 x ≡ pos y -ℤ pos x
  is = λ i. read_back y h.1 i -ℤ read_back x h.0 i

  fits : SFits w64 (pos y -ℤ pos x)
  fits =
      record {
        sfits = lt_trans (mag_small (2 ^ 50) (pos y -ℤ pos x) (less_small (2 ^ 50) x y h.0 h.1)) (lit< tt);
      }

pub overflow_sub-result : goal.overflow_sub-result
overflow_sub-result c =
    let a = c.args in
    subst (SFits w64) (sym (is a.first a.second c.requires)) (fits a.first a.second c.requires)

pub returns : goal.returns
returns c = let a = c.args in to_z-of_z w64 _ (overflow_sub-result c) ∙ is a.first a.second c.requires
