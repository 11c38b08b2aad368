-- How far a computed spread may lie from the exact one (Rules, Spread): "For every non-empty box of more than one bin,
-- the computed spread differs from the exact one by less than one half". Definitions only.
use Rattle.std.specs.Prelude.{◌≡◌, Bool, true, false, cond, List, [], ◌∷◌, ℕ, ◌*◌, ◌^◌, ◌≤◌, ◌<◌, eqb, get_or, ℤ, pos, neg_ℤ, nat_abs, ◌-ℤ◌, ◌*ℤ◌, Float}
use Rattle.std.proofs.Math.IntN.{sub_ℕ}
use Rattle.std.specs.Float.{nan, inf, fin}
use Rattle.std.specs.Float.Ieee.{up, down}
use Rattle.grid.specs.declared.place.Grid.{Grid}
use Rattle.table.specs.Cell.{View}
use Rattle.table.specs.Sound.{limit, sound}
use Rattle.boxes.specs.declared.sides.Bounds.{Bounds}
use Rattle.boxes.specs.Box.{Within, one_bin}
use Rattle.bins.specs.Sum.{box_sum}
use Rattle.sums.specs.Box.{stats_of}
use Rattle.spread.specs.Spread.{spread_of}

-- a box with a computed spread: not empty, of more than one bin, of a sound table. "The starting infinity is not such
-- a spread, nor is the 0.0 with which a box that can't be cut is put back": the loop sets these, and no `spread_of`
pub record HasSpread (g : Grid) (v : View) (x : Bounds) : Type 0 where
  pub is_sound : sound limit g v ≡ true
  pub within : Within g x
  pub more : one_bin x ≡ false
  pub some : 1 ≤ box_sum g v x 0

-- "squares − Q/n", by the definition that the contracts cite
abbrev pub computed_spread : Grid → View → Bounds → Float
computed_spread g v x = spread_of x (stats_of g v x)

-- a size with its sign
unfoldable pub signed : Bool → ℕ → ℤ
signed negative size = cond negative (neg_ℤ (pos size)) (pos size)

-- c times a number of f64 is the whole number K. A finite one is m·2^e with its sign, and 2^e is up e / down e
unfoldable pub Times : ℕ → Float → ℤ → Type 0
Times c (fin s m e) K = pos c *ℤ signed s (m * up e) ≡ K *ℤ pos (down e)
Times c (inf s) K = ⊥
Times c nan K = ⊥

-- |2·n·K − 2^85·(n·squares − S)|: the difference of K / 2^84 and "(n·squares − sum of squared sums)/n", multiplied by
-- 2n and by 2^84, in size
unfoldable pub apart : ℤ → ℕ → ℕ → ℕ → ℕ
apart K n squares S = nat_abs (pos (2 * n) *ℤ K -ℤ pos (2 ^ 85) *ℤ sub_ℕ (n * squares) S)

-- "2^84 times a computed spread is always a whole number", K; "multiplied by 2n, the difference is below n in size",
-- "with both sides multiplied by 2^84"
pub record WithinHalf (spread : Float) (n squares S : ℕ) : Type 0 where
  pub K : ℤ
  pub whole : Times (2 ^ 84) spread K
  pub near : apart K n squares S < n * 2 ^ 84

-- ---- two sound tables of grid 2,2,2, each with one occupied bin: one at which 2^83 would not do, and one at which an
-- eighth would not
abbrev pub grid2 : Grid
grid2 = record { shift1 = 7; shift2 = 7; shift3 = 7; size1 = 2; size2 = 2; size3 = 2 }

unfoldable pub lone_bin : ℕ → List ℕ → View
lone_bin place numbers p j = cond (eqb p place) (get_or numbers j 0) 0

-- the spread of its whole grid is an odd number of 2^-84
unfoldable pub fine_table : View
fine_table = lone_bin 0 (3221225472 ∷ 1 ∷ 0 ∷ 0 ∷ 0 ∷ [])

-- that of its whole grid is computed as -0.75, and the exact one is about -0.563
unfoldable pub far_table : View
far_table = lone_bin 7 (3635542860 ∷ 914244260038 ∷ 916551547097 ∷ 921095044807 ∷ 694346204755331 ∷ [])
