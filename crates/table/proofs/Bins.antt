-- Laws of the bounds of one bin, by its place.
-- Assumes nothing.
use Rattle.std.proofs.Common.{◌≡◌, ℕ, ◌<◌, true}
use Rattle.grid.specs.declared.place.Grid.{Grid}
use Rattle.grid.specs.Grid.{bins_of}
use Rattle.table.specs.Cell.{View}
use Rattle.table.specs.Sound.{span_at, bin_sound}
use Rattle.table.proofs.Soundness.{Keeps, keeps, kept, bounds_same, Sound, sound_keeps}

module _ (g : Grid) (v : View) (p : ℕ) where
  pub bin_keeps : bin_sound g v p ≡ true → Keeps (span_at g p) (v p)
  unfolding bin_sound
  bin_keeps e = keeps (span_at g p) (v p) e

  -- a bin of a sound table
  pub bin_sound_lem : {most : ℕ} → Sound most g v → p < bins_of g → bin_sound g v p ≡ true
  unfolding bin_sound
  bin_sound_lem s h = kept (sound_keeps s p h)

-- bins of the same numbers
pub bin_same : (g : Grid) (v u : View) (p : ℕ) → ((j : ℕ) → j < 5 → v p j ≡ u p j) → bin_sound g v p ≡ bin_sound g u p
unfolding bin_sound
bin_same g v u p e = bounds_same (span_at g p) (v p) (u p) e
