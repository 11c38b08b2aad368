-- The whole grid as a box.
-- Assumes nothing.
use Prim.Native.Nat.{ℕ, zero, suc, ◌≤◌, ◌<◌}
use native.Mathlib.Nat.{le_refl, lt_of_lt_of_le}
use lib.Dec.{lit<}
use Rattle.grid.specs.declared.place.Grid.{Grid}
use Rattle.basics.specs.Dimension.{choose}
use Rattle.grid.specs.Grid.{Accepted, size_at}
use Rattle.grid.proofs.Size.{size_low}
use Rattle.grid.proofs.Places.{one, two, three}
use Rattle.boxes.specs.Box.{min_at, max_at, whole_of, Within}

some : {g : Grid} → Accepted g → (d : ℕ) → min_at (whole_of g) d < max_at (whole_of g) d
unfolding min_at max_at choose whole_of
some a zero = lt_of_lt_of_le (lit< tt) (size_low (one a))
some a (suc zero) = lt_of_lt_of_le (lit< tt) (size_low (two a))
some a (suc (suc d)) = lt_of_lt_of_le (lit< tt) (size_low (three a))

fits : (g : Grid) (d : ℕ) → max_at (whole_of g) d ≤ size_at g d
unfolding max_at size_at whole_of
fits g d = le_refl _

pub whole_within : {g : Grid} → Accepted g → Within g (whole_of g)
whole_within {g} a = record { accepted = a; some = some a; fits = fits g }
