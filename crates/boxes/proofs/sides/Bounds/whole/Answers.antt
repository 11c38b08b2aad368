-- `boxes::sides::Bounds::whole` meets its contract: a size is a byte.
-- Assumes nothing.
use mathlib.Core.Path.{refl}
use Prim.Native.Nat.{ℕ, ◌≤◌, ◌<◌}
use native.Mathlib.Nat.{lt_of_le_of_lt}
use lib.Dec.{lit<}
use Rattle.grid.proofs.Size.{size_high}
use Rattle.grid.proofs.Places.{one, two, three}
use Rattle.boxes.specs.Box.{whole_of}
use Rattle.boxes.proofs.sides.Bounds.whole.Goals as goal

byte : {n : ℕ} → n ≤ 128 → n < 256
byte h = lt_of_le_of_lt h (lit< tt)

pub overflow_cast-result : goal.overflow_cast-result
overflow_cast-result c = record { fits = byte (size_high (one c.requires)) }

pub overflow_cast-result-2 : goal.overflow_cast-result-2
overflow_cast-result-2 c = record { fits = byte (size_high (two c.requires)) }

pub overflow_cast-result-3 : goal.overflow_cast-result-3
overflow_cast-result-3 c = record { fits = byte (size_high (three c.requires)) }

pub returns : goal.returns
unfolding whole_of
returns c = refl
