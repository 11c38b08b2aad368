-- A view with every number multiplied by a power of two, and a float so multiplied without rounding: by adding to its
-- exponent, which keeps every comparison. Definitions only.
use Rattle.std.specs.Prelude.{List, map, ℕ, zero, suc, ◌+◌, ◌*◌, ◌^◌, ℤ, pos, negsuc, Float, Option, None, Some}
use Rattle.std.specs.Float.{nan, inf, fin, binary64}
use Rattle.std.specs.Float.Ieee.{minus, mul}
use Rattle.table.specs.Cell.{View}
use Rattle.sums.specs.Box.{whole}
use Rattle.spread.specs.declared.position.Position.{Position}
use Rattle.heap.specs.Boxes.{BoxSpread}
use Rattle.rounds.specs.Loop.{Heap}

-- "multiplying its weights means multiplying all five numbers of every bin": by 2 ^ t
unfoldable pub doubled : ℕ → View → View
doubled t v p j = v p j * 2 ^ t

-- "Spreads are multiplied by it too": the product of f64 with 2 ^ t
unfoldable pub times_power : ℕ → Float → Float
times_power t x = mul binary64 (whole (2 ^ t)) x

-- t added to an exponent
unfoldable pub plus_exponent : ℕ → ℤ → ℤ
plus_exponent t (pos k) = pos (k + t)
plus_exponent t (negsuc k) = minus t (suc k)

-- and to that of a number with the digits m; zero is written with exponent 0, and stays so
unfoldable pub new_exponent : ℕ → ℕ → ℤ → ℤ
new_exponent t zero e = e
new_exponent t (suc m) e = plus_exponent t e

-- x times 2 ^ t, whatever the format would hold
unfoldable pub grow : ℕ → Float → Float
grow t nan = nan
grow t (inf s) = inf s
grow t (fin s m e) = fin s m (new_exponent t m e)

-- a position, a box, a room and a heap whose scores and spreads grow
unfoldable pub grow_position : ℕ → Option Position → Option Position
grow_position t (Some p) = Some (record { dimension = p.dimension; bin = p.bin; score = grow t p.score })
grow_position t None = None

unfoldable pub grow_box : ℕ → BoxSpread → BoxSpread
grow_box t x = record { bounds = x.bounds; spread = grow t x.spread }

unfoldable pub grow_room : ℕ → List BoxSpread → List BoxSpread
grow_room t h = map (grow_box t) h

unfoldable pub grow_heap : ℕ → Heap → Heap
grow_heap t h = record { room = grow_room t h.room; boxes = h.boxes; rounds = h.rounds }
