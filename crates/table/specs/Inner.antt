-- The steps of the sound total, as the crate's own functions are told. Definitions only.
use Rattle.std.specs.Prelude.{None, Option, Some}
use Rattle.std.specs.Prelude.{ℕ, ◌+◌, cond, ◌&&◌, nat_le}
use Rattle.grid.specs.declared.place.Grid.{Grid}
use Rattle.basics.specs.Range.{sum_from, all_from}
use Rattle.table.specs.Cell.{View}
use Rattle.table.specs.Sound.{bin_sound}

-- the total with the n bins from place p on, or that one of them breaks its bounds or the total passes the limit
unfoldable pub scanned : ℕ → Grid → View → ℕ → ℕ → ℕ → Option ℕ
scanned most g v p n had =
    cond (all_from p n (bin_sound g v) && nat_le (had + sum_from p n (λ q. v q 0)) most)
    (Some (had + sum_from p n (λ q. v q 0)))
    None
