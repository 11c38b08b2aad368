-- Rescuing a damaged table (Rules, Rescue; Rules, Answers), over what it holds and for any limit of the total.
-- Definitions only.
use Rattle.std.specs.Prelude.{Bool, not, ◌&&◌, cond, List, ℕ, zero, suc, ◌+◌, eqb, leb, length}
use Rattle.grid.specs.declared.place.Grid.{Grid}
use Rattle.basics.specs.Answer.{refuse, when_done}
use Rattle.basics.specs.Range.{list_from}
use Rattle.grid.specs.Grid.{grid_of, on_grid, number_on, bins_of}
use Rattle.table.specs.Cell.{View}
use Rattle.table.specs.Table.{Table, is_sized, view_of, written}
use Rattle.table.specs.Sound.{limit, bin_sound}

-- ---- one bin
-- not "A bin that breaks its own bounds, or whose weight alone is above" the limit
unfoldable pub keeps_bounds : ℕ → Grid → View → ℕ → Bool
keeps_bounds most g v p = leb (v p 0) most && bin_sound g v p

-- "0 kept, 1 cleared for its bounds, 2 cleared for the total", by whether a bin keeps its bounds, the total of the bins
-- kept so far and the bin's weight
unfoldable pub reason_for : ℕ → Bool → ℕ → ℕ → ℕ
reason_for most keeps had weight = cond keeps (cond (leb (had + weight) most) 0 2) 1

-- ---- "in place order"
-- "the running total of the bins kept so far", those before place p
unfoldable pub kept_before : ℕ → Grid → View → ℕ → ℕ
kept_before most g v zero = 0
kept_before most g v (suc p) =
    let had = kept_before most g v p in
    cond (eqb (reason_for most (keeps_bounds most g v p) had (v p 0)) 0) (had + v p 0) had

-- the byte of the bin at a place
unfoldable pub reason_at : ℕ → Grid → View → ℕ → ℕ
reason_at most g v p = reason_for most (keeps_bounds most g v p) (kept_before most g v p) (v p 0)

-- "cleared to five zeros", or "Every other bin stays as it is"
unfoldable pub rescued : ℕ → Grid → View → View
rescued most g v p j = cond (eqb (reason_at most g v p) 0) (v p j) 0

-- "one byte per bin"
unfoldable pub reasons_of : ℕ → Grid → View → List ℕ
reasons_of most g v = list_from 0 (bins_of g) (reason_at most g v)

-- ---- the call
-- the answer on an accepted grid: "table and work table exactly 5·bins", and "the list of reasons exactly one byte per
-- bin"
unfoldable pub rescue_on : Table → List ℕ → Grid → ℕ
rescue_on t l g = refuse (not (is_sized t (bins_of g) && eqb (length l) (bins_of g))) 5 0

unfoldable pub rescue_number : ℕ → ℕ → ℕ → Table → List ℕ → ℕ
rescue_number b1 b2 b3 t l = number_on (grid_of b1 b2 b3) (rescue_on t l)

-- what is left of something lent: what the rescue makes of it where it is done, and itself where it is refused
unfoldable pub rescue_leaves : ℕ → ℕ → ℕ → Table → List ℕ → (ℕ → Grid → View → List ℕ) → List ℕ → List ℕ
rescue_leaves b1 b2 b3 t l done kept =
    on_grid (grid_of b1 b2 b3) kept (λ g. when_done (rescue_on t l g) (done limit g (view_of t)) kept)

-- the table afterwards
unfoldable pub rescue_table : ℕ → ℕ → ℕ → Table → List ℕ → Table
rescue_table b1 b2 b3 t l = rescue_leaves b1 b2 b3 t l (λ most g v. written (bins_of g) (rescued most g v)) t

-- the list afterwards
unfoldable pub rescue_reasons : ℕ → ℕ → ℕ → Table → List ℕ → List ℕ
rescue_reasons b1 b2 b3 t l = rescue_leaves b1 b2 b3 t l reasons_of l
