-- What the crate's own functions are told of a walk. Definitions only.
use Rattle.std.specs.Prelude.{Option, Some, None}
use Rattle.rescue.specs.declared.bins.Reason.{Reason}
use Rattle.rescue.specs.declared.bins.Reason.TheVariants as reason
use Rattle.std.specs.Prelude.{◌≡◌, cond, List, ℕ, ◌+◌, ◌≤◌, ◌<◌, eqb, ltb, length, get_or}
use Rattle.grid.specs.declared.place.Grid.{Grid}
use Rattle.grid.specs.Grid.{bins_of}
use Rattle.table.specs.Cell.{View, cell_of}
use Rattle.table.specs.Table.{Table, Sized, view_of, put_at}
use Rattle.rescue.specs.Rescue.{kept_before, reason_at, rescued}

-- the byte for a reason: "0 kept, 1 cleared for its bounds, 2 cleared for the total"
abbrev pub told : Option Reason → ℕ
told None = 0
told (Some reason.Bounds) = 1
told (Some reason.Total) = 2

-- a table with the bin at a place cleared where there is a reason
unfoldable pub cleared : Table → ℕ → ℕ → Table
cleared t p reason = cond (eqb reason 0) t (put_at t p (cell_of (λ j. 0)))

-- the total with a bin that counts where there is no reason
unfoldable pub with_weight : ℕ → ℕ → ℕ → ℕ
with_weight had weight reason = cond (eqb reason 0) (had + weight) had

-- a walk at place p, in a table that held v: the bins before p are rescued and their reasons written, the others are
-- as they were, and the total is that of the bins kept so far
pub record Walked (most : ℕ) (g : Grid) (v : View) (p : ℕ) (t : Table) (l : List ℕ) (had : ℕ) : Type 0 where
  pub table : (q j : ℕ) → q < bins_of g → j < 5 → view_of t q j ≡ cond (ltb q p) (rescued most g v q j) (v q j)
  pub reasons : (q : ℕ) → q < p → get_or l q 0 ≡ reason_at most g v q
  pub total : had ≡ kept_before most g v p

-- from place p a walk goes on to place q, whatever the table held; it leaves a table and a list of the grid's size, and
-- its total is not past the limit
pub record Onward (most : ℕ) (g : Grid) (p q : ℕ) (t : Table) (l : List ℕ) (had : ℕ) (u : Table) (m : List ℕ)
    (total : ℕ) : Type 0 where
  pub lent : Sized u (bins_of g)
  pub list : length m ≡ bins_of g
  pub under : total ≤ most
  pub goes : (v : View) → Walked most g v p t l had → Walked most g v q u m total
