-- What a rescue tells of the table that it was given and the one that it leaves (Rules, Rescue). Definitions only.
use Rattle.std.specs.Prelude.{◌≡◌, Bool, true, false, ◌&&◌, cond, ◌↔◌, List, ℕ, ◌+◌, ◌≤◌, ◌<◌, eqb, leb, length, get_or}
use Rattle.basics.specs.Range.{sum_from}
use Rattle.grid.specs.declared.place.Grid.{Grid}
use Rattle.grid.specs.Grid.{bins_of}
use Rattle.table.specs.Table.{Table, view_of}
use Rattle.table.specs.Sound.{limit, bin_sound, total, sound}

-- whether the bin at a place keeps its bounds, with a weight that is not above the limit alone
unfoldable pub may_stay : Grid → Table → ℕ → Bool
may_stay g t p = leb (view_of t p 0) limit && bin_sound g (view_of t) p

-- the total of a table's bins before a place
unfoldable pub total_before : Table → ℕ → ℕ
total_before t p = sum_from 0 p (λ q. view_of t q 0)

-- the weights of the bins whose byte is 0
unfoldable pub kept_total : Grid → Table → List ℕ → ℕ
kept_total g t reasons = sum_from 0 (bins_of g) (λ p. cond (eqb (get_or reasons p 0) 0) (view_of t p 0) 0)

-- of a table t of a grid, what a rescue leaves of it, and the list of reasons
pub record Rescued (g : Grid) (t later : Table) (reasons : List ℕ) : Type 0 where
  -- "The result is sound"
  pub is_sound : sound limit g (view_of later) ≡ true
  -- "one byte per bin"
  pub as_many : length reasons ≡ bins_of g
  pub no_other : (p : ℕ) → p < bins_of g → get_or reasons p 0 ≤ 2
  -- "kept bins are unchanged"
  pub kept : (p : ℕ) → p < bins_of g → get_or reasons p 0 ≡ 0 → (j : ℕ) → j < 5 → view_of later p j ≡ view_of t p j
  -- "is cleared to five zeros"
  pub cleared : (p : ℕ) → p < bins_of g → (get_or reasons p 0 ≡ 0 → ⊥) → (j : ℕ) → j < 5 → view_of later p j ≡ 0
  -- "A bin that breaks its own bounds, or whose weight alone is above 4,294,967,295"
  pub out_of_bounds : (p : ℕ) → p < bins_of g → (get_or reasons p 0 ≡ 1) ↔ (may_stay g t p ≡ false)
  -- "A bin that would carry the running total of the bins kept so far past 4,294,967,295"
  pub past_total : (p : ℕ) → p < bins_of g
      → (get_or reasons p 0 ≡ 2) ↔ ((may_stay g t p ≡ true) × (limit < total_before later p + view_of t p 0))
  -- "The total of the result is that of the kept bins."
  pub total_kept : total g (view_of later) ≡ kept_total g t reasons
