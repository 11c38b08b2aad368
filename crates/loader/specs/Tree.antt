-- Tables merged in any tree, and how a tree ends by the definitions that the contracts cite (Rules, Merge). Definitions
-- only.
use Rattle.std.specs.Prelude.{◌≡◌, true, cond, List, [], ◌∷◌, ◌++◌, ℕ, leb}
use Rattle.grid.specs.declared.place.Grid.{Grid}
use Rattle.grid.specs.Grid.{bins_of}
use Rattle.table.specs.Layouts.{Layout}
use Rattle.table.specs.Cell.{View}
use Rattle.table.specs.Layout.{TableIn, SizedIn, view_in, written_in}
use Rattle.table.specs.Sound.{limit_of, total, sound}
use Rattle.adder.specs.Batch.{sum_over}
use Rattle.table.specs.Sound.{passed_number}
use Rattle.loader.specs.Plan.{EndedIn, Filled, Stopped, then_merge_in}

-- a table that no merge refuses for itself: of the grid's lengths, and sound
pub record SoundTable (l : Layout) (g : Grid) (t : TableIn l) : Type 0 where
  pub lent : SizedIn l t (bins_of g)
  pub is_sound : sound (limit_of l) g (view_in l t) ≡ true

-- a tree of merges: a table by itself, or what a second tree gives merged into what a first gives
pub data Tree (l : Layout) : Type 0 where
  one : TableIn l → Tree l
  both : Tree l → Tree l → Tree l

-- how it ends, merge by merge
unfoldable pub tree_ends : (l : Layout) → ℕ → ℕ → ℕ → Tree l → EndedIn l
tree_ends l b1 b2 b3 (one t) = Filled t
tree_ends l b1 b2 b3 (both p q) = then_merge_in l b1 b2 b3 (tree_ends l b1 b2 b3 p) (tree_ends l b1 b2 b3 q)

-- its tables, from left to right, and that each is sound
unfoldable pub tables_in : (l : Layout) → Tree l → List (TableIn l)
tables_in l (one t) = t ∷ []
tables_in l (both p q) = tables_in l p ++ tables_in l q

abbrev pub AllSound : (l : Layout) → Grid → Tree l → Type 0
AllSound l g (one t) = SoundTable l g t
AllSound l g (both p q) = AllSound l g p × AllSound l g q

-- what tables weigh together, and hold together: "A merge adds a second table into a first, number by number."
unfoldable pub totals_of : (l : Layout) → Grid → List (TableIn l) → ℕ
totals_of l g ts = sum_over ts (λ t. total g (view_in l t))

unfoldable pub sum_of : (l : Layout) → List (TableIn l) → View
sum_of l ts p j = sum_over ts (λ t. view_in l t p j)

-- how they end, merged: one table that holds their sum where the total fits, else the answer for a total past the
-- layout's limit
unfoldable pub all_merged : (l : Layout) → Grid → List (TableIn l) → EndedIn l
all_merged l g ts =
    cond (leb (totals_of l g ts) (limit_of l)) (Filled (written_in l (bins_of g) (sum_of l ts))) (Stopped (passed_number l))
