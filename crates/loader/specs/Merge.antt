-- Merging (Rules, Merge; Rules, Answers). Definitions only.
use Rattle.std.specs.Prelude.{Bool, not, ◌&&◌, ℕ, ◌+◌, ltb}
use Rattle.grid.specs.declared.place.Grid.{Grid}
use Rattle.basics.specs.Answer.{refuse, when_done}
use Rattle.grid.specs.Grid.{grid_of, on_grid, number_on, bins_of}
use Rattle.table.specs.Cell.{View}
use Rattle.table.specs.Layouts.{Layout}
use Rattle.table.specs.Layouts.{Wide}
use Rattle.table.specs.Table.{Table}
use Rattle.table.specs.Layout.{TableIn, is_sized_in, view_in, written_in}
use Rattle.table.specs.Sound.{limit_of, total, sound, unsound_number}
use Rattle.table.specs.Sound.{passed_number}

-- "A merge adds a second table into a first, number by number."
unfoldable pub merged : View → View → View
merged v u p j = v p j + u p j

-- the answer to a merge on an accepted grid: a limit and the answer given beyond it, whether both lengths fit, and what
-- the tables hold; "either table unsound is 6"
unfoldable pub merge_number_on : ℕ → ℕ → Grid → Bool → View → View → ℕ
merge_number_on most beyond g sized v u =
    refuse (not sized) 5
    (refuse (not (sound most g v && sound most g u)) unsound_number
    (refuse (ltb most (total g v + total g u)) beyond 0))

-- that of tables in a layout
unfoldable pub merge_number_in : (l : Layout) → ℕ → ℕ → ℕ → TableIn l → TableIn l → ℕ
merge_number_in l b1 b2 b3 t s =
    number_on (grid_of b1 b2 b3)
    (λ g.
    merge_number_on (limit_of l) (passed_number l) g (is_sized_in l t (bins_of g) && is_sized_in l s (bins_of g))
    (view_in l t) (view_in l s))

-- the first table after a merge
unfoldable pub merge_later_in : (l : Layout) → ℕ → ℕ → ℕ → TableIn l → TableIn l → TableIn l
merge_later_in l b1 b2 b3 t s =
    on_grid (grid_of b1 b2 b3) t
    (λ g.
    when_done
    (merge_number_on (limit_of l) (passed_number l) g (is_sized_in l t (bins_of g) && is_sized_in l s (bins_of g))
    (view_in l t) (view_in l s))
    (written_in l (bins_of g) (merged (view_in l t) (view_in l s)))
    t)

-- both in the wide layout
abbrev pub merge_number : ℕ → ℕ → ℕ → Table → Table → ℕ
merge_number b1 b2 b3 t s = merge_number_in Wide b1 b2 b3 t s

abbrev pub merge_later : ℕ → ℕ → ℕ → Table → Table → Table
merge_later b1 b2 b3 t s = merge_later_in Wide b1 b2 b3 t s
