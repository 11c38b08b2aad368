-- Widening (Rules, Layouts; Rules, Answers): the wide table of a narrow one. Definitions only.
use Rattle.std.specs.Prelude.{Bool, not, ◌&&◌, ℕ}
use Rattle.grid.specs.declared.place.Grid.{Grid}
use Rattle.basics.specs.Answer.{refuse, when_done}
use Rattle.grid.specs.Grid.{grid_of, on_grid, number_on, bins_of}
use Rattle.table.specs.Layouts.{Narrow}
use Rattle.table.specs.Cell.{View}
use Rattle.table.specs.Table.{Table, is_sized, written}
use Rattle.table.specs.Narrow.{NarrowTable, narrow_view}
use Rattle.table.specs.Layout.{is_sized_in}
use Rattle.table.specs.Sound.{limit_of, sound, unsound_number}

-- the wide table of a narrow one: what it holds, written out
unfoldable pub widened : ℕ → NarrowTable → Table
widened bins t = written bins (narrow_view t)

-- the answer to a widening on an accepted grid: whether all three lengths fit, and what the narrow table holds
unfoldable pub widen_number_on : Grid → Bool → View → ℕ
widen_number_on g sized v = refuse (not sized) 5 (refuse (not (sound (limit_of Narrow) g v)) unsound_number 0)

-- that of a narrow table and the list that the wide one is written to: "what the wide list held is not looked at"
unfoldable pub widen_on : NarrowTable → Table → Grid → ℕ
widen_on t old g = widen_number_on g (is_sized_in Narrow t (bins_of g) && is_sized old (bins_of g)) (narrow_view t)

unfoldable pub widen_number : ℕ → ℕ → ℕ → NarrowTable → Table → ℕ
widen_number b1 b2 b3 t old = number_on (grid_of b1 b2 b3) (widen_on t old)

-- the wide list afterwards: "A refusal writes nothing."
unfoldable pub widen_later : ℕ → ℕ → ℕ → NarrowTable → Table → Table
widen_later b1 b2 b3 t old =
    on_grid (grid_of b1 b2 b3) old (λ g. when_done (widen_on t old g) (widened (bins_of g) t) old)
