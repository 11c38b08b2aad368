-- Loading (Rules, Load; Rules, Answers). Definitions only.
use Rattle.std.specs.Prelude.{◌≡◌, Bool, not, ◌&&◌, ℕ, ◌+◌, ◌/◌, ◌%◌, ◌<◌, eqb, ltb, length}
use mathlib.Core.List.{List, Memᴰ}
use Rattle.grid.specs.declared.place.Grid.{Grid}
use Rattle.basics.specs.Answer.{refuse, when_done}
use Rattle.grid.specs.Grid.{grid_of, on_grid, number_on, bins_of, colour_place}
use Rattle.table.specs.Cell.{View, zeros}
use Rattle.table.specs.Layouts.{Layout}
use Rattle.table.specs.Layouts.{Wide}
use Rattle.table.specs.Table.{Table}
use Rattle.table.specs.Layout.{TableIn, is_sized_in, view_in, written_in}
use Rattle.table.specs.Sound.{limit_of, total, sound, unsound_number}
use Rattle.adder.specs.Batch.{Weighted, weight_of, loaded, batch_of}
use Rattle.table.specs.Sound.{passed_number}

-- the table of a list of colours in a layout: an empty one with them loaded
unfoldable pub table_in : (l : Layout) → Grid → List Weighted → TableIn l
table_in l g cs = written_in l (bins_of g) (loaded g cs zeros)

-- and in the wide one
abbrev pub table_of : Grid → List Weighted → Table
table_of g cs = table_in Wide g cs

-- a colour of weight above 0 among them, at a place
pub record ColourAt (g : Grid) (cs : List Weighted) (p : ℕ) : Type 0 where
  pub colour : Weighted
  pub among_them : Memᴰ colour cs
  pub weighs : 0 < colour.weight
  pub there : colour_place g colour.colour ≡ p

-- the answer to a load on an accepted grid: a limit and the answer given beyond it, whether the table's length fits,
-- and what it holds
unfoldable pub load_number_on : ℕ → ℕ → Grid → Bool → View → List ℕ → Bool → List ℕ → ℕ
load_number_on most beyond g sized v colours weighted weights =
    refuse (not (eqb (length colours % 3) 0)) 3
    (refuse (weighted && not (eqb (length weights) (length colours / 3))) 4
    (refuse (not sized) 5
    (refuse (not (sound most g v)) unsound_number
    (refuse (ltb most (total g v + weight_of (batch_of colours weighted weights))) beyond 0))))

-- the answer to a load of a table in a layout
unfoldable pub load_number_in : (l : Layout) → ℕ → ℕ → ℕ → TableIn l → List ℕ → Bool → List ℕ → ℕ
load_number_in l b1 b2 b3 t colours weighted weights =
    number_on (grid_of b1 b2 b3)
    (λ g. load_number_on (limit_of l) (passed_number l) g (is_sized_in l t (bins_of g)) (view_in l t) colours weighted weights)

-- the table after a load: "A refusal writes nothing."
unfoldable pub load_later_in : (l : Layout) → ℕ → ℕ → ℕ → TableIn l → List ℕ → Bool → List ℕ → TableIn l
load_later_in l b1 b2 b3 t colours weighted weights =
    on_grid (grid_of b1 b2 b3) t
    (λ g.
    when_done
    (load_number_on (limit_of l) (passed_number l) g (is_sized_in l t (bins_of g)) (view_in l t) colours weighted weights)
    (written_in l (bins_of g) (loaded g (batch_of colours weighted weights) (view_in l t)))
    t)

-- both in the wide layout
abbrev pub load_number : ℕ → ℕ → ℕ → Table → List ℕ → Bool → List ℕ → ℕ
load_number b1 b2 b3 t colours weighted weights = load_number_in Wide b1 b2 b3 t colours weighted weights

abbrev pub load_later : ℕ → ℕ → ℕ → Table → List ℕ → Bool → List ℕ → Table
load_later b1 b2 b3 t colours weighted weights = load_later_in Wide b1 b2 b3 t colours weighted weights
