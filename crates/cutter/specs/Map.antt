-- The map of a list of boxes (Rules, Results). Definitions only.
use Rattle.std.specs.Prelude.{cond, List, [], ◌∷◌, ℕ, suc}
use Rattle.grid.specs.declared.place.Grid.{Grid}
use Rattle.basics.specs.Range.{list_from}
use Rattle.grid.specs.Grid.{bins_of}
use Rattle.boxes.specs.declared.sides.Bounds.{Bounds}
use Rattle.boxes.specs.Holds.{holds_at}

-- the index of the box that holds the bin at a place, where boxes are numbered from i on: of several the first, of
-- none 0
unfoldable pub index_from : Grid → ℕ → List Bounds → ℕ → ℕ
index_from g i [] p = 0
index_from g i (x ∷ xs) p = let later = index_from g (suc i) xs p in cond (holds_at g x p) i later

-- "every bin of it gets index i in the map"
unfoldable pub map_of : Grid → List Bounds → List ℕ
map_of g xs = list_from 0 (bins_of g) (index_from g 0 xs)
