-- Which bins a box holds, and boxes that tile a grid. Definitions only.
use Rattle.std.specs.Prelude.{◌≡◌, Bool, ◌&&◌, cond, List, [], ◌∷◌, ℕ, ◌+◌, ◌<◌, leb, ltb}
use Rattle.grid.specs.declared.place.Grid.{Grid}
use Rattle.grid.specs.Grid.{bins_of, bin_at}
use Rattle.boxes.specs.declared.sides.Bounds.{Bounds}
use Rattle.boxes.specs.Box.{low_side, high_side}

-- "min inclusive, max exclusive"
unfoldable pub lies : ℕ → ℕ → ℕ → Bool
lies low end n = leb low n && ltb n end

-- whether a box holds bin (r, gr, b)
unfoldable pub holds : Bounds → ℕ → ℕ → ℕ → Bool
holds x r gr b = lies x.r0 x.r1 r && (lies x.g0 x.g1 gr && lies x.b0 x.b1 b)

-- whether it holds the bin at a place
unfoldable pub holds_at : Grid → Bounds → ℕ → Bool
holds_at g x p = holds x (bin_at g 0 p) (bin_at g 1 p) (bin_at g 2 p)

-- how many boxes hold the bin at a place
unfoldable pub holding : Grid → List Bounds → ℕ → ℕ
holding g [] p = 0
holding g (x ∷ xs) p = cond (holds_at g x p) 1 0 + holding g xs p

-- boxes that tile the grid: each bin lies in exactly one of them
pub record Tiles (g : Grid) (xs : List Bounds) : Type 0 where
  pub once : (p : ℕ) → p < bins_of g → holding g xs p ≡ 1

-- the bins of a box at one bin of a dimension
unfoldable pub slice : Bounds → ℕ → ℕ → Bounds
slice x d c = high_side (low_side x d (c + 1)) d c
