-- Mapping a band (Rules, Map; Rules, Answers). Definitions only.
use Rattle.std.specs.Prelude.{◌≡◌, true, List, ℕ, ◌+◌, ◌/◌, ◌%◌, ◌≤◌, eqb, length}
use Rattle.grid.specs.declared.place.Grid.{Grid}
use Rattle.basics.specs.Answer.{when_done}
use Rattle.grid.specs.Grid.{grid_of, on_grid, number_on, bins_of}
use Rattle.band.specs.Band.{index_at, write_band, all_below, band_number}

-- the answer to a mapping on an accepted grid: "index buffer exactly one byte per frame pixel"
unfoldable pub map_number_on : Grid → List ℕ → ℕ → List ℕ → List ℕ → ℕ → ℕ → ℕ
map_number_on g map palette_colours frame indices first pixels =
    band_number g map palette_colours (eqb (length indices) (length frame / 3)) (length frame) first pixels

unfoldable pub map_number : ℕ → ℕ → ℕ → List ℕ → ℕ → List ℕ → List ℕ → ℕ → ℕ → ℕ
map_number b1 b2 b3 map palette_colours frame indices first pixels =
    number_on (grid_of b1 b2 b3) (λ g. map_number_on g map palette_colours frame indices first pixels)

-- the index buffer after a mapping: "Mapping a band reads the pixels from a given first pixel onward and writes only
-- that band of the frame's index buffer", and "A refusal writes nothing."
unfoldable pub map_later : ℕ → ℕ → ℕ → List ℕ → ℕ → List ℕ → List ℕ → ℕ → ℕ → List ℕ
map_later b1 b2 b3 map palette_colours frame indices first pixels =
    on_grid (grid_of b1 b2 b3) indices
    (λ g. when_done (map_number_on g map palette_colours frame indices first pixels)
    (write_band first pixels (index_at g map frame) indices)
    indices)

-- what a mapping on an accepted grid is given that nothing refuses: no 3, 5, 9
pub record CanMap (g : Grid) (map : List ℕ) (palette_colours : ℕ) (frame indices : List ℕ)
    (first pixels : ℕ) : Type 0 where
  pub threes : length frame % 3 ≡ 0
  pub lent : length map ≡ bins_of g
  pub some : 1 ≤ palette_colours
  pub few : palette_colours ≤ 256
  pub one_each : length indices ≡ length frame / 3
  pub inside : first + pixels ≤ length frame / 3
  pub below : all_below palette_colours map ≡ true
