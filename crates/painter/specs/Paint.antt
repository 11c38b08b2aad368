-- Painting a band (Rules, Paint; Rules, Answers). Definitions only.
use Rattle.std.specs.Prelude.{◌≡◌, true, List, ℕ, ◌+◌, ◌*◌, ◌/◌, ◌%◌, ◌≤◌, eqb, length, get_or}
use Rattle.grid.specs.declared.place.Grid.{Grid}
use Rattle.basics.specs.Answer.{when_done}
use Rattle.grid.specs.Grid.{grid_of, on_grid, number_on, bins_of}
use Rattle.band.specs.Band.{index_at, write_band, all_below, band_number}

-- byte j of a painted frame, which is byte j % 3 of pixel j / 3: that byte of the palette's colour at the pixel's index
unfoldable pub paint_at : Grid → List ℕ → List ℕ → List ℕ → ℕ → ℕ
paint_at g map palette frame j = get_or palette (3 * index_at g map frame (j / 3) + j % 3) 0

-- the answer to a painting on an accepted grid: "the palette for painting has 3..768 bytes, a multiple of three", which
-- is 1 to 256 colours and no byte over
unfoldable pub paint_number_on : Grid → List ℕ → List ℕ → List ℕ → ℕ → ℕ → ℕ
paint_number_on g map palette frame first pixels =
    band_number g map (length palette / 3) (eqb (length palette % 3) 0) (length frame) first pixels

unfoldable pub paint_number : ℕ → ℕ → ℕ → List ℕ → List ℕ → List ℕ → ℕ → ℕ → ℕ
paint_number b1 b2 b3 map palette frame first pixels =
    number_on (grid_of b1 b2 b3) (λ g. paint_number_on g map palette frame first pixels)

-- the frame after a painting: "Painting replaces colours in place for a band", three bytes a pixel
unfoldable pub paint_later : ℕ → ℕ → ℕ → List ℕ → List ℕ → List ℕ → ℕ → ℕ → List ℕ
paint_later b1 b2 b3 map palette frame first pixels =
    on_grid (grid_of b1 b2 b3) frame
    (λ g. when_done (paint_number_on g map palette frame first pixels)
    (write_band (3 * first) (3 * pixels) (paint_at g map palette frame) frame)
    frame)

-- what a painting on an accepted grid is given that nothing refuses, no 3, 5, 9: "the palette for painting has 3..768
-- bytes, a multiple of three"
pub record CanPaint (g : Grid) (map palette frame : List ℕ) (first pixels : ℕ) : Type 0 where
  pub threes : length frame % 3 ≡ 0
  pub lent : length map ≡ bins_of g
  pub some : 3 ≤ length palette
  pub few : length palette ≤ 768
  pub whole : length palette % 3 ≡ 0
  pub inside : first + pixels ≤ length frame / 3
  pub below : all_below (length palette / 3) map ≡ true
