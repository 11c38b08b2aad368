-- What mapping and painting a band have in common (Rules, Bands; Rules, Answers). Definitions only.
use Rattle.std.specs.Prelude.{Bool, not, ◌&&◌, cond, List, ℕ, ◌+◌, ◌/◌, ◌%◌, eqb, leb, ltb, length, get_or}
use Rattle.grid.specs.declared.place.Grid.{Grid}
use Rattle.basics.specs.Answer.{refuse}
use Rattle.basics.specs.Range.{list_from, all_from}
use Rattle.grid.specs.Grid.{bins_of, colour_place}
use Rattle.pixels.specs.Colour.{colour_at}

-- "A pixel's index is the map's byte at its bin."
unfoldable pub index_at : Grid → List ℕ → List ℕ → ℕ → ℕ
index_at g map frame i = get_or map (colour_place g (colour_at frame i)) 0

-- i is among the n from a first one onward
unfoldable pub among : ℕ → ℕ → ℕ → Bool
among first n i = leb first i && ltb i (first + n)

-- "writes only that band": f at each of the n places from a first one onward, and what was there at every other
unfoldable pub write_band : ℕ → ℕ → (ℕ → ℕ) → List ℕ → List ℕ
write_band first n f old = list_from 0 (length old) (λ i. cond (among first n i) (f i) (get_or old i 0))

-- every entry of the map is below the palette's length: "Answer 9 looks at every entry of the map, used by the band or
-- not"
unfoldable pub all_below : ℕ → List ℕ → Bool
all_below palette_colours map = all_from 0 (length map) (λ p. ltb (get_or map p 0) palette_colours)

-- the answer to a band on an accepted grid, with a palette of some colours: "map exactly bins", a palette's length "in
-- colours, and anything outside 1..256 gives 5", "a band reaches past the frame". `fits` is what only one of the calls
-- tests: the index buffer's length, or that no byte of the palette is left over
unfoldable pub band_number : Grid → List ℕ → ℕ → Bool → ℕ → ℕ → ℕ → ℕ
band_number g map palette_colours fits bytes first pixels =
    refuse (not (eqb (bytes % 3) 0)) 3
    (refuse (not (eqb (length map) (bins_of g))) 5
    (refuse (not (leb 1 palette_colours && leb palette_colours 256)) 5
    (refuse (not fits) 5
    (refuse (ltb (bytes / 3) (first + pixels)) 5
    (refuse (not (all_below palette_colours map)) 9 0)))))
