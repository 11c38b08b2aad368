-- Worked examples of map, computed on the definitions.
-- Assumes nothing.
use mathlib.Core.Path.{◌≡◌, refl}
use mathlib.Core.List.{List, [], ◌∷◌, map}
use Prim.Native.Nat.{ℕ}
use lib.ListN.{replicate}
use Rattle.basics.specs.Answer.{refuse, when_done}
use Rattle.basics.specs.Range.{list_from, all_from}
use Rattle.grid.specs.Size.{choices, shift_in, shift_of, bin_of}
use Rattle.grid.specs.Grid.{grid_with, grid_of, grid_answer, on_grid, number_on, bins_of, place_of, colour_place}
use Rattle.pixels.specs.Colour.{colour_at}
use Rattle.band.specs.Band.{index_at, among, write_band, all_below, band_number}
use Rattle.mapper.specs.Map.{map_number_on, map_number, map_later}

-- an answer, and the lent buffer then
record Outcome : Type 0 where
  number : ℕ
  later : List ℕ

-- a call on a grid of size, 2, 2 that is lent the index buffer `nines`, and what is to come of it
record Mapping : Type 0 where
  size : ℕ
  lent : List ℕ
  palette_colours : ℕ
  frame : List ℕ
  first : ℕ
  pixels : ℕ
  expected : Outcome

nines : List ℕ
nines = replicate 3 9

maps : Mapping → Outcome
maps c =
    record {
      number = map_number c.size 2 2 c.lent c.palette_colours c.frame nines c.first c.pixels;
      later = map_later c.size 2 2 c.lent c.palette_colours c.frame nines c.first c.pixels;
    }

-- each bin its own place
places : List ℕ
places = 0 ∷ 1 ∷ 2 ∷ 3 ∷ 4 ∷ 5 ∷ 6 ∷ 7 ∷ []

-- black, white and (200, 9, 100), whose bins stand at 0, 7 and 4
pixels3 : List ℕ
pixels3 = 0 ∷ 0 ∷ 0 ∷ 255 ∷ 255 ∷ 255 ∷ 200 ∷ 9 ∷ 100 ∷ []

-- a band of these three pixels that is mapped, with a palette of some colours
done : ℕ → ℕ → ℕ → List ℕ → Mapping
done palette_colours first pixels later =
    record {
      size = 2;
      lent = places;
      palette_colours = palette_colours;
      frame = pixels3;
      first = first;
      pixels = pixels;
      expected = record { number = 0; later = later };
    }

-- a call that is refused with an answer
refused : ℕ → List ℕ → ℕ → List ℕ → ℕ → ℕ → ℕ → Mapping
refused size lent palette_colours frame first pixels number =
    record {
      size = size;
      lent = lent;
      palette_colours = palette_colours;
      frame = frame;
      first = first;
      pixels = pixels;
      expected = record { number = number; later = nines };
    }

mappings : List Mapping
mappings =
    -- the whole frame, and the pixel in its middle
    done 8 0 3 (0 ∷ 7 ∷ 4 ∷ [])
    ∷ done 8 1 1 (9 ∷ 7 ∷ 9 ∷ [])
    -- "A band of no pixels is accepted where it starts inside the frame or at its end"
    ∷ done 8 1 0 nines
    ∷ done 8 3 0 nines
    ∷ refused 2 places 8 pixels3 4 0 5
    -- past the frame, and past the largest number
    ∷ refused 2 places 8 pixels3 2 2 5
    ∷ refused 2 places 8 pixels3 1 18446744073709551615 5
    -- the last entry is not below 7, and the band of the black pixel has no use for it
    ∷ refused 2 places 7 pixels3 0 1 9
    -- palette lengths outside 1..256; a map, and an index buffer, of the wrong length
    ∷ refused 2 places 0 pixels3 0 3 5
    ∷ done 256 2 1 (9 ∷ 9 ∷ 4 ∷ [])
    ∷ refused 2 places 257 pixels3 0 3 5
    ∷ refused 4 places 8 pixels3 0 3 5
    ∷ refused 2 places 8 [] 0 0 5
    -- the lowest answer that applies: bytes not in threes, then a size
    ∷ refused 2 [] 0 (1 ∷ []) 9 9 3
    ∷ refused 1 [] 0 (1 ∷ []) 9 9 1
    ∷ []

worked_map : map maps mappings ≡ map (λ c. c.expected) mappings
unfolding nines maps places pixels3 done refused mappings refuse when_done list_from all_from choices shift_in shift_of
    bin_of grid_with grid_of grid_answer on_grid number_on bins_of place_of colour_place colour_at index_at among write_band
    all_below band_number map_number_on map_number map_later
worked_map = refl
