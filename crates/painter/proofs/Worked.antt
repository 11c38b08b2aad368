-- Worked examples of paint, computed on the definitions.
-- Assumes nothing.
use mathlib.Core.Path.{◌≡◌, refl}
use mathlib.Core.List.{List, [], ◌∷◌, map}
use Prim.Native.Nat.{ℕ}
use lib.ListN.{replicate}
use Rattle.basics.specs.Answer.{refuse, when_done}
use Rattle.basics.specs.Range.{list_from, all_from}
use Rattle.grid.specs.Size.{choices, shift_in, shift_of, bin_of}
use Rattle.grid.specs.Grid.{grid_with, grid_of, grid_answer, on_grid, number_on, bins_of, place_of, colour_place}
use Rattle.pixels.specs.Colour.{colour_at}
use Rattle.band.specs.Band.{index_at, among, write_band, all_below, band_number}
use Rattle.painter.specs.Paint.{paint_at, paint_number_on, paint_number, paint_later}

-- an answer, and the lent buffer then
record Outcome : Type 0 where
  number : ℕ
  later : List ℕ

-- a call on a grid of size, 2, 2 that is lent the map `halves`, and what is to come of it
record Painting : Type 0 where
  size : ℕ
  palette : List ℕ
  frame : List ℕ
  first : ℕ
  pixels : ℕ
  expected : Outcome

-- the map of P1 (Rules, Cases)
halves : List ℕ
halves = 0 ∷ 0 ∷ 0 ∷ 0 ∷ 1 ∷ 1 ∷ 1 ∷ 1 ∷ []

paints : Painting → Outcome
paints c =
    record {
      number = paint_number c.size 2 2 halves c.palette c.frame c.first c.pixels;
      later = paint_later c.size 2 2 halves c.palette c.frame c.first c.pixels;
    }

-- black, white and (200, 9, 100), whose bins stand at 0, 7 and 4
pixels3 : List ℕ
pixels3 = 0 ∷ 0 ∷ 0 ∷ 255 ∷ 255 ∷ 255 ∷ 200 ∷ 9 ∷ 100 ∷ []

-- a band of these three pixels that is painted
done : List ℕ → ℕ → ℕ → List ℕ → Painting
done palette first pixels later =
    record {
      size = 2;
      palette = palette;
      frame = pixels3;
      first = first;
      pixels = pixels;
      expected = record { number = 0; later = later };
    }

-- a call that is refused with an answer
refused : ℕ → List ℕ → List ℕ → ℕ → ℕ → ℕ → Painting
refused size palette frame first pixels number =
    record {
      size = size;
      palette = palette;
      frame = frame;
      first = first;
      pixels = pixels;
      expected = record { number = number; later = frame };
    }

two : List ℕ
two = 10 ∷ 20 ∷ 30 ∷ 40 ∷ 50 ∷ 60 ∷ []

paintings : List Painting
paintings =
    done two 0 3 (10 ∷ 20 ∷ 30 ∷ 40 ∷ 50 ∷ 60 ∷ 40 ∷ 50 ∷ 60 ∷ [])
    ∷ done two 1 1 (0 ∷ 0 ∷ 0 ∷ 40 ∷ 50 ∷ 60 ∷ 200 ∷ 9 ∷ 100 ∷ [])
    ∷ done two 3 0 pixels3
    ∷ refused 2 two pixels3 3 1 5
    -- a palette of one colour has none for the upper half; of no colour; of 768 bytes, and of 771; not in threes
    ∷ refused 2 (1 ∷ 2 ∷ 3 ∷ []) pixels3 0 1 9
    ∷ refused 2 [] pixels3 0 1 5
    ∷ done (replicate 768 8) 0 1 (8 ∷ 8 ∷ 8 ∷ 255 ∷ 255 ∷ 255 ∷ 200 ∷ 9 ∷ 100 ∷ [])
    ∷ refused 2 (replicate 771 8) pixels3 0 1 5
    ∷ refused 2 (replicate 7 8) pixels3 0 1 5
    -- the lowest answer that applies: bytes not in threes, then a size
    ∷ refused 2 [] (1 ∷ 2 ∷ []) 9 9 3
    ∷ refused 1 [] (1 ∷ 2 ∷ []) 9 9 1
    ∷ []

worked_paint : map paints paintings ≡ map (λ c. c.expected) paintings
unfolding halves paints pixels3 done refused two paintings refuse when_done list_from all_from choices shift_in shift_of
    bin_of grid_with grid_of grid_answer on_grid number_on bins_of place_of colour_place colour_at index_at among write_band
    all_below band_number paint_at paint_number_on paint_number paint_later
worked_paint = refl
