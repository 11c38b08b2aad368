-- What a cut leaves for mapping and painting, and two maps by which every frame is mapped alike. Definitions only.
use Rattle.std.specs.Prelude.{◌≡◌, List, ℕ}
use Rattle.sums.specs.declared.source.Source.{Source}
use Rattle.cutter.specs.Palette.{front_of}
use Rattle.cutter.specs.Cut.{Buffers, cut_record, cut_later}
use Rattle.mapper.specs.Map.{map_number, map_later}

module _ (source : Source) (b1 b2 b3 k : ℕ) (t : List ℕ) (b : Buffers) where
  -- the number of its boxes, its map, and the filled front of its palette
  abbrev pub cut_boxes : ℕ
  cut_boxes = (cut_record source b1 b2 b3 k t b).boxes

  abbrev pub cut_map : List ℕ
  cut_map = (cut_later source b1 b2 b3 k t b).results.map

  abbrev pub cut_front : List ℕ
  cut_front = front_of (cut_later source b1 b2 b3 k t b).results.palette cut_boxes

-- over the call itself: the same answer, and the same index for every pixel
pub record SameIndices (b1 b2 b3 : ℕ) (m o : List ℕ) : Type 0 where
  pub number : (palette_colours : ℕ) (frame indices : List ℕ) (first pixels : ℕ)
      → map_number b1 b2 b3 m palette_colours frame indices first pixels
      ≡ map_number b1 b2 b3 o palette_colours frame indices first pixels
  pub later : (palette_colours : ℕ) (frame indices : List ℕ) (first pixels : ℕ)
      → map_later b1 b2 b3 m palette_colours frame indices first pixels
      ≡ map_later b1 b2 b3 o palette_colours frame indices first pixels
