-- Mapping and painting after a cut: a pixel has index i exactly where box i holds its bin, neither call refuses the map
-- with 9 for the palette that came with it, and plans over the same colours give every pixel of every frame the same
-- index. And mapping in bands, and painting, which is looking up the palette at the mapped index.
-- Assumes nothing.
use Rattle.std.specs.Prelude.{Some}
use mathlib.Core.Path.{◌≡◌, refl, sym, ap, ◌∙◌}
use mathlib.Core.Bool.{true}
use mathlib.Core.List.{List}
use Prim.Native.Nat.{ℕ, ◌+◌, ◌*◌, ◌/◌, ◌≤◌, ◌<◌}
use native.Mathlib.Omega.{arith}
use lib.Dec.{eqb}
use lib.ListN.{length, get_or}
use Rattle.grid.specs.declared.place.Grid.{Grid}
use Rattle.grid.specs.Grid.{grid_of, on_grid, number_on, bins_of, colour_place}
use Rattle.pixels.specs.Colour.{colour_at}
use Rattle.grid.proofs.Places.{chose, colour_place_lt}
use Rattle.table.specs.Layouts.{Wide}
use Rattle.table.specs.Table.{view_of}
use Rattle.adder.proofs.Parts.{colour_bytes}
use Rattle.sums.specs.declared.source.Source.{Source}
use Rattle.cutter.specs.Palette.{its_colour, colours_of}
use Rattle.boxes.specs.Holds.{holds_at}
use Rattle.cutter.specs.Cut.{results_on, Buffers, cut_number, cut_record, box_list, later_on}
use Rattle.cutter.proofs.Fronts.{length_joined}
use Rattle.cutter.proofs.Colours.{three}
use Rattle.cutter.proofs.Maps.{map_length}
use Rattle.cutter.proofs.Laws.{cut_says}
use Rattle.band.specs.Band.{index_at, write_band, all_below}
use Rattle.band.proofs.Band.{band_within}
use Rattle.band.proofs.Below.{all_below_lem}
use Rattle.mapper.specs.Map.{map_number_on, map_number, map_later}
use Rattle.mapper.specs.Bands.{Band, map_bands, all_inside, covered}
use Rattle.mapper.proofs.Bands.{bands_whole}
use Rattle.mapper.proofs.Laws.{map_says, map_done, map_accepts, map_not_9}
use Rattle.painter.specs.Paint.{paint_number, paint_later}
use Rattle.painter.proofs.Laws.{paint_says, paint_is, paint_not_9}
use Rattle.promises.specs.Order.{SameCut}
use Rattle.promises.specs.Tiling.{boxes_in, box_in}
use Rattle.promises.specs.Mapping.{cut_boxes, cut_map, cut_front, SameIndices}
use Rattle.promises.proofs.Tiling.{tiling}

module _ (source : Source) (b1 b2 b3 k : ℕ) (t : List ℕ) (b : Buffers) {g : Grid}
    (e : grid_of b1 b2 b3 ≡ Some g) (n : cut_number source b1 b2 b3 k t b ≡ 0) where
  -- "every bin of it gets index i in the map" and "A pixel's index is the map's byte at its bin", over the call: a
  -- pixel of a mapped band has index i exactly where box i holds its bin
  pub pixel_index : (palette_colours : ℕ) (frame indices : List ℕ) (first pixels : ℕ) → ((j : ℕ) → get_or frame j 0 < 256)
      → map_number b1 b2 b3 (cut_map source b1 b2 b3 k t b) palette_colours frame indices first pixels ≡ 0
      → (i p : ℕ) → i < (cut_record source b1 b2 b3 k t b).boxes → first ≤ p → p < first + pixels
      → holds_at g (box_in (cut_record source b1 b2 b3 k t b) i) (colour_place g (colour_at frame p))
      ≡ eqb (get_or (map_later b1 b2 b3 (cut_map source b1 b2 b3 k t b) palette_colours frame indices first pixels) p 0) i
  unfolding map_number number_on on_grid index_at
  pixel_index palette_colours frame indices first pixels bytes done i p h from until =
      let map = cut_map source b1 b2 b3 k t b in
      let d = map_says b1 b2 b3 map palette_colours frame indices first pixels done in
      let on : map_number_on g (cut_map source b1 b2 b3 k t b) palette_colours frame indices first pixels ≡ 0 =
      sym (rw e refl) ∙ done in
      let there = colour_place_lt (chose b1 b2 b3 g e).accepted (colour_bytes frame bytes p) in
      (tiling source b1 b2 b3 k t b e n).index i (colour_place g (colour_at frame p)) h there
      ∙ ap (λ (x : ℕ). eqb x i)
      (sym
      (ap (λ (l : List ℕ). get_or l p 0) (map_done b1 b2 b3 map palette_colours frame indices first pixels e on).1
      ∙ band_within first pixels (index_at g map frame) indices p
      (omega (arith, d.can.one_each, d.can.inside)) from until))

  full_map : length (cut_map source b1 b2 b3 k t b) ≡ bins_of g
  unfolding later_on results_on
  full_map =
      ap (λ (l : Buffers). length l.results.map) (cut_says Wide source b1 b2 b3 k t b e n).leaves
      ∙ map_length g (box_list g (view_of t) k)

  all_entries_below : all_below (cut_boxes source b1 b2 b3 k t b) (cut_map source b1 b2 b3 k t b) ≡ true
  all_entries_below =
      all_below_lem (cut_boxes source b1 b2 b3 k t b) (cut_map source b1 b2 b3 k t b)
      (λ p h. (tiling source b1 b2 b3 k t b e n).below p (omega (arith, full_map)))

  -- the filled front has as many colours as there are boxes
  front_colours : length (cut_front source b1 b2 b3 k t b) / 3 ≡ cut_boxes source b1 b2 b3 k t b
  unfolding colours_of
  front_colours =
      let all = tiling source b1 b2 b3 k t b e n in
      thirds (ap length all.front
      ∙ length_joined 3 (its_colour g (view_of t)) (three g (view_of t)) (boxes_in (cut_record source b1 b2 b3 k t b))
      ∙ ap (λ (m : ℕ). 3 * m) all.listed)
    where
      thirds : {l m : ℕ} → l ≡ 3 * m → l / 3 ≡ m
      thirds q = omega arith

  -- after a cut the map is never refused with 9: not by map, told the number of boxes, nor by paint, lent the filled
  -- front
  pub map_never_9 : (frame indices : List ℕ) (first pixels : ℕ)
      → map_number b1 b2 b3 (cut_map source b1 b2 b3 k t b) (cut_boxes source b1 b2 b3 k t b) frame indices first pixels
      ≡ 9 → ⊥
  map_never_9 frame indices first pixels =
      map_not_9 b1 b2 b3 (cut_map source b1 b2 b3 k t b) (cut_boxes source b1 b2 b3 k t b) frame indices first pixels
      all_entries_below

  pub paint_never_9 : (frame : List ℕ) (first pixels : ℕ)
      → paint_number b1 b2 b3 (cut_map source b1 b2 b3 k t b) (cut_front source b1 b2 b3 k t b) frame first pixels ≡ 9 → ⊥
  paint_never_9 frame first pixels =
      paint_not_9 b1 b2 b3 (cut_map source b1 b2 b3 k t b) (cut_front source b1 b2 b3 k t b) frame first pixels
      (rw front_colours all_entries_below)

-- bands that cover a frame, in any order, map it whole
pub mapped_in_bands : (b1 b2 b3 : ℕ) (map : List ℕ) (palette_colours : ℕ) (frame : List ℕ) (bs : List Band)
    (indices : List ℕ) → all_inside (length frame / 3) bs ≡ true → ((i : ℕ) → i < length frame / 3 → covered bs i ≡ true)
    → map_bands b1 b2 b3 map palette_colours frame bs indices
    ≡ map_later b1 b2 b3 map palette_colours frame indices 0 (length frame / 3)
mapped_in_bands b1 b2 b3 map palette_colours frame bs indices inside all =
    bands_whole b1 b2 b3 map palette_colours frame bs indices inside all

-- the same index for every pixel in any order of loading, over the call itself
pub same_indices : {source : Source} {g : Grid} {b1 b2 b3 k : ℕ} {b : Buffers} {t s : List ℕ}
    → SameCut Wide source g b1 b2 b3 k b t s
    → SameIndices b1 b2 b3 (cut_map source b1 b2 b3 k t b) (cut_map source b1 b2 b3 k s b)
same_indices {b1 = b1} {b2} {b3} c =
    record {
      number = λ palette_colours frame indices first pixels i.
          map_number b1 b2 b3 (c.map i) palette_colours frame indices first pixels;
      later = λ palette_colours frame indices first pixels i.
          map_later b1 b2 b3 (c.map i) palette_colours frame indices first pixels;
    }

-- ---- painting is looking up the palette at the mapped index
module _ (b1 b2 b3 : ℕ) (map palette frame : List ℕ) (first pixels : ℕ)
    (e : paint_number b1 b2 b3 map palette frame first pixels ≡ 0)
    (indices : List ℕ) (one_each : length indices ≡ length frame / 3) where
  mapped : (map_number b1 b2 b3 map (length palette / 3) frame indices first pixels ≡ 0)
      × (map_later b1 b2 b3 map (length palette / 3) frame indices first pixels
      ≡ write_band first pixels (index_at (paint_says b1 b2 b3 map palette frame first pixels e).g map frame) indices)
  mapped =
      let d = paint_says b1 b2 b3 map palette frame first pixels e in
      let c = d.can in
      map_accepts b1 b2 b3 map (length palette / 3) frame indices first pixels d.chosen
      (record {
        threes = c.threes;
        lent = c.lent;
        some = omega (arith, c.some);
        few = omega (arith, c.few);
        one_each = one_each;
        inside = c.inside;
        below = c.below;
      })

  -- a frame that is painted can be mapped, with the palette's length in colours
  pub paint_maps : map_number b1 b2 b3 map (length palette / 3) frame indices first pixels ≡ 0
  paint_maps = mapped.0

  -- byte c of pixel i
  pub paint_looks_up : (i c : ℕ) → first ≤ i → i < first + pixels → c < 3
      → get_or (paint_later b1 b2 b3 map palette frame first pixels) (3 * i + c) 0
      ≡ get_or palette (3 * get_or (map_later b1 b2 b3 map (length palette / 3) frame indices first pixels) i 0 + c) 0
  paint_looks_up i c a b h =
      let d = paint_says b1 b2 b3 map palette frame first pixels e in
      paint_is b1 b2 b3 map palette frame first pixels e i c a b h
      ∙ ap (λ (x : ℕ). get_or palette (3 * x + c) 0)
      (sym (ap (λ (l : List ℕ). get_or l i 0) mapped.1
      ∙ band_within first pixels (index_at d.g map frame) indices i (omega (arith, one_each, d.can.inside)) a b))
