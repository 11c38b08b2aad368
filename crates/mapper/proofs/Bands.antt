-- Mapping a frame in bands, in any order of bands that cover it, is mapping it whole.
-- Assumes nothing.
use Rattle.std.specs.Prelude.{Some}
use mathlib.Core.Path.{◌≡◌, refl, sym, ap, ◌∙◌}
use mathlib.Core.Bool.{Bool, true, false, cond, not, ◌&&◌, ◌||◌}
use mathlib.Core.List.{List, [], ◌∷◌}
use Prim.Native.Nat.{ℕ, zero, suc, ◌+◌, ◌/◌, ◌%◌, ◌≤◌, ◌<◌}
use native.Mathlib.Omega.{arith}
use borrow.Author.Tests.{le-ltb, leb-true}
use lib.Dec.{eqb, leb}
use lib.ListN.{length, get_or}
use lib.Seq.{ext_get_or}
use Rattle.grid.specs.declared.place.Grid.{Grid}
use Rattle.basics.specs.Answer.{refuse}
use Rattle.grid.specs.Grid.{grid_of, number_on, bins_of}
use Rattle.basics.proofs.Range.{and_left, and_right}
use Rattle.band.specs.Band.{index_at, among, all_below, band_number}
use Rattle.band.proofs.Band.{band_at}
use Rattle.mapper.specs.Map.{map_number_on, map_number, map_later}
use Rattle.mapper.specs.Bands.{Band, map_bands, all_inside, covered}
use Rattle.mapper.proofs.Laws.{nothing_refuses, map_refused, map_says, map_done, map_length, index_is}

-- what two bands write, one after the other, at one place
both : (a b : Bool) (x y : ℕ) → cond b x (cond a x y) ≡ cond (a || b) x y
both true true x y = refl
both true false x y = refl
both false true x y = refl
both false false x y = refl

module _ (b1 b2 b3 : ℕ) (map : List ℕ) (palette_colours : ℕ) (frame : List ℕ) where
  abbrev number : List ℕ → ℕ → ℕ → ℕ
  number indices first pixels = map_number b1 b2 b3 map palette_colours frame indices first pixels

  abbrev on : Grid → List ℕ → ℕ → ℕ → ℕ
  on g indices first pixels = map_number_on g map palette_colours frame indices first pixels

  abbrev later : List ℕ → ℕ → ℕ → List ℕ
  later indices first pixels = map_later b1 b2 b3 map palette_colours frame indices first pixels

  abbrev later_all : List Band → List ℕ → List ℕ
  later_all bs indices = map_bands b1 b2 b3 map palette_colours frame bs indices

  abbrev size : ℕ
  size = length frame / 3

  -- every band inside the frame has the same answer, with any buffer of the same length
  pub number_on_same : (g : Grid) (old new : List ℕ) (first pixels first' pixels' : ℕ) → length old ≡ length new
      → first + pixels ≤ size → first' + pixels' ≤ size → on g old first pixels ≡ on g new first' pixels'
  unfolding map_number_on band_number
  number_on_same g old new first pixels first' pixels' long a b =
      λ t.
      refuse (not (eqb (length frame % 3) 0)) 3
      (refuse (not (eqb (length map) (bins_of g))) 5
      (refuse (not (leb 1 palette_colours && leb palette_colours 256)) 5
      (refuse (not (eqb (long t) (length frame / 3))) 5
      (refuse ((le-ltb size (first + pixels) a ∙ sym (le-ltb size (first' + pixels') b)) t) 5
      (refuse (not (all_below palette_colours map)) 9 0)))))

  pub number_same : (old new : List ℕ) (first pixels first' pixels' : ℕ) → length old ≡ length new
      → first + pixels ≤ size → first' + pixels' ≤ size → number old first pixels ≡ number new first' pixels'
  unfolding map_number
  number_same old new first pixels first' pixels' long a b =
      λ t. number_on (grid_of b1 b2 b3) (λ g. number_on_same g old new first pixels first' pixels' long a b t)

  whole : 0 + size ≤ size
  whole = omega arith

  -- of bands that lie in the frame, the first and the others
  here : (b : Band) (bs : List Band) → all_inside size (b ∷ bs) ≡ true → b.first + b.pixels ≤ size
  unfolding all_inside
  here b bs h = leb-true (b.first + b.pixels) size (and_left (leb (b.first + b.pixels) size) (all_inside size bs) h)

  rest : (b : Band) (bs : List Band) → all_inside size (b ∷ bs) ≡ true → all_inside size bs ≡ true
  unfolding all_inside
  rest b bs h = and_right (leb (b.first + b.pixels) size) (all_inside size bs) h

  -- so, where the whole frame is refused, every band is
  bands_refused : {n : ℕ} (bs : List Band) (indices : List ℕ) → all_inside size bs ≡ true
      → number indices 0 size ≡ suc n → later_all bs indices ≡ indices
  unfolding map_bands
  bands_refused [] indices h e = refl
  bands_refused (b ∷ bs) indices h e =
      let same = number_same indices indices b.first b.pixels 0 size refl (here b bs h) whole in
      ap (later_all bs)
      (map_refused b1 b2 b3 map palette_colours frame indices b.first b.pixels (same ∙ e))
      ∙ bands_refused bs indices (rest b bs h) e

  bands_length : (bs : List Band) (indices : List ℕ) → length (later_all bs indices) ≡ length indices
  unfolding map_bands
  bands_length [] indices = refl
  bands_length (b ∷ bs) indices =
      bands_length bs (later indices b.first b.pixels)
      ∙ map_length b1 b2 b3 map palette_colours frame indices b.first b.pixels

  -- and where it is done, each place that a band covers has its index
  module _ {g : Grid} (is : grid_of b1 b2 b3 ≡ Some g) where
    bands_at : (bs : List Band) (indices : List ℕ) → all_inside size bs ≡ true → on g indices 0 size ≡ 0
        → (i : ℕ) → i < length indices
        → get_or (later_all bs indices) i 0 ≡ cond (covered bs i) (index_at g map frame i) (get_or indices i 0)
    unfolding map_bands covered
    bands_at [] indices h e i l = refl
    bands_at (b ∷ bs) indices h e i l =
        let new = later indices b.first b.pixels in
        let same : length new ≡ length indices =
        map_length b1 b2 b3 map palette_colours frame indices b.first b.pixels in
        let one = number_on_same g indices indices b.first b.pixels 0 size refl (here b bs h) whole ∙ e in
        let done = map_done b1 b2 b3 map palette_colours frame indices b.first b.pixels is one in
        bands_at bs new (rest b bs h) (number_on_same g new indices 0 size 0 size same whole whole ∙ e) i (rw same l)
        ∙ ap (cond (covered bs i) (index_at g map frame i))
        (ap (λ (t : List ℕ). get_or t i 0) done.1
        ∙ band_at b.first b.pixels (index_at g map frame) indices i l)
        ∙ both (among b.first b.pixels i) (covered bs i) (index_at g map frame i) (get_or indices i 0)

  -- in any order of bands that cover it: the list is any list
  pub bands_whole : (bs : List Band) (indices : List ℕ) → all_inside size bs ≡ true
      → ((i : ℕ) → i < size → covered bs i ≡ true) → later_all bs indices ≡ later indices 0 size
  bands_whole bs indices h cover = go (number indices 0 size) refl
    where
      go : (n : ℕ) → number indices 0 size ≡ n → later_all bs indices ≡ later indices 0 size
      go zero e =
          let d = map_says b1 b2 b3 map palette_colours frame indices 0 size e in
          let same = bands_length bs indices in
          ext_get_or 0 (later_all bs indices) (later indices 0 size)
          (same ∙ sym (map_length b1 b2 b3 map palette_colours frame indices 0 size))
          (λ i l.
          let at : i < length indices = rw same at l in
          bands_at d.chosen bs indices h
          (nothing_refuses d.g map palette_colours frame indices 0 size d.can) i at
          ∙ ap (λ (t : Bool). cond t (index_at d.g map frame i) (get_or indices i 0))
          (cover i (omega (arith, d.can.one_each)))
          ∙ sym (index_is b1 b2 b3 map palette_colours frame indices 0 size e i (omega arith)
          (omega (arith, d.can.one_each))))
      go (suc n) e =
          bands_refused bs indices h e ∙ sym (map_refused b1 b2 b3 map palette_colours frame indices 0 size e)
