-- The listing for a terminal (Rules, Listing): a refusal alone, and swatches of the nearest colours.
-- Assumes nothing.
use Rattle.std.specs.Prelude.{Some}
use mathlib.Core.Path.{◌≡◌, refl, sym, ap, ◌∙◌}
use mathlib.Core.List.{List}
use Prim.Native.Nat.{ℕ, suc, ◌<◌}
use native.Mathlib.Omega.{arith}
use lib.Dec.{lit≤}
use lib.ListN.{length, get_or, replicate}
use Rattle.grid.specs.Size.{choices, shift_in, shift_of}
use Rattle.grid.specs.Grid.{grid_with, grid_of}
use Rattle.pixels.specs.Colour.{colour_at}
use Rattle.table.specs.Layouts.{Wide}
use Rattle.table.specs.Table.{view_of}
use Rattle.sums.specs.declared.source.Source.TheVariants.{Moments}
use Rattle.cutter.specs.Palette.{its_colour, palette_later}
use Rattle.cutter.specs.Cut.{cut_number, cut_record, done_record, box_list, results_on, later_on, Buffers}
use Rattle.cutter.proofs.Fronts.{length_filled}
use Rattle.cutter.proofs.Colours.{three}
use Rattle.cutter.proofs.Listed.{list_length}
use Rattle.cutter.proofs.RecordBoxes.{all_found}
use Rattle.cutter.proofs.RecordSize.{few}
use Rattle.cutter.proofs.Laws.{cut_says}
use Rattle.terminal.specs.Nearest.{nearest_number}
use Rattle.terminal.proofs.Calls.{number_accepted}
use Rattle.lines.specs.Text.{refused_of}
use Rattle.lines.specs.Listing.{lent_zeros}
use Rattle.swatches.specs.Swatches.{numbers_of, swatch_text}
use Rattle.swatches.proofs.Texts.{text_refused, text_cut, cut_refused}
use Rattle.promises.specs.Listing.{grid8}
use Rattle.promises.specs.Terminal.{IsNearest, listed_palette}
use Rattle.promises.proofs.Terminal.{each_nearest}

not_both : {a m : ℕ} → a ≡ 0 → a ≡ suc m → ⊥
not_both z y = omega arith

-- "a refusal is `refused N` alone": that of a load, and that of the cut
pub only_refusal : (t : List ℕ) (n : ℕ) → swatch_text (suc n) t ≡ refused_of (suc n)
only_refusal t n = text_refused (suc n) t (λ z. not_both z refl)

pub only_cut_refusal : (t : List ℕ) {n : ℕ} → (cut_record Moments 8 8 8 16 t lent_zeros).number ≡ suc n
    → swatch_text 0 t ≡ refused_of (suc n)
only_cut_refusal t e =
    text_cut 0 t refl ∙ cut_refused t refl (λ z. not_both z e) ∙ ap refused_of e

-- ---- a cut that is done
is_grid8 : grid_of 8 8 8 ≡ Some grid8
unfolding choices shift_in shift_of grid_with grid_of
is_grid8 = refl

module _ (t : List ℕ) (done : cut_number Moments 8 8 8 16 t lent_zeros ≡ 0) where
  long : length (listed_palette t) ≡ 48
  unfolding later_on results_on box_list lent_zeros palette_later done_record
  long =
      let d = cut_says Wide Moments 8 8 8 16 t lent_zeros is_grid8 done in
      let most = few Wide Moments 16 t 8 8 8 lent_zeros (sym d.hands) in
      let size = list_length (all_found grid8 (view_of t) 16 d.can.most d.accepted d.can.some).placed in
      ap (λ (b : Buffers). length b.results.palette) d.leaves
      ∙ length_filled 3 (its_colour grid8 (view_of t)) (three grid8 (view_of t)) (box_list grid8 (view_of t) 16)
      (replicate 48 0) (omega (arith, size, most))

  accepted : nearest_number (listed_palette t) (replicate 16 0) ≡ 0
  accepted =
      number_accepted (listed_palette t) (replicate 16 0)
      (record {
        some = omega (arith, long);
        few = omega (arith, long);
        threes = rw long refl;
        room = rw long (lit≤ tt);
      })

  -- "N the number that nearest gives the colour": each box's swatch is of the nearest colour
  pub swatch_nearest : (i : ℕ) → i < (cut_record Moments 8 8 8 16 t lent_zeros).boxes
      → IsNearest (colour_at (listed_palette t) i) (get_or (numbers_of (listed_palette t)) i 0)
  unfolding numbers_of
  swatch_nearest i h =
      let most = few Wide Moments 16 t 8 8 8 lent_zeros refl in
      each_nearest (listed_palette t) (replicate 16 0) accepted i (rw long (omega (arith, h, most)))
