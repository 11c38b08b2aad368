-- A load of a table that is known to be sound is what adding its batch says: its answer, and the table then.
-- Assumes nothing.
use Rattle.std.specs.Prelude.{Option, Some}
use mathlib.Core.Path.{◌≡◌, refl, sym, ap, subst, ◌∙◌}
use mathlib.Core.Bool.{Bool, true, false, not, ◌&&◌}
use mathlib.Core.List.{List}
use Prim.Native.Nat.{ℕ, ◌+◌, ◌/◌, ◌≤◌, ◌<◌}
use native.Mathlib.Nat.{lt_of_not-le}
use native.Mathlib.Decide.{dec_le}
use lib.Dec.{eqb}
use lib.ListN.{length}
use Rattle.grid.specs.declared.place.Grid.{Grid}
use Rattle.grid.specs.Grid.{grid_of}
use Rattle.table.specs.Layouts.{Layout}
use Rattle.table.specs.Layout.{TableIn}
use Rattle.table.specs.Sound.{limit_of}
use Rattle.adder.specs.Batch.{Weighted, weight_of, scaled_weights}
use Rattle.adder.specs.Add.{KnownIn, Whole, scaled_batch, added_to, added_answer_in, added_later_in}
use Rattle.loader.specs.Load.{load_number_in, load_later_in}
use Rattle.adder.proofs.Scaled.{scaled_pairs}
use Rattle.adder.proofs.Adding.{added_fits, added_passes, later_fits, later_passes}
use Rattle.loader.proofs.Calls.{pairs, load_over, load_done_in}

module _ (b1 b2 b3 : ℕ) {g : Grid} (e : grid_of b1 b2 b3 ≡ Some g) {l : Layout} {t : TableIn l} {had : ℕ}
    (k : KnownIn l (limit_of l) g t had) {colours : List ℕ} {weighted : Bool} {weights : List ℕ}
    (w : Whole colours weighted weights) (scale : ℕ) where
  abbrev cs : List Weighted
  cs = scaled_batch scale colours weighted weights

  abbrev scaled : List ℕ
  scaled = scaled_weights scale (length colours / 3) weighted weights

  paired : (true && not (eqb (length scaled) (length colours / 3))) ≡ false
  paired =
      scaled_pairs scale colours weighted weights
      ∙ pairs weighted (length weights) (length colours / 3) w.paired

  abbrev Says : Type 0
  Says =
      (load_number_in l b1 b2 b3 t colours true scaled ≡ (added_answer_in l (added_to (limit_of l) had cs)).number)
      × (load_later_in l b1 b2 b3 t colours true scaled ≡ added_later_in l (limit_of l) g t had cs)

  says : Says
  says = go (dec_le (had + weight_of cs) (limit_of l))
    where
      go : Dec (had + weight_of cs ≤ limit_of l) → Says
      go (yes h) =
          let q = load_done_in l b1 b2 b3 t colours true scaled e w.threes paired k.table.lent k.is_sound
          (subst (λ (x : ℕ). x + weight_of cs ≤ limit_of l) k.total_is h) refl in (
            sym q.0 ∙ ap (λ (a : Option ℕ). (added_answer_in l a).number) (sym (added_fits (limit_of l) had cs h)),
            sym q.1 ∙ sym (later_fits (limit_of l) had cs l g t h),
          )
      go (no n) =
          let h = lt_of_not-le n in
          let q = load_over l b1 b2 b3 t colours true scaled e w.threes paired k.table.lent k.is_sound
          (subst (λ (x : ℕ). limit_of l < x + weight_of cs) k.total_is h) in (
            sym q.0 ∙ ap (λ (a : Option ℕ). (added_answer_in l a).number) (sym (added_passes (limit_of l) had cs h)),
            sym q.1 ∙ sym (later_passes (limit_of l) had cs l g t h),
          )

  pub number_says : load_number_in l b1 b2 b3 t colours true (scaled_weights scale (length colours / 3) weighted weights)
      ≡ (added_answer_in l (added_to (limit_of l) had (scaled_batch scale colours weighted weights))).number
  number_says = says.0

  pub later_says : load_later_in l b1 b2 b3 t colours true (scaled_weights scale (length colours / 3) weighted weights)
      ≡ added_later_in l (limit_of l) g t had (scaled_batch scale colours weighted weights)
  later_says = says.1
