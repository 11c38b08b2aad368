-- A load with every weight times 1 is the load.
-- Assumes nothing.
use mathlib.Core.Path.{◌≡◌, refl}
use mathlib.Core.Bool.{Bool, true, false, not}
use mathlib.Core.List.{List}
use Prim.Native.Nat.{ℕ, ◌+◌, ◌/◌, ◌%◌}
use lib.Dec.{eqb, ltb}
use lib.ListN.{length}
use Rattle.grid.specs.declared.place.Grid.{Grid}
use Rattle.basics.specs.Answer.{refuse, when_done}
use Rattle.grid.specs.Grid.{grid_of, on_grid, number_on, bins_of}
use Rattle.table.specs.Layouts.{Layout}
use Rattle.table.specs.Layout.{TableIn, is_sized_in, view_in, written_in}
use Rattle.table.specs.Sound.{limit_of, total, sound, unsound_number}
use Rattle.adder.specs.Batch.{weighted_at, weight_of, loaded, batch_of, scaled_weights}
use Rattle.adder.specs.Add.{scaled_batch}
use Rattle.table.specs.Sound.{passed_number}
use Rattle.loader.specs.Load.{load_number_on, load_number_in, load_later_in}
use Rattle.adder.proofs.Scaled.{scaled_pairs, once_batch}

module _ (colours : List ℕ) (weighted : Bool) (weights : List ℕ) (l : Layout) (b1 b2 b3 : ℕ) (t : TableIn l) where
  abbrev same : scaled_batch 1 colours weighted weights ≡ batch_of colours weighted weights
  same = once_batch colours weighted weights

  abbrev once : List ℕ
  once = scaled_weights 1 (length colours / 3) weighted weights

  once_on : (g : Grid) →
      load_number_on (limit_of l) (passed_number l) g (is_sized_in l t (bins_of g)) (view_in l t) colours true once
      ≡ load_number_on (limit_of l) (passed_number l) g (is_sized_in l t (bins_of g)) (view_in l t) colours weighted weights
  unfolding load_number_on
  once_on g i =
      refuse (not (eqb (length colours % 3) 0)) 3
      (refuse (scaled_pairs 1 colours weighted weights i) 4
      (refuse (not (is_sized_in l t (bins_of g))) 5
      (refuse (not (sound (limit_of l) g (view_in l t))) unsound_number
      (refuse (ltb (limit_of l) (total g (view_in l t) + weight_of (same i))) (passed_number l) 0))))

  pub once_number : load_number_in l b1 b2 b3 t colours true (scaled_weights 1 (length colours / 3) weighted weights)
      ≡ load_number_in l b1 b2 b3 t colours weighted weights
  unfolding load_number_in
  once_number i = number_on (grid_of b1 b2 b3) (λ g. once_on g i)

  pub once_later : load_later_in l b1 b2 b3 t colours true (scaled_weights 1 (length colours / 3) weighted weights)
      ≡ load_later_in l b1 b2 b3 t colours weighted weights
  unfolding load_later_in
  once_later i =
      on_grid (grid_of b1 b2 b3) t
      (λ g. when_done (once_on g i) (written_in l (bins_of g) (loaded g (same i) (view_in l t))) t)

-- without weights a load looks at no list
pub unlisted_number : (l : Layout) (b1 b2 b3 : ℕ) (t : TableIn l) (colours weights other : List ℕ)
    → load_number_in l b1 b2 b3 t colours false weights ≡ load_number_in l b1 b2 b3 t colours false other
unfolding load_number_in load_number_on batch_of weighted_at
unlisted_number l b1 b2 b3 t colours weights other = refl

pub unlisted_later : (l : Layout) (b1 b2 b3 : ℕ) (t : TableIn l) (colours weights other : List ℕ)
    → load_later_in l b1 b2 b3 t colours false weights ≡ load_later_in l b1 b2 b3 t colours false other
unfolding load_later_in load_number_on batch_of weighted_at
unlisted_later l b1 b2 b3 t colours weights other = refl

pub unlisted_scaled : (scale n : ℕ) (weights other : List ℕ)
    → scaled_weights scale n false weights ≡ scaled_weights scale n false other
unfolding scaled_weights
unlisted_scaled scale n weights other = refl
