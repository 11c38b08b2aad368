-- "Weight 0 adds nothing. An empty batch changes nothing; it is refused only as any other load is."
-- Assumes nothing.
use Rattle.std.specs.Prelude.{Some}
use mathlib.Core.Path.{◌≡◌, ◌∙◌}
use mathlib.Core.Bool.{Bool, true}
use mathlib.Core.List.{List, [], ◌∷◌, ◌++◌}
use Prim.Native.Nat.{ℕ, ◌*◌}
use native.Mathlib.Omega.{arith}
use lib.ListN.{length}
use Rattle.grid.specs.declared.place.Grid.{Grid}
use Rattle.grid.specs.Grid.{grid_of, bins_of}
use Rattle.table.specs.Table.{Sized, view_of}
use Rattle.table.specs.Sound.{limit, sound}
use Rattle.table.proofs.Soundness.{total_high}
use Rattle.loader.specs.Load.{load_number, load_later}
use Rattle.loader.proofs.Laws.{load_accepts}
use Rattle.loader.proofs.Weightless.{weightless, empty_weight, empty_kept}

module _ (b1 b2 b3 : ℕ) (t : List ℕ) where
  -- a batch that has a colour of weight 0 after the colours xs, of weights us, is loaded as the batch without it: the
  -- same answer, and the same table
  pub weight_0_adds_nothing : (xs ys us ws : List ℕ) (c1 c2 c3 : ℕ) → length xs ≡ 3 * length us
      → (load_number b1 b2 b3 t (xs ++ (c1 ∷ c2 ∷ c3 ∷ ys)) true (us ++ (0 ∷ ws))
      ≡ load_number b1 b2 b3 t (xs ++ ys) true (us ++ ws))
      × (load_later b1 b2 b3 t (xs ++ (c1 ∷ c2 ∷ c3 ∷ ys)) true (us ++ (0 ∷ ws))
      ≡ load_later b1 b2 b3 t (xs ++ ys) true (us ++ ws))
  weight_0_adds_nothing xs ys us ws c1 c2 c3 e = weightless xs ys us ws c1 c2 c3 e b1 b2 b3 t

  -- "An empty batch changes nothing": done or refused, the table is as it was
  pub empty_batch : (weighted : Bool) (weights : List ℕ) → load_later b1 b2 b3 t [] weighted weights ≡ t
  empty_batch weighted weights = empty_kept b1 b2 b3 t weighted weights

  -- and so does a colour of weight 0 alone
  pub weight_0_alone : (c1 c2 c3 : ℕ) → load_later b1 b2 b3 t (c1 ∷ c2 ∷ c3 ∷ []) true (0 ∷ []) ≡ t
  weight_0_alone c1 c2 c3 = (weight_0_adds_nothing [] [] [] [] c1 c2 c3 (omega arith)).1 ∙ empty_batch true []

  -- "it is refused only as any other load is": not for a table of the right length that is sound, however full
  pub empty_accepted : (weighted : Bool) (weights : List ℕ) {g : Grid} → grid_of b1 b2 b3 ≡ Some g
      → (weighted ≡ true → length weights ≡ 0) → Sized t (bins_of g) → sound limit g (view_of t) ≡ true
      → load_number b1 b2 b3 t [] weighted weights ≡ 0
  empty_accepted weighted weights {g} e none lent is_sound =
      load_accepts b1 b2 b3 t [] weighted weights e (omega arith) none lent is_sound
      (omega (
        arith,
        empty_weight weighted weights,
        total_high {most = limit} {g = g} {v = view_of t} (record { holds = is_sound }),
      ))
