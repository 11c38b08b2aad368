-- Fronts, computed on the definition.
-- Assumes nothing.
use mathlib.Core.Path.{◌≡◌, refl}
use mathlib.Core.List.{[], ◌∷◌, map}
use Rattle.cutter.specs.Palette.{front_of}

-- a palette of seven bytes has room for two boxes and not for three
fronts : map (front_of (1 ∷ 2 ∷ 3 ∷ 4 ∷ 5 ∷ 6 ∷ 7 ∷ [])) (0 ∷ 1 ∷ 2 ∷ 3 ∷ [])
    ≡ [] ∷ (1 ∷ 2 ∷ 3 ∷ []) ∷ (1 ∷ 2 ∷ 3 ∷ 4 ∷ 5 ∷ 6 ∷ []) ∷ [] ∷ []
unfolding front_of
fronts = refl
