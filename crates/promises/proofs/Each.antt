-- What holds of a whole list holds of each in it.
-- Assumes nothing.
use mathlib.Core.Path.{◌≡◌, sym, ap, ◌∙◌}
use mathlib.Core.Logic.{inl, inr}
use mathlib.Core.List.Memᴰ
use mathlib.Core.List.{List, [], ◌∷◌, map, Memᴰ}
use lib.ListN.{get_or, drop}

pub each : {A B : Type 0} (f h : A → B) (xs : List A) → map f xs ≡ map h xs → {x : A} → Memᴰ x xs → f x ≡ h x
each f h [] e m = absurd (Memᴰ.not-nil m)
each {A} {B} f h (y ∷ xs) e m =
    elim (Memᴰ.cases_cons m) [
      | inl same ↦ ap f same ∙ ap (λ (l : List B). get_or l 0 (f y)) e ∙ ap h (sym same)
      | inr later ↦ each f h xs (ap (drop 1) e) later
    ]
