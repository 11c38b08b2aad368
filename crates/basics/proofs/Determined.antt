-- Every contract here gives a result, and each later content, as `r ≡ f ..`: so any two that it allows are equal.
-- Assumes nothing.
use mathlib.Core.Path.{◌≡◌, sym, ◌∙◌}

pub determined : {A : Type 0} {r s x : A} → r ≡ x → s ≡ x → r ≡ s
determined p q = p ∙ sym q
