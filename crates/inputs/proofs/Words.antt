-- Bytes that begin with a word, as the library says it.
-- Assumes nothing.
use mathlib.Core.Path.{◌≡◌, refl, sym}
use mathlib.Core.Bool.{Bool, true, false, ◌&&◌}
use mathlib.Core.List.{List, [], ◌∷◌}
use Prim.Native.Nat.{ℕ}
use Rattle.std.proofs.lemmas.Bool.{eqb-true, eqb-false}
use lib.Dec.{eqb}
use Rattle.std.specs.List.{starts_with}
use Rattle.inputs.specs.Frames.{begins_with}

swap : (a b : ℕ) → eqb a b ≡ eqb b a
swap a b = go (eqb a b) (eqb b a) refl refl
  where
    go : (x y : Bool) → eqb a b ≡ x → eqb b a ≡ y → x ≡ y
    go true true p q = refl
    go false false p q = refl
    go true false p q = absurd (eqb-false b a q (sym (eqb-true a b p)))
    go false true p q = absurd (eqb-false a b p (sym (eqb-true b a q)))

pub starts_begins : (word bytes : List ℕ) → starts_with eqb bytes word ≡ begins_with word bytes
unfolding begins_with
starts_begins [] bytes = refl
starts_begins (c ∷ word) [] = refl
starts_begins (c ∷ word) (b ∷ bytes) = λ k. swap c b k && starts_begins word bytes k
