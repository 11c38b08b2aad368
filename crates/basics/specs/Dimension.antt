-- Of three things, the one of a dimension. Definitions only.
use Rattle.std.specs.Prelude.{ℕ, zero, suc}

-- of three, the one of dimension 0, 1 or 2
unfoldable pub choose : {A : Type 0} → ℕ → A → A → A → A
choose zero x y z = x
choose (suc zero) x y z = y
choose (suc (suc d)) x y z = z
