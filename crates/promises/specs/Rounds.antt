-- How many rounds a cut may take. Definitions only.
use Rattle.std.specs.Prelude.{ℕ, ◌-◌, ◌*◌}

-- "It is never above 2·k − 2."
unfoldable pub most_rounds : ℕ → ℕ
most_rounds k = 2 * k - 2
