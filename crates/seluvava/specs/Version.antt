-- The version of the calls as one number (Rules, Calls). Definitions only.
use Rattle.std.specs.Prelude.{ℕ, ◌+◌, ◌*◌}

-- "version a.b.c is the number 10,000·a + 100·b + c"
unfoldable pub version_of : ℕ → ℕ → ℕ → ℕ
version_of a b c = 10000 * a + 100 * b + c

-- "These are the calls of version 0.9.0"
unfoldable pub version_number : ℕ
version_number = version_of 0 9 0
