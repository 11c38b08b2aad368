-- What a comparison of two lists says. Definitions only.
use Rattle.std.specs.Prelude.{◌≡◌, ℕ, ◌+◌, ◌<◌, ◌≤◌, ◌≢◌, List, slice_index}

-- a place of n places of two lists, from one place of each on: the first at which they differ, or n, and then none does
pub record FirstDifference (a : List ℕ) (from-a : ℕ) (b : List ℕ) (from-b n place : ℕ) : Type 0 where
  pub within : place ≤ n
  pub before : (i : ℕ) → i < place → slice_index a (from-a + i) ≡ slice_index b (from-b + i)
  pub there : place < n → slice_index a (from-a + place) ≢ slice_index b (from-b + place)
