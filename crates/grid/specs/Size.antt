-- The seven sizes of a dimension and their shifts (Rules, Grid). Definitions only.
use Rattle.std.specs.Prelude.{None, Option, Some}
use Rattle.std.specs.Prelude.{cond, List, [], ◌∷◌, ℕ, ◌+◌, ◌-◌, ◌*◌, ◌/◌, ◌^◌, ◌<◌, eqb}
use Rattle.grid.specs.declared.dimension.Span.{Span}
use Rattle.basics.specs.Answer.{Answer}

-- "each chosen by cases from 2, 4, 8, 16, 32, 64, 128", and the shift that goes with each
unfoldable pub choices : List (ℕ × ℕ)
choices = (2, 7) ∷ (4, 6) ∷ (8, 5) ∷ (16, 4) ∷ (32, 3) ∷ (64, 2) ∷ (128, 1) ∷ []

unfoldable pub shift_in : List (ℕ × ℕ) → ℕ → Option ℕ
shift_in [] size = None
shift_in (c ∷ cs) size = cond (eqb size c.0) (Some c.1) (shift_in cs size)

unfoldable pub shift_of : ℕ → Option ℕ
shift_of size = shift_in choices size

-- "The bin of component c at size B is c shifted right" by the size's shift
unfoldable pub bin_of : ℕ → ℕ → ℕ
bin_of shift c = c / 2 ^ shift

-- a bin that some component has under a shift
pub record InSize (shift bin : ℕ) : Type 0 where
  pub shift_below : shift < 8
  pub bin_below : bin * 2 ^ shift < 256

-- the smallest and the largest value of a component that fall in a bin
unfoldable pub span_of : ℕ → ℕ → Span
span_of shift bin = record { low = bin * 2 ^ shift; high = bin * 2 ^ shift + (2 ^ shift - 1) }

-- the answer and the values of each case
unfoldable pub shift_answer : Option ℕ → Answer
shift_answer (Some s) = record { number = 0; values = s ∷ [] }
shift_answer None = record { number = 1; values = [] }
