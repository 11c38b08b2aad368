-- Why a call refuses, and its number (Rules, Answers). Definitions only.
use Rattle.std.specs.Prelude.{ℕ, Ok, Err, Option, Some, None}
use Rattle.std.specs.Prelude.{Result}
use Rattle.basics.specs.declared.refusal.Refusal.{Refusal}
use Rattle.basics.specs.declared.refusal.Refusal.TheVariants as refusal

-- the number of each
abbrev pub number_of : Refusal → ℕ
number_of refusal.Grid = 1
number_of refusal.BoxCount = 2
number_of refusal.SplitColour = 3
number_of refusal.WeightCount = 4
number_of refusal.Length = 5
number_of refusal.Unsound = 6
number_of refusal.TooHeavy = 7
number_of refusal.NoWeight = 8
number_of refusal.MapEntry = 9
number_of refusal.Header = 10
number_of refusal.Maximum = 11
number_of refusal.PixelCount = 12
number_of refusal.Interval = 13
number_of refusal.NotInForce = 14
number_of refusal.TooHeavyNarrow = 15

-- what a caller is told: 0 where nothing is refused
abbrev pub answer_of : {A : Type 0} → Result A Refusal → ℕ
answer_of (Ok done) = 0
answer_of (Err r) = number_of r

-- the lowest refusal so far as a number, 0 where there was none
abbrev pub told_of : Option Refusal → ℕ
told_of None = 0
told_of (Some r) = number_of r
