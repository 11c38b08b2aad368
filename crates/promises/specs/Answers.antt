-- What a caller is told of each case of an enum that is handed back: "the answer and the values for each of its cases".
-- Definitions only.
use Rattle.std.specs.Prelude.{◌≡◌, ◌⊎◌, Bool, true, false, ℕ, ◌+◌, ◌≤◌, ◌<◌}
use mathlib.Core.List.{List, [], ◌∷◌, Memᴰ}
use Rattle.basics.specs.Answer.{Answer}
use Rattle.grid.specs.Size.{choices}
use Rattle.table.specs.Sound.{limit}

-- answer 0, done, with its values; and the answer of a refusal, with none
abbrev pub answered : List ℕ → Answer
answered values = record { number = 0; values = values }

abbrev pub refused_by : ℕ → Answer
refused_by number = record { number = number; values = [] }

-- a size is among the seven, with its shift; or it is not
abbrev pub Among : ℕ → ℕ → Type 0
Among size shift = Memᴰ (size, shift) choices

abbrev pub NotAmong : ℕ → Type 0
NotAmong size = (shift : ℕ) → Among size shift → ⊥

-- of a size: its shift, or 1, "a grid size not among the seven"
pub record ShiftTold (size : ℕ) (a : Answer) : Type 0 where
  pub done : (shift : ℕ) → Among size shift → a ≡ answered (shift ∷ [])
  pub refused : NotAmong size → a ≡ refused_by 1

-- of three sizes: their shifts and themselves, or 1 where one of them is not among the seven
pub record GridTold (b1 b2 b3 : ℕ) (a : Answer) : Type 0 where
  pub done : (s1 s2 s3 : ℕ) → Among b1 s1 → Among b2 s2 → Among b3 s3 → a ≡ answered (s1 ∷ s2 ∷ s3 ∷ b1 ∷ b2 ∷ b3 ∷ [])
  pub refused : NotAmong b1 ⊎ (NotAmong b2 ⊎ NotAmong b3) → a ≡ refused_by 1

-- of a table: the total of a sound one, or 6, "a table is not sound"
pub record SoundTold (is_sound : Bool) (total : ℕ) (a : Answer) : Type 0 where
  pub done : is_sound ≡ true → a ≡ answered (total ∷ [])
  pub refused : is_sound ≡ false → a ≡ refused_by 6

-- of a batch added to a table: the total then, or 7, "would pass 4,294,967,295"
pub record AddedTold (had more : ℕ) (a : Answer) : Type 0 where
  pub done : had + more ≤ limit → a ≡ answered ((had + more) ∷ [])
  pub refused : limit < had + more → a ≡ refused_by 7
