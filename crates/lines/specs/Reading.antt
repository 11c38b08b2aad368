-- An input that is read and loaded in batches (Rules, Listing). Definitions only.
use Rattle.std.specs.Prelude.{◌≡◌, Bool, true, cond, List, [], ◌∷◌, ◌++◌, ℕ, ◌+◌, ◌%◌, length}
use Rattle.lines.specs.Listing.{part_number, part_later, lower_of}

-- between two batches: the lowest refusal of the loads so far, 0 where there was none, the table, and how many bytes
-- came
pub record Progress : Type 0 where
  pub number : ℕ
  pub table : List ℕ
  pub bytes : ℕ

abbrev pub progress : ℕ → List ℕ → ℕ → Progress
progress number table bytes = record { number = number; table = table; bytes = bytes }

unfoldable pub after_batch : Progress → List ℕ → Progress
after_batch s batch =
    progress (lower_of s.number (part_number s.table batch)) (part_later s.table batch) (s.bytes + length batch)

unfoldable pub after_all : Progress → List (List ℕ) → Progress
after_all s [] = s
after_all s (batch ∷ rest) = after_all (after_batch s batch) rest

-- batches that split no pixel
abbrev pub InThrees : List (List ℕ) → Type 0
InThrees [] = Unit {0}
InThrees (batch ∷ rest) = (length batch % 3 ≡ 0) × InThrees rest

-- one batch came and was loaded; where more may follow it splits no pixel
pub record Came (before after : Progress) (more : Bool) : Type 0 where
  pub batch : List ℕ
  pub whole : more ≡ true → length batch % 3 ≡ 0
  pub loaded : after ≡ after_batch before batch

-- batches came that split no pixel, one after the other, and, where no more may follow, a last one
pub record AllCame (before after : Progress) (more : Bool) : Type 0 where
  pub batches : List (List ℕ)
  pub whole : InThrees batches
  pub last : List ℕ
  pub loaded : after ≡ cond more (after_all before batches) (after_all before (batches ++ last ∷ []))
