-- What the best position of a box is to be (Rules, Cutting). Definitions only.
use Rattle.std.specs.Prelude.{◌≡◌, ◌⊎◌, true, false, [], ◌∷◌, ℕ, ◌<◌, Float}
use Rattle.std.specs.Float.Ieee.{lt}
use Rattle.grid.specs.declared.place.Grid.{Grid}
use Rattle.table.specs.Cell.{View}
use Rattle.boxes.specs.declared.sides.Bounds.{Bounds}
use Rattle.bins.specs.Sum.{box_sum}
use Rattle.sums.specs.Box.{stats_of}
use Rattle.boxes.specs.Box.{min_at, max_at, low_side, high_side}
use Rattle.spread.specs.Spread.{score_of}
use Rattle.spread.specs.Cut.{ScoredAnswer}

-- weight on both sides of a position
pub record Split (g : Grid) (v : View) (x : Bounds) (d bin : ℕ) : Type 0 where
  pub low : box_sum g v (low_side x d bin) 0 ≡ 0 → ⊥
  pub high : box_sum g v (high_side x d bin) 0 ≡ 0 → ⊥

-- a position strictly inside the box with weight on both sides, and its score
pub record Good (g : Grid) (v : View) (x : Bounds) (d bin : ℕ) (score : Float) : Type 0 where
  pub inside : (min_at x d < bin) × (bin < max_at x d)
  pub split : Split g v x d bin
  pub scored : score ≡ score_of (stats_of g v (low_side x d bin)) (stats_of g v (high_side x d bin))

-- the positions of a box with weight on both sides, and their scores
pub record Candidate (g : Grid) (v : View) (x : Bounds) (d bin : ℕ) (score : Float) : Type 0 where
  pub dimension : d < 3
  pub good : Good g v x d bin score

-- "the lowest dimension, in it the lowest bin": bin j of dimension e comes before bin i of dimension d
abbrev pub Earlier : ℕ → ℕ → ℕ → ℕ → Type 0
Earlier e j d i = (e < d) ⊎ ((e ≡ d) × (j < i))

-- of some positions, by dimension, bin and score, one has the smallest score, and those before it have larger ones
pub record Winner (A : ℕ → ℕ → Float → Type 0) (d i : ℕ) (s : Float) : Type 0 where
  pub one : A d i s
  pub smallest : {e j : ℕ} {t : Float} → A e j t → lt t s ≡ false
  pub first : {e j : ℕ} {t : Float} → A e j t → Earlier e j d i → lt s t ≡ true

-- what a caller is told: that one, or that there is none
abbrev pub Tells : (ℕ → ℕ → Float → Type 0) → ScoredAnswer → Type 0
Tells A answer =
    (◌≡◌ {A = ScoredAnswer} answer (record { number = 0; values = []; scores = [] })
    × ((d i : ℕ) (s : Float) → A d i s → ⊥))
    ⊎ ((d : ℕ) × ((i : ℕ) × ((s : Float)
    × (◌≡◌ {A = ScoredAnswer} answer (record { number = 0; values = d ∷ i ∷ []; scores = s ∷ [] })
    × Winner A d i s))))
