-- The best position to cut one box (Rules, Cutting). Definitions only.
use Rattle.std.specs.Prelude.{Bool, true, false, cond, List, [], ◌∷◌, ℕ, zero, suc, ◌+◌, ◌-◌, eqb, Float, Option, None, Some}
use Rattle.std.specs.Float.Ieee.{lt}
use Rattle.grid.specs.declared.place.Grid.{Grid}
use Rattle.table.specs.Cell.{View}
use Rattle.boxes.specs.declared.sides.Bounds.{Bounds}
use Rattle.sums.specs.declared.box_sums.Stats.{Stats}
use Rattle.sums.specs.Box.{stats_of}
use Rattle.boxes.specs.Box.{min_at, max_at, low_side, high_side}
use Rattle.spread.specs.declared.position.Position.{Position}
use Rattle.spread.specs.declared.both_sides.BestCut.{BestCut}
use Rattle.spread.specs.Spread.{score_of}

-- the answer, the values and the scores of each case: "either a position with its float score, or that no position
-- exists"; neither is a refusal
pub record ScoredAnswer : Type 0 where
  pub number : ℕ
  pub values : List ℕ
  pub scores : List Float

unfoldable pub position_answer : Option Position → ScoredAnswer
position_answer (Some p) = record { number = 0; values = p.dimension ∷ p.bin ∷ []; scores = p.score ∷ [] }
position_answer None = record { number = 0; values = []; scores = [] }

-- "A position with an empty side is skipped"
unfoldable pub position_of : ℕ → ℕ → Stats → Stats → Option Position
position_of d bin low high =
    cond (eqb low.weight 0) None
    (cond (eqb high.weight 0) None (Some (record { dimension = d; bin = bin; score = score_of low high })))

-- the position at a bin of dimension d: "the low side is [min, bin), the high side the rest"
unfoldable pub position_at : Grid → View → Bounds → ℕ → ℕ → Option Position
position_at g v x d bin = position_of d bin (stats_of g v (low_side x d bin)) (stats_of g v (high_side x d bin))

-- whether the later of two positions wins: where it is the only one, or with a smaller score
unfoldable pub later_wins : Option Position → Option Position → Bool
later_wins earlier None = false
later_wins None (Some later) = true
later_wins (Some earlier) (Some later) = lt later.score earlier.score

-- of two positions the later where it wins, else the earlier
unfoldable pub better : Option Position → Option Position → Option Position
better earlier later = cond (later_wins earlier later) later earlier

-- the best of the n positions from a bin of dimension d on, in order
unfoldable pub best_run : Grid → View → Bounds → ℕ → ℕ → ℕ → Option Position
best_run g v x d bin zero = None
best_run g v x d bin (suc n) = better (best_run g v x d bin n) (position_at g v x d (bin + n))

-- "each bin strictly between min and max"
unfoldable pub best_in : Grid → View → Bounds → ℕ → Option Position
best_in g v x d = best_run g v x d (min_at x d + 1) (max_at x d - (min_at x d + 1))

-- "The smallest score wins; on a tie the lowest dimension, in it the lowest bin"
unfoldable pub best_cut : Grid → View → Bounds → Option Position
best_cut g v x = better (better (best_in g v x 0) (best_in g v x 1)) (best_in g v x 2)

-- ---- the two sides of a position
-- a position of a box with the statistics of its two sides: "the low side is [min, bin), the high side the rest"
unfoldable pub sides_at : Grid → View → Bounds → Position → BestCut
sides_at g v x p =
    record {
      position = p;
      low = stats_of g v (low_side x p.dimension p.bin);
      high = stats_of g v (high_side x p.dimension p.bin);
    }

-- that of a box that has one
unfoldable pub cut_at : Grid → View → Bounds → Option Position → Option BestCut
cut_at g v x (Some p) = Some (sides_at g v x p)
cut_at g v x None = None
