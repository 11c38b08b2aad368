-- The record that a cut hands back (Rules, Results). Definitions only.
use Rattle.std.specs.Prelude.{List, ℕ}
use Rattle.heap.specs.Boxes.{BoxSpread}

-- "its answer, the number of boxes, the number of rounds, and the boxes with their spreads in order"
pub record CutRecord : Type 0 where
  pub number : ℕ
  pub boxes : ℕ
  pub rounds : ℕ
  pub places : List BoxSpread
