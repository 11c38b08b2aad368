-- A cut through the call for C and Rust, as its caller reads it from what it was lent. Definitions only.
use Rattle.std.specs.Prelude.{◌≡◌, List, ℕ, ◌+◌, ◌*◌, ◌≤◌, ◌<◌, length, get_or}
use Rattle.std.specs.Float.{nan}
use Rattle.table.specs.Layouts.{Layout}
use Rattle.boxes.specs.declared.sides.Bounds.{Bounds}
use Rattle.boxes.specs.Box.{no_box}
use Rattle.rounds.specs.Loop.{with_zero}
use Rattle.cutter.specs.Record.{CutRecord}
use Rattle.cutter.specs.Cut.{BuffersIn}
use Rattle.seluvava.specs.declared.cut.CutAnswer.{CutAnswer}
use Rattle.seluvava.specs.Cut.{LentIn}
use Rattle.promises.specs.Tiling.{box_in}

-- room for k boxes, six bytes each, and their spreads
pub record Room (layout : Layout) (k : ℕ) (l : LentIn layout) : Type 0 where
  pub boxes : 6 * k ≤ length l.boxes
  pub spreads : k ≤ length l.spreads

-- box i of an array of bytes: of each dimension where it begins, and where it ends
unfoldable pub box_read : List ℕ → ℕ → Bounds
box_read bytes i =
    record {
      r0 = get_or bytes (6 * i + 0) 0;
      r1 = get_or bytes (6 * i + 1) 0;
      g0 = get_or bytes (6 * i + 2) 0;
      g1 = get_or bytes (6 * i + 3) 0;
      b0 = get_or bytes (6 * i + 4) 0;
      b1 = get_or bytes (6 * i + 5) 0;
    }

-- what is told and left behind is the record r and the buffers after it: the boxes with their spreads in order, and
-- behind them what stood there
pub record TellsCut (layout : Layout) (r : CutRecord) (after : BuffersIn layout) (old : LentIn layout)
    (told : CutAnswer) (later : LentIn layout) : Type 0 where
  pub answer : told ≡ record { number = r.number; boxes = r.boxes; rounds = r.rounds }
  pub buffers : later.buffers ≡ after
  pub box : (i : ℕ) → i < r.boxes → box_read later.boxes i ≡ box_in r i
  pub spread : (i : ℕ) → i < r.boxes
      → get_or later.spreads i nan ≡ (get_or r.places i (with_zero no_box)).spread
  pub boxes_stay : (j : ℕ) → get_or later.boxes (6 * r.boxes + j) 0 ≡ get_or old.boxes (6 * r.boxes + j) 0
  pub spreads_stay : (j : ℕ) → get_or later.spreads (r.boxes + j) nan ≡ get_or old.spreads (r.boxes + j) nan
  pub boxes_long : length later.boxes ≡ length old.boxes
  pub spreads_long : length later.spreads ≡ length old.spreads
