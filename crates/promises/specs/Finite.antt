-- What the spreads and scores of a cut are to be at every round of its loop (Rules, Loop). Definitions only.
use Rattle.std.specs.Prelude.{◌≡◌, ◌≢◌, false, ℕ, ◌<◌, T}
use Rattle.std.specs.Float.{nan, inf}
use Rattle.std.specs.Float.Ieee.Scale.{finite}
use Rattle.grid.specs.declared.place.Grid.{Grid}
use Rattle.table.specs.Cell.{View}
use Rattle.boxes.specs.declared.sides.Bounds.{Bounds}
use Rattle.boxes.specs.Box.{min_at, max_at, low_side, high_side, whole_of}
use Rattle.bins.specs.Sum.{box_sum}
use Rattle.sums.specs.Box.{stats_of}
use Rattle.spread.specs.Spread.{score_of}
use Rattle.heap.specs.Heap.{item}
use Rattle.heap.specs.Boxes.{BoxSpread}
use Rattle.rounds.specs.Loop.{Heap, no_item, start, rounds}

-- the heap after i rounds of the loop of a cut into at most k boxes, or at its end where that comes sooner
unfoldable pub heap_after : ℕ → Grid → View → ℕ → Heap
heap_after i g v k = rounds i g v k (start g)

-- the box at place p, with its spread
abbrev pub box_at : Heap → ℕ → BoxSpread
box_at h p = item no_item h.room p

module _ (g : Grid) (v : View) where
  -- the weight of a box
  abbrev pub weight_in : Bounds → ℕ
  weight_in x = box_sum g v x 0

  -- every position of a box with weight on both sides has a finite score
  pub record ScoresFinite (x : Bounds) : Type 0 where
    pub finite_score : (d bin : ℕ) → min_at x d < bin → bin < max_at x d
        → 0 < weight_in (low_side x d bin) → 0 < weight_in (high_side x d bin)
        → T (finite (score_of (stats_of g v (low_side x d bin)) (stats_of g v (high_side x d bin))))

  -- a heap without a NaN, in which only the starting box is at infinity
  pub record AllNumbers (h : Heap) : Type 0 where
    -- "no spread and no score is ever NaN": no spread,
    pub number : (p : ℕ) → p < h.boxes → (box_at h p).spread ≢ nan
    -- and no score, nor is one infinite
    pub scores : (p : ℕ) → p < h.boxes → ScoresFinite (box_at h p).bounds
    -- "infinity occurs only for the starting box": as long as no top was taken out it is the only box, at infinity,
    pub starting : h.rounds ≡ 0 → (h.boxes ≡ 1) × (box_at h 0 ≡ record { bounds = whole_of g; spread = inf false })
    -- and from then on every spread is finite
    pub finite_spread : 0 < h.rounds → (p : ℕ) → p < h.boxes → T (finite (box_at h p).spread)
    -- "no box in the heap is empty"
    pub some : (p : ℕ) → p < h.boxes → 0 < weight_in (box_at h p).bounds
