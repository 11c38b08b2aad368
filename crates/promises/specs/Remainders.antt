-- What colours, counts and remainders of a cut give back of its table. Definitions only.
use Rattle.std.specs.Prelude.{◌≡◌, cond, List, ℕ, suc, ◌+◌, ◌*◌, ◌<◌, get_or}
use Rattle.grid.specs.declared.place.Grid.{Grid}
use Rattle.basics.specs.Range.{sum_from}
use Rattle.grid.specs.Grid.{bins_of}
use Rattle.table.specs.Table.{view_of}
use Rattle.boxes.specs.Holds.{holds_at}
use Rattle.cutter.specs.Record.{CutRecord}
use Rattle.cutter.specs.Cut.{Buffers}
use Rattle.promises.specs.Tiling.{box_in}

-- component d, from 0 on, of box i: "colour times count plus remainder"
unfoldable pub given_back : Buffers → ℕ → ℕ → ℕ
given_back later i d =
    let r = later.results in
    get_or r.palette (3 * i + d) 0 * get_or r.counts i 0 + get_or r.remainders (3 * i + d) 0

pub record Remainders (g : Grid) (t : List ℕ) (r : CutRecord) (later : Buffers) : Type 0 where
  -- a remainder is below the box's count
  pub below : (i d : ℕ) → i < r.boxes → d < 3
      → get_or later.results.remainders (3 * i + d) 0 < get_or later.results.counts i 0
  -- what is given back is the component sum of the box
  pub whole : (i d : ℕ) → i < r.boxes → d < 3
      → given_back later i d ≡ sum_from 0 (bins_of g) (λ p. cond (holds_at g (box_in r i) p) (view_of t p (suc d)) 0)
  -- and over all boxes the table's component total
  pub all : (d : ℕ) → d < 3
      → sum_from 0 r.boxes (λ i. given_back later i d) ≡ sum_from 0 (bins_of g) (λ p. view_of t p (suc d))
