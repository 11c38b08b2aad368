-- Plans of loads and merges, and how they end by the definitions that the contracts cite (Rules, Demands).
-- Definitions only.
use Rattle.std.specs.Prelude.{Bool, not, ◌&&◌, List, [], ◌++◌, ℕ, zero, suc, ◌*◌, ◌/◌, ◌%◌, ◌<◌, eqb, length, get_or}
use Rattle.basics.specs.Answer.{refuse}
use Rattle.table.specs.Layouts.{Layout}
use Rattle.table.specs.Layouts.{Wide}
use Rattle.table.specs.Table.{Table}
use Rattle.table.specs.Layout.{TableIn, empty_in}
use Rattle.adder.specs.Batch.{Weighted, batch_of}
use Rattle.loader.specs.Load.{load_number_in, load_later_in}
use Rattle.loader.specs.Merge.{merge_number_in, merge_later_in}

-- what a caller lends to a load
pub record Batch : Type 0 where
  pub colours : List ℕ
  pub weighted : Bool
  pub weights : List ℕ

-- an empty table, a batch loaded into a plan's table, or the tables of two plans merged
pub data Plan : Type 0 where
  empty : Plan
  load : Plan → Batch → Plan
  merge : Plan → Plan → Plan

-- how a plan ends in a layout: stopped by the answer of the first refusal, or with a table filled
pub data EndedIn (l : Layout) : Type 0 where
  Stopped : ℕ → EndedIn l
  Filled : TableIn l → EndedIn l

unfoldable pub ended_of_in : (l : Layout) → ℕ → TableIn l → EndedIn l
ended_of_in l zero t = Filled t
ended_of_in l (suc n) t = Stopped (suc n)

-- the next load, and the next merge, unless a refusal came before
unfoldable pub then_load_in : (l : Layout) → ℕ → ℕ → ℕ → EndedIn l → Batch → EndedIn l
then_load_in l b1 b2 b3 (Stopped n) b = Stopped n
then_load_in l b1 b2 b3 (Filled t) b =
    ended_of_in l (load_number_in l b1 b2 b3 t b.colours b.weighted b.weights)
    (load_later_in l b1 b2 b3 t b.colours b.weighted b.weights)

unfoldable pub then_merge_in : (l : Layout) → ℕ → ℕ → ℕ → EndedIn l → EndedIn l → EndedIn l
then_merge_in l b1 b2 b3 (Stopped n) r = Stopped n
then_merge_in l b1 b2 b3 (Filled t) (Stopped n) = Stopped n
then_merge_in l b1 b2 b3 (Filled t) (Filled s) =
    ended_of_in l (merge_number_in l b1 b2 b3 t s) (merge_later_in l b1 b2 b3 t s)

unfoldable pub ends_in : (l : Layout) → ℕ → ℕ → ℕ → Plan → EndedIn l
ends_in l b1 b2 b3 empty = Filled (empty_in l (b1 * b2 * b3))
ends_in l b1 b2 b3 (load p b) = then_load_in l b1 b2 b3 (ends_in l b1 b2 b3 p) b
ends_in l b1 b2 b3 (merge p q) = then_merge_in l b1 b2 b3 (ends_in l b1 b2 b3 p) (ends_in l b1 b2 b3 q)

-- in the wide layout
abbrev pub Ended : Type 0
Ended = EndedIn Wide

abbrev pub ended_of : ℕ → Table → Ended
ended_of n t = ended_of_in Wide n t

abbrev pub ends : ℕ → ℕ → ℕ → Plan → Ended
ends b1 b2 b3 p = ends_in Wide b1 b2 b3 p

-- the weighted colours of a plan
unfoldable pub leaves : Plan → List Weighted
leaves empty = []
leaves (load p b) = leaves p ++ batch_of b.colours b.weighted b.weights
leaves (merge p q) = leaves p ++ leaves q

-- the answer that a batch gets by itself: not in threes, or weights that do not pair
unfoldable pub malformed : Batch → ℕ
malformed b =
    refuse (not (eqb (length b.colours % 3) 0)) 3
    (refuse (b.weighted && not (eqb (length b.weights) (length b.colours / 3))) 4 0)

unfoldable pub first_of : ℕ → ℕ → ℕ
first_of zero m = m
first_of (suc n) m = suc n

-- the answer to the first malformed batch, and 0 where there is none
unfoldable pub first_malformed : Plan → ℕ
first_malformed empty = 0
first_malformed (load p b) = first_of (first_malformed p) (malformed b)
first_malformed (merge p q) = first_of (first_malformed p) (first_malformed q)

-- every colour byte is one
abbrev pub BytesIn : Plan → Type 0
BytesIn empty = Unit {0}
BytesIn (load p b) = BytesIn p × ((k : ℕ) → get_or b.colours k 0 < 256)
BytesIn (merge p q) = BytesIn p × BytesIn q
