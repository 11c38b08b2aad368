-- What a replay takes in, and how its entries are answered, told without its session and its tables (Rules, Replay).
-- Definitions only.
use Rattle.std.specs.Prelude.{◌≡◌, ◌⊎◌, true, not, ◌&&◌, cond, List, [], ◌∷◌, ◌++◌, ℕ, zero, suc, ◌+◌, ◌≤◌, ◌<◌, eqb, ltb, length, get_or}
use Rattle.basics.specs.Answer.{refuse}
use Rattle.basics.specs.Range.{list_from}
use Rattle.grid.specs.declared.place.Grid.{Grid}
use Rattle.table.specs.Layouts.{Wide}
use Rattle.table.specs.Table.{Table, view_of}
use Rattle.table.specs.Sound.{limit, total}
use Rattle.adder.specs.Batch.{Weighted, weight_of}
use Rattle.adder.specs.Add.{scaled_batch}
use Rattle.loader.specs.Plan.{Plan, Filled, ends}
use Rattle.sums.specs.declared.source.Source.{Source}
use Rattle.cutter.specs.Cut.{Buffers}
use Rattle.recorder.specs.Session.{is_interval, reloaded}
use Rattle.recorder.specs.Batch.{batch_number, batch_later}
use Rattle.recorder.specs.Replay.{kind_at, interval_at, entries_in, entries_fit, Entry, entry_at, Standing, standing}
use Rattle.recorder.specs.Replay.{stands_after, Recorded, replay_number, replay_answer, replayed, replay_table, replay_bytes}
use Rattle.promises.specs.Order.{SameCut}

-- every colour byte is one
abbrev pub ColourBytes : Recorded → Type 0
ColourBytes r = (k : ℕ) → get_or r.colours k 0 < 256

-- entry i of what is lent
abbrev pub entry_of : Recorded → ℕ → Entry
entry_of r i = entry_at r.entries r.colours r.weights i

-- ---- what is taken in
-- the colours of an entry, each weight multiplied by the interval that the entry says
unfoldable pub scaled_of : Entry → List Weighted
scaled_of e = scaled_batch e.interval e.colours true e.weights

-- those of entry i, where it is a batch and its answer byte is 0
unfoldable pub taken_at : Recorded → List ℕ → ℕ → List Weighted
taken_at r bytes i = cond (eqb (kind_at r.entries i) 1 && eqb (get_or bytes i 0) 0) (scaled_of (entry_of r i)) []

-- and those of the entries before entry i, one after the other
unfoldable pub taken_before : Recorded → List ℕ → ℕ → List Weighted
taken_before r bytes zero = []
taken_before r bytes (suc i) = taken_before r bytes i ++ taken_at r bytes i

-- the scaled colours of the accepted batches of a replay
unfoldable pub taken : ℕ → ℕ → ℕ → ℕ → Table → Recorded → List Weighted
taken first b1 b2 b3 t r = taken_before r (replay_bytes first b1 b2 b3 t r) (entries_in r.entries)

-- ---- how an entry is answered
-- how a replay stands before entry i
unfoldable pub stands_before : ℕ → ℕ → ℕ → ℕ → Table → Recorded → ℕ → Standing
stands_before first b1 b2 b3 t r i = stands_after b1 b2 b3 (standing first t) (list_from 0 i (entry_of r))

-- the interval that "the last accepted reload before it set, or the start where there is none", before entry i; told by
-- the reloads alone, of which one is accepted where its own is an interval
unfoldable pub set_before : ℕ → List ℕ → ℕ → ℕ
set_before first entries zero = first
set_before first entries (suc i) =
    let before = set_before first entries i in
    cond (eqb (kind_at entries i) 0 && is_interval (interval_at entries i)) (interval_at entries i) before

-- the total before entry i: that of the first table, and the weight of what was taken since
unfoldable pub total_before : Grid → Table → Recorded → List ℕ → ℕ → ℕ
total_before g t r bytes i = total g (view_of t) + weight_of (taken_before r bytes i)

-- a batch that is accepted: its interval is the one set, and its scaled weight "fits on top of the total before it"
pub record CanTake (first : ℕ) (g : Grid) (t : Table) (r : Recorded) (bytes : List ℕ) (i : ℕ) : Type 0 where
  pub set : interval_at r.entries i ≡ set_before first r.entries i
  pub fits : total_before g t r bytes i + weight_of (scaled_of (entry_of r i)) ≤ limit

-- the answer to a batch, and to any entry: 13 out of range, 14 not the one set, 7 too much
unfoldable pub batch_due : ℕ → Grid → Table → Recorded → List ℕ → ℕ → ℕ
batch_due first g t r bytes i =
    refuse (not (is_interval (interval_at r.entries i))) 13
    (refuse (not (eqb (interval_at r.entries i) (set_before first r.entries i))) 14
    (refuse (ltb limit (total_before g t r bytes i + weight_of (scaled_of (entry_of r i)))) 7 0))

unfoldable pub entry_due : ℕ → Grid → Table → Recorded → List ℕ → ℕ → ℕ
entry_due first g t r bytes i =
    cond (eqb (kind_at r.entries i) 0) (refuse (not (is_interval (interval_at r.entries i))) 13 0)
    (batch_due first g t r bytes i)

-- ---- a table that a plan of loads and merges ends with too, and is cut alike for every k and whatever is lent
pub record PlanAlike (g : Grid) (b1 b2 b3 : ℕ) (t : Table) (q : Plan) : Type 0 where
  pub second : Table
  pub ran : ends b1 b2 b3 q ≡ Filled second
  pub same : t ≡ second
  pub alike : (source : Source) (k : ℕ) (b : Buffers) → SameCut Wide source g b1 b2 b3 k b t second

-- ---- one call an entry
-- an answer, and how the recording stands then
pub record Step : Type 0 where
  pub answer : ℕ
  pub then : Standing

-- a reload leaves the table, a batch the session
unfoldable pub reload_step : Standing → ℕ → Step
reload_step s i =
    record {
      answer = (reloaded s.session i).number;
      then = record { session = (reloaded s.session i).session; table = s.table };
    }

unfoldable pub batch_step : ℕ → ℕ → ℕ → Standing → ℕ → List ℕ → List ℕ → Step
batch_step b1 b2 b3 s i colours weights =
    record {
      answer = batch_number s.session i b1 b2 b3 s.table colours true weights;
      then =
          record {
            session = s.session;
            table = batch_later s.session i b1 b2 b3 s.table colours true weights;
          };
    }

-- "A replay equals its entries one by one through reload and batch."
pub record OneByOne (first b1 b2 b3 : ℕ) (t : Table) (r : Recorded) : Type 0 where
  pub begins : stands_before first b1 b2 b3 t r 0 ≡ standing first t
  pub reload : (i : ℕ) → i < entries_in r.entries → kind_at r.entries i ≡ 0
      → record {
        answer = get_or (replay_bytes first b1 b2 b3 t r) i 0;
        then = stands_before first b1 b2 b3 t r (suc i);
      }
      ≡ reload_step (stands_before first b1 b2 b3 t r i) (interval_at r.entries i)
  pub batch : (i : ℕ) → i < entries_in r.entries → kind_at r.entries i ≡ 1
      → record {
        answer = get_or (replay_bytes first b1 b2 b3 t r) i 0;
        then = stands_before first b1 b2 b3 t r (suc i);
      }
      ≡ batch_step b1 b2 b3 (stands_before first b1 b2 b3 t r i) (interval_at r.entries i) (entry_of r i).colours
      (entry_of r i).weights
  pub no_other : (i : ℕ) → i < entries_in r.entries → (kind_at r.entries i ≡ 0) ⊎ (kind_at r.entries i ≡ 1)
  pub ends : replayed first b1 b2 b3 t r ≡ stands_before first b1 b2 b3 t r (entries_in r.entries)

-- a replay of one entry is its call: one answer byte is written
pub record IsStep (first b1 b2 b3 : ℕ) (t : Table) (r : Recorded) (s : Step) (rest : List ℕ) : Type 0 where
  pub answer : replay_answer first b1 b2 b3 t r ≡ record { number = 0; session = s.then.session }
  pub table : replay_table first b1 b2 b3 t r ≡ s.then.table
  pub bytes : replay_bytes first b1 b2 b3 t r ≡ s.answer ∷ rest

-- ---- two parts of a recorded list
-- what is lent to the one and the other, as it is lent to the whole
unfoldable pub joined : Recorded → Recorded → Recorded
joined r s =
    record {
      entries = r.entries ++ s.entries;
      colours = r.colours ++ s.colours;
      weights = r.weights ++ s.weights;
      answers = r.answers ++ s.answers;
    }

-- a part that ends between two entries: its colours, weights and answer bytes are those of its entries
pub record WholePart (r : Recorded) : Type 0 where
  pub fits : entries_fit r.entries (length r.colours) (length r.weights) (length r.answers) ≡ true
  pub bytes : length r.answers ≡ entries_in r.entries

-- "it equals its two parts, the second begun with the first's table and interval"
pub record InParts (first b1 b2 b3 : ℕ) (t : Table) (r s : Recorded) : Type 0 where
  pub first_done : replay_number first b1 b2 b3 t r ≡ 0
  pub second_done : replay_number (replay_answer first b1 b2 b3 t r).session.interval b1 b2 b3
      (replay_table first b1 b2 b3 t r) s ≡ 0
  pub answer : replay_answer first b1 b2 b3 t (joined r s)
      ≡ replay_answer (replay_answer first b1 b2 b3 t r).session.interval b1 b2 b3 (replay_table first b1 b2 b3 t r) s
  pub table : replay_table first b1 b2 b3 t (joined r s)
      ≡ replay_table (replay_answer first b1 b2 b3 t r).session.interval b1 b2 b3 (replay_table first b1 b2 b3 t r) s
  pub bytes : replay_bytes first b1 b2 b3 t (joined r s)
      ≡ replay_bytes first b1 b2 b3 t r
      ++ replay_bytes (replay_answer first b1 b2 b3 t r).session.interval b1 b2 b3 (replay_table first b1 b2 b3 t r) s
