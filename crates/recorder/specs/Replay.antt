-- Replays of a recorded list (Rules, Replay; Rules, Answers). Definitions only.
use Rattle.std.specs.Prelude.{Bool, true, not, ◌&&◌, ◌||◌, cond, List, [], ◌∷◌, ◌++◌, ℕ, ◌+◌, ◌*◌, ◌/◌, ◌%◌, eqb, leb, length, get_or, take, drop}
use Rattle.grid.specs.declared.place.Grid.{Grid}
use Rattle.basics.specs.Answer.{refuse, when_done}
use Rattle.basics.specs.Range.{list_from, sum_from, all_from}
use Rattle.grid.specs.Grid.{grid_of, number_on, bins_of}
use Rattle.table.specs.Cell.{View}
use Rattle.table.specs.Table.{Table, is_sized, view_of}
use Rattle.table.specs.Sound.{limit, sound, unsound_number}
use Rattle.recorder.specs.declared.session.Session.{Session}
use Rattle.recorder.specs.declared.session.SessionAnswer.{SessionAnswer}
use Rattle.recorder.specs.Session.{is_interval, reloaded}
use Rattle.recorder.specs.Batch.{batch_number, batch_later}

-- ---- a recorded list
-- "An entry is three u32 numbers: kind (0 reload, 1 batch), interval, number of colours (0 for a reload)."
unfoldable pub kind_at : List ℕ → ℕ → ℕ
kind_at entries i = get_or entries (3 * i) 0

unfoldable pub interval_at : List ℕ → ℕ → ℕ
interval_at entries i = get_or entries (3 * i + 1) 0

unfoldable pub count_at : List ℕ → ℕ → ℕ
count_at entries i = get_or entries (3 * i + 2) 0

-- how many entries there are
abbrev pub entries_in : List ℕ → ℕ
entries_in entries = length entries / 3

-- how many colours the first n entries have
unfoldable pub colours_before : List ℕ → ℕ → ℕ
colours_before entries n = sum_from 0 n (count_at entries)

-- a reload without colours, or a batch
unfoldable pub is_entry : List ℕ → ℕ → Bool
is_entry entries i = (eqb (kind_at entries i) 0 && eqb (count_at entries i) 0) || eqb (kind_at entries i) 1

-- entries in threes and each of them one, "colours and weights that fit them exactly", and an answer byte for each;
-- told by how many colour bytes, weights and answer bytes are lent
unfoldable pub entries_fit : List ℕ → ℕ → ℕ → ℕ → Bool
entries_fit entries colours weights answers =
    eqb (length entries % 3) 0
    && (all_from 0 (entries_in entries) (is_entry entries)
    && (eqb colours (3 * colours_before entries (entries_in entries))
    && (eqb weights (colours_before entries (entries_in entries))
    && leb (entries_in entries) answers)))

-- ---- its entries, one after the other
-- an entry with the colours and weights that belong to it
pub record Entry : Type 0 where
  pub kind : ℕ
  pub interval : ℕ
  pub colours : List ℕ
  pub weights : List ℕ

-- "The colours and weights of all batches lie one after the other"
unfoldable pub entry_at : List ℕ → List ℕ → List ℕ → ℕ → Entry
entry_at entries colours weights i =
    record {
      kind = kind_at entries i;
      interval = interval_at entries i;
      colours = take (3 * count_at entries i) (drop (3 * colours_before entries i) colours);
      weights = take (count_at entries i) (drop (colours_before entries i) weights);
    }

unfoldable pub entries_of : List ℕ → List ℕ → List ℕ → List Entry
entries_of entries colours weights = list_from 0 (entries_in entries) (entry_at entries colours weights)

-- how a recording stands: its session and its table
pub record Standing : Type 0 where
  pub session : Session
  pub table : Table

abbrev pub standing : ℕ → Table → Standing
standing i t = record { session = record { interval = i }; table = t }

-- the answer to an entry: a reload's, or a batch's with its weights
unfoldable pub entry_number : ℕ → ℕ → ℕ → Standing → Entry → ℕ
entry_number b1 b2 b3 s e =
    cond (eqb e.kind 0)
    (reloaded s.session e.interval).number
    (batch_number s.session e.interval b1 b2 b3 s.table e.colours true e.weights)

-- how the recording stands after it
unfoldable pub entry_later : ℕ → ℕ → ℕ → Standing → Entry → Standing
entry_later b1 b2 b3 s e =
    cond (eqb e.kind 0)
    (record { session = (reloaded s.session e.interval).session; table = s.table })
    (record {
      session = s.session;
      table = batch_later s.session e.interval b1 b2 b3 s.table e.colours true e.weights;
    })

-- and after a list of entries: "a refused entry changes nothing, and the replay goes on"
unfoldable pub stands_after : ℕ → ℕ → ℕ → Standing → List Entry → Standing
stands_after b1 b2 b3 s [] = s
stands_after b1 b2 b3 s (e ∷ es) = stands_after b1 b2 b3 (entry_later b1 b2 b3 s e) es

-- "one answer byte per entry"
unfoldable pub answers_to : ℕ → ℕ → ℕ → Standing → List Entry → List ℕ
answers_to b1 b2 b3 s [] = []
answers_to b1 b2 b3 s (e ∷ es) = entry_number b1 b2 b3 s e ∷ answers_to b1 b2 b3 (entry_later b1 b2 b3 s e) es

-- ---- the call
-- what is lent to a replay beside the table
pub record Recorded : Type 0 where
  pub entries : List ℕ
  pub colours : List ℕ
  pub weights : List ℕ
  pub answers : List ℕ

abbrev pub recorded : List ℕ → List ℕ → List ℕ → List ℕ → Recorded
recorded e c w a = record { entries = e; colours = c; weights = w; answers = a }

unfoldable pub lent_fits : Recorded → Bool
lent_fits r = entries_fit r.entries (length r.colours) (length r.weights) (length r.answers)

-- the answer on an accepted grid: a limit, whether all that is lent fits, and what the table holds
unfoldable pub replay_number_on : ℕ → Grid → Bool → View → ℕ
replay_number_on most g fits v = refuse (not fits) 5 (refuse (not (sound most g v)) unsound_number 0)

-- "13 on its first interval, then 1, 5 and 6"
unfoldable pub replay_number : ℕ → ℕ → ℕ → ℕ → Table → Recorded → ℕ
replay_number first b1 b2 b3 t r =
    refuse (not (is_interval first)) 13
    (number_on (grid_of b1 b2 b3) (λ g. replay_number_on limit g (is_sized t (bins_of g) && lent_fits r) (view_of t)))

-- how the recording stands then: "a refusal replays nothing and answers interval 0"
unfoldable pub replayed : ℕ → ℕ → ℕ → ℕ → Table → Recorded → Standing
replayed first b1 b2 b3 t r =
    when_done (replay_number first b1 b2 b3 t r)
    (stands_after b1 b2 b3 (standing first t) (entries_of r.entries r.colours r.weights))
    (standing 0 t)

-- what it hands back
unfoldable pub replay_answer : ℕ → ℕ → ℕ → ℕ → Table → Recorded → SessionAnswer
replay_answer first b1 b2 b3 t r =
    record { number = replay_number first b1 b2 b3 t r; session = (replayed first b1 b2 b3 t r).session }

-- the table afterwards
unfoldable pub replay_table : ℕ → ℕ → ℕ → ℕ → Table → Recorded → Table
replay_table first b1 b2 b3 t r = (replayed first b1 b2 b3 t r).table

-- the answer bytes afterwards: "answer bytes past the entries stay"
unfoldable pub replay_bytes : ℕ → ℕ → ℕ → ℕ → Table → Recorded → List ℕ
replay_bytes first b1 b2 b3 t r =
    when_done (replay_number first b1 b2 b3 t r)
    (answers_to b1 b2 b3 (standing first t) (entries_of r.entries r.colours r.weights)
    ++ drop (entries_in r.entries) r.answers)
    r.answers
