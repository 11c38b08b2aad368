-- Sessions, batches and replays on a grid of 2,2,2, computed on the definitions: the wrong interval is refused, and the
-- colours of a refused batch are passed over.
-- Assumes nothing.
use mathlib.Core.Path.{◌≡◌, refl}
use mathlib.Core.Bool.{Bool, true, false}
use mathlib.Core.List.{List, [], ◌∷◌, ◌++◌, map}
use Prim.Native.Nat.{ℕ}
use lib.ListN.{replicate}
use Rattle.basics.specs.Answer.{refuse, when_done}
use Rattle.basics.specs.Range.{list_from, sum_from, all_from}
use Rattle.grid.specs.Size.{choices, shift_in, shift_of, bin_of, span_of}
use Rattle.basics.specs.Dimension.{choose}
use Rattle.grid.specs.Grid.{shift_at, grid_with, grid_of, grid_answer, on_grid, number_on, bins_of, place_of, bin_at}
use Rattle.grid.specs.Grid.{colour_place}
use Rattle.pixels.specs.Colour.{colour_at}
use Rattle.table.specs.Table.{Table, table_len, is_sized, view_of, written}
use Rattle.table.specs.Sound.{between, squared_span, plus_span, squares_span, in_bounds, span_at, bin_sound, total, sound}
use Rattle.adder.specs.Batch.{share, adds, sum_over, weight_of, loaded, weighted_at, batch_of, scaled_weights}
use Rattle.loader.specs.Load.{load_number_on, load_number_in, load_later_in}
use Rattle.recorder.specs.declared.session.Session.{Session}
use Rattle.recorder.specs.declared.session.SessionAnswer.{SessionAnswer}
use Rattle.recorder.specs.Session.{is_interval, interval_number, reloaded, begun}
use Rattle.recorder.specs.Batch.{in_force, batch_number, batch_later}
use Rattle.recorder.specs.Replay.{kind_at, interval_at, count_at, colours_before, is_entry, entries_fit, entry_at}
use Rattle.recorder.specs.Replay.{entries_of, entry_number, entry_later, stands_after, answers_to, Recorded, recorded}
use Rattle.recorder.specs.Replay.{lent_fits, replay_number_on, replay_number, replayed, replay_answer, replay_table}
use Rattle.recorder.specs.Replay.{replay_bytes}

session : ℕ → Session
session i = record { interval = i }

answered : ℕ → ℕ → SessionAnswer
answered n i = record { number = n; session = session i }

-- ---- begin and reload: 1 and 4,096 are intervals, 0 and 4,097 are none
worked_sessions :
    (map begun (0 ∷ 1 ∷ 4096 ∷ 4097 ∷ []) ≡ answered 13 0 ∷ answered 0 1 ∷ answered 0 4096 ∷ answered 13 0 ∷ [])
    × (map (reloaded (session 3)) (0 ∷ 1 ∷ 4096 ∷ 4097 ∷ [])
    ≡ answered 13 3 ∷ answered 0 1 ∷ answered 0 4096 ∷ answered 13 3 ∷ [])
unfolding session answered is_interval interval_number reloaded begun refuse when_done
worked_sessions = (refl, refl)

-- ---- batches under interval 3, into an empty table
record Batch : Type 0 where
  size : ℕ
  interval : ℕ
  colours : List ℕ
  weighted : Bool
  weights : List ℕ
  number : ℕ
  later : Table

empty : Table
empty = replicate 40 0

batches : List Batch
batches =
    -- (200, 9, 100) of weight 2, in bin (1, 0, 0), at place 4: six times
    record {
      size = 2;
      interval = 3;
      colours = 200 ∷ 9 ∷ 100 ∷ [];
      weighted = true;
      weights = 2 ∷ [];
      number = 0;
      later = replicate 20 0 ++ (6 ∷ 1200 ∷ 54 ∷ 600 ∷ 300486 ∷ replicate 15 0);
    }
    -- without weights each colour weighs the interval
    ∷ record {
      size = 2;
      interval = 3;
      colours = 200 ∷ 9 ∷ 100 ∷ 0 ∷ 0 ∷ 0 ∷ [];
      weighted = false;
      weights = [];
      number = 0;
      later = 3 ∷ 0 ∷ 0 ∷ 0 ∷ 0 ∷ (replicate 15 0 ++ (3 ∷ 600 ∷ 27 ∷ 300 ∷ 150243 ∷ replicate 15 0));
    }
    -- the wrong interval, and one out of range: both before a size that is not among the seven
    ∷ record {
      size = 1;
      interval = 4;
      colours = 200 ∷ 9 ∷ 100 ∷ [];
      weighted = true;
      weights = 2 ∷ [];
      number = 14;
      later = empty;
    }
    ∷ record {
      size = 1;
      interval = 4097;
      colours = 200 ∷ 9 ∷ 100 ∷ [];
      weighted = true;
      weights = 2 ∷ [];
      number = 13;
      later = empty;
    }
    ∷ record {
      size = 1;
      interval = 3;
      colours = 200 ∷ 9 ∷ 100 ∷ [];
      weighted = true;
      weights = 2 ∷ [];
      number = 1;
      later = empty;
    }
    -- 3 times 1,431,655,765 is the largest total, and one more passes it
    ∷ record {
      size = 2;
      interval = 3;
      colours = 0 ∷ 0 ∷ 0 ∷ [];
      weighted = true;
      weights = 1431655765 ∷ [];
      number = 0;
      later = 4294967295 ∷ replicate 39 0;
    }
    ∷ record {
      size = 2;
      interval = 3;
      colours = 0 ∷ 0 ∷ 0 ∷ [];
      weighted = true;
      weights = 1431655766 ∷ [];
      number = 7;
      later = empty;
    }
    ∷ []

record Ended : Type 0 where
  number : ℕ
  later : Table

batch : Batch → Ended
batch c =
    record {
      number =
          batch_number (session 3) c.interval c.size 2 2 empty c.colours c.weighted c.weights;
      later = batch_later (session 3) c.interval c.size 2 2 empty c.colours c.weighted c.weights;
    }

worked_batches : map batch batches ≡ map (λ c. record { number = c.number; later = c.later }) batches
unfolding session batch batches empty is_interval in_force batch_number batch_later
    refuse when_done list_from sum_from all_from choices shift_in shift_of bin_of span_of choose shift_at
    grid_with grid_of grid_answer on_grid number_on bins_of place_of bin_at colour_place colour_at
    table_len is_sized view_of written between squared_span plus_span squares_span in_bounds span_at bin_sound total sound
    share adds sum_over weight_of loaded weighted_at batch_of scaled_weights load_number_on load_number_in load_later_in
worked_batches = refl

-- ---- replays
record Case : Type 0 where
  first : ℕ
  size : ℕ
  table : Table
  lent : Recorded
  answer : SessionAnswer
  later : Table
  bytes : List ℕ

-- begun with 3: a batch of 3; one of 1, the wrong interval; a reload to 4,096; one to 0, refused, so that 4,096 stays
-- in force; a batch whose scaled total is 2^32; one that says 4,097; one of 4,096
entries : List ℕ
entries =
    1 ∷ 3 ∷ 1 ∷ 1 ∷ 1 ∷ 1 ∷ 0 ∷ 4096 ∷ 0 ∷ 0 ∷ 0 ∷ 0 ∷ 1 ∷ 4096 ∷ 1 ∷ 1 ∷ 4097 ∷ 1 ∷ 1 ∷ 4096 ∷ 1 ∷ []

colours : List ℕ
colours = 200 ∷ 9 ∷ 100 ∷ 1 ∷ 1 ∷ 1 ∷ 0 ∷ 0 ∷ 0 ∷ 7 ∷ 7 ∷ 7 ∷ 0 ∷ 0 ∷ 255 ∷ []

weights : List ℕ
weights = 2 ∷ 5 ∷ 1048576 ∷ 9 ∷ 1 ∷ []

untold : List ℕ
untold = replicate 9 77

all : Recorded
all = recorded entries colours weights untold

-- a replay that is refused
refused : ℕ → ℕ → ℕ → Table → Recorded → Case
refused number first size t r =
    record {
      first = first;
      size = size;
      table = t;
      lent = r;
      answer = answered number 0;
      later = t;
      bytes = r.answers;
    }

cases : List Case
cases =
    -- (200, 9, 100) six times at place 4 and (0, 0, 255) 4,096 times at place 1; two bytes past the entries stay
    record {
      first = 3;
      size = 2;
      table = empty;
      lent = all;
      answer = answered 0 4096;
      later = replicate 5 0 ++ (4096 ∷ 0 ∷ 0 ∷ 1044480 ∷ 266342400
          ∷ (replicate 10 0 ++ (6 ∷ 1200 ∷ 54 ∷ 600 ∷ 300486 ∷ replicate 15 0)));
      bytes = 0 ∷ 14 ∷ 0 ∷ 13 ∷ 7 ∷ 13 ∷ 0 ∷ 77 ∷ 77 ∷ [];
    }
    -- 13 on the first interval, then 1, 5 and 6
    ∷ refused 13 0 1 empty all
    ∷ refused 1 3 1 empty all
    ∷ refused 6 3 2 (1 ∷ replicate 39 200) all
    -- a table, entries, colours, weights and answer bytes of another length
    ∷ refused 5 3 2 (0 ∷ []) all
    ∷ refused 5 3 2 empty (recorded (0 ∷ 1 ∷ []) [] [] untold)
    ∷ refused 5 3 2 empty (recorded entries (0 ∷ colours) weights untold)
    ∷ refused 5 3 2 empty (recorded entries colours (0 ∷ weights) untold)
    ∷ refused 5 3 2 empty (recorded entries colours weights (replicate 6 77))
    -- another kind, and a reload with colours
    ∷ refused 5 3 2 empty (recorded (2 ∷ 3 ∷ 0 ∷ []) [] [] untold)
    ∷ refused 5 3 2 empty (recorded (0 ∷ 3 ∷ 1 ∷ []) (9 ∷ 9 ∷ 9 ∷ []) (1 ∷ []) untold)
    ∷ []

record Outcome : Type 0 where
  answer : SessionAnswer
  later : Table
  bytes : List ℕ

replay : Case → Outcome
replay c =
    record {
      answer = replay_answer c.first c.size 2 2 c.table c.lent;
      later = replay_table c.first c.size 2 2 c.table c.lent;
      bytes = replay_bytes c.first c.size 2 2 c.table c.lent;
    }

worked_replays : map replay cases
    ≡ map (λ c. record { answer = c.answer; later = c.later; bytes = c.bytes }) cases
unfolding session answered empty entries colours weights untold all refused cases replay
    is_interval interval_number reloaded in_force batch_number batch_later
    kind_at interval_at count_at colours_before is_entry entries_fit entry_at entries_of entry_number entry_later stands_after
    answers_to lent_fits replay_number_on replay_number replayed replay_answer replay_table replay_bytes
    refuse when_done list_from sum_from all_from choices shift_in shift_of bin_of span_of choose shift_at
    grid_with grid_of grid_answer on_grid number_on bins_of place_of bin_at colour_place colour_at
    table_len is_sized view_of written between squared_span plus_span squares_span in_bounds span_at bin_sound total sound
    share adds sum_over weight_of loaded weighted_at batch_of scaled_weights load_number_on load_number_in load_later_in
worked_replays = refl
