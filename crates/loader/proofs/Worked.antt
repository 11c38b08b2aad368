-- Loads and merges beside those of the page (Rules, Cases), computed on the definitions.
-- Assumes nothing.
use mathlib.Core.Path.{◌≡◌, refl}
use mathlib.Core.Bool.{Bool, true, false}
use mathlib.Core.List.{List, [], ◌∷◌, ◌++◌, map}
use Prim.Native.Nat.{ℕ}
use lib.ListN.{replicate}
use Rattle.basics.specs.Answer.{refuse, when_done}
use Rattle.basics.specs.Range.{list_from, sum_from, all_from}
use Rattle.grid.specs.Size.{choices, shift_in, shift_of, bin_of, span_of}
use Rattle.basics.specs.Dimension.{choose}
use Rattle.grid.specs.Grid.{shift_at, grid_with, grid_of, grid_answer, on_grid, number_on, bins_of, place_of, bin_at}
use Rattle.grid.specs.Grid.{colour_place}
use Rattle.pixels.specs.Colour.{colour_at}
use Rattle.table.specs.Table.{table_len, is_sized, view_of, written}
use Rattle.table.specs.Sound.{between, squared_span, plus_span, squares_span, in_bounds, span_at, bin_sound, total, sound}
use Rattle.adder.specs.Batch.{share, adds, sum_over, weight_of, loaded, weighted_at, batch_of}
use Rattle.loader.specs.Load.{load_number_on, load_number_in, load_later_in, load_number, load_later}
use Rattle.loader.specs.Merge.{merged, merge_number_on, merge_number_in, merge_later_in, merge_number, merge_later}

-- an answer, and the table then
record Outcome : Type 0 where
  number : ℕ
  later : List ℕ

record Load : Type 0 where
  table : List ℕ
  colours : List ℕ
  weighted : Bool
  weights : List ℕ
  expected : Outcome

loads : Load → Outcome
loads c =
    record {
      number = load_number 2 2 2 c.table c.colours c.weighted c.weights;
      later = load_later 2 2 2 c.table c.colours c.weighted c.weights;
    }

-- (9, 9, 9) as often as a table can hold it: sums 9·n, squares 243·n
full : List ℕ
full = 4294967295 ∷ 38654705655 ∷ 38654705655 ∷ 38654705655 ∷ 1043677052685 ∷ replicate 35 0

-- (200, 9, 100) twice, in bin (1, 0, 0), at place 4
one : List ℕ
one = replicate 20 0 ++ (2 ∷ 400 ∷ 18 ∷ 200 ∷ 100162 ∷ replicate 15 0)

cases : List Load
cases =
    -- bytes not in threes
    record {
      table = one;
      colours = 1 ∷ 2 ∷ [];
      weighted = false;
      weights = [];
      expected = record { number = 3; later = one };
    }
    -- weights that do not pair
    ∷ record {
      table = one;
      colours = 1 ∷ 2 ∷ 3 ∷ [];
      weighted = true;
      weights = [];
      expected = record { number = 4; later = one };
    }
    -- a short table
    ∷ record {
      table = 1 ∷ [];
      colours = 1 ∷ 2 ∷ 3 ∷ [];
      weighted = false;
      weights = [];
      expected = record { number = 5; later = 1 ∷ [] };
    }
    -- an unsound one: (200, ..) cannot stand in bin 0
    ∷ record {
      table = 1 ∷ 200 ∷ replicate 38 0;
      colours = 1 ∷ 2 ∷ 3 ∷ [];
      weighted = false;
      weights = [];
      expected = record { number = 6; later = 1 ∷ 200 ∷ replicate 38 0 };
    }
    ∷ []

worked : map loads cases ≡ map (λ c. c.expected) cases
unfolding loads one cases refuse when_done list_from sum_from all_from choices shift_in shift_of bin_of span_of choose shift_at
    grid_with grid_of grid_answer on_grid number_on bins_of place_of bin_at colour_place colour_at
    table_len is_sized view_of written between squared_span plus_span squares_span in_bounds span_at bin_sound total sound
    share adds sum_over weight_of loaded weighted_at batch_of load_number_on load_number_in load_later_in
worked = refl

-- merged into itself, a table has each number twice; the full one passes the limit
worked_merge :
    (merge_number 2 2 2 one one ≡ 0)
    × (merge_later 2 2 2 one one ≡ replicate 20 0 ++ (4 ∷ 800 ∷ 36 ∷ 400 ∷ 200324 ∷ replicate 15 0))
    × (merge_number 2 2 2 one full ≡ 7)
unfolding full one refuse when_done list_from sum_from all_from choices shift_in shift_of span_of choose shift_at
    grid_with grid_of grid_answer on_grid number_on bins_of bin_at
    table_len is_sized view_of written between squared_span plus_span squares_span in_bounds span_at bin_sound total sound
    merged merge_number_on merge_number_in merge_later_in
worked_merge = (refl, refl, refl)
