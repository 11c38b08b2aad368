-- Rescues of small tables, computed on the definitions.
-- Assumes nothing.
use mathlib.Core.Path.{◌≡◌, refl}
use mathlib.Core.List.{List, [], ◌∷◌, ◌++◌, map}
use Prim.Native.Nat.{ℕ}
use lib.ListN.{replicate}
use Rattle.basics.specs.Answer.{refuse, when_done}
use Rattle.basics.specs.Range.{list_from, all_from}
use Rattle.basics.specs.Dimension.{choose}
use Rattle.grid.specs.Size.{choices, shift_in, shift_of, span_of}
use Rattle.grid.specs.Grid.{shift_at, grid_with, grid_of, grid_answer, on_grid, number_on, bins_of, bin_at}
use Rattle.table.specs.Table.{table_len, is_sized, view_of, written}
use Rattle.table.specs.Sound.{between, squared_span, plus_span, squares_span, in_bounds, span_at, bin_sound}
use Rattle.rescue.specs.Rescue.{keeps_bounds, reason_for, kept_before, reason_at, rescued, reasons_of}
use Rattle.rescue.specs.Rescue.{rescue_on, rescue_number, rescue_leaves, rescue_table, rescue_reasons}

-- the answer, and what is left
record Outcome : Type 0 where
  number : ℕ
  table : List ℕ
  reasons : List ℕ

record Case : Type 0 where
  size : ℕ
  table : List ℕ
  reasons : List ℕ
  expected : Outcome

outcome : Case → Outcome
outcome c =
    record {
      number = rescue_number 2 c.size 2 c.table c.reasons;
      table = rescue_table 2 c.size 2 c.table c.reasons;
      reasons = rescue_reasons 2 c.size 2 c.table c.reasons;
    }

-- (10, 20, 30) once, at place 0, and (200, 9, 100) twice, at place 4
night : List ℕ
night = (1 ∷ 10 ∷ 20 ∷ 30 ∷ 1400 ∷ replicate 15 0) ++ (2 ∷ 400 ∷ 18 ∷ 200 ∷ 100162 ∷ replicate 15 0)

-- it with one bit of its squares at place 4 flipped, the one of 2^40
flipped : List ℕ
flipped = (1 ∷ 10 ∷ 20 ∷ 30 ∷ 1400 ∷ replicate 15 0) ++ (2 ∷ 400 ∷ 18 ∷ 200 ∷ 1099511727938 ∷ replicate 15 0)

-- a bin that is nearly all a table may weigh; one of weight 10 that does not fit beside it, and one of weight 5 that
-- does; a weight that is too large alone; squares where there is no weight; and a last bin that does not fit either
heavy : List ℕ
heavy =
    (4294967290 ∷ 0 ∷ 0 ∷ 0 ∷ 0 ∷ 10 ∷ 0 ∷ 0 ∷ 1280 ∷ 163840 ∷ [])
    ++ (5 ∷ 0 ∷ 640 ∷ 0 ∷ 81920 ∷ 4294967296 ∷ 0 ∷ 549755813888 ∷ 549755813888 ∷ 140737488355328 ∷ [])
    ++ (0 ∷ 0 ∷ 0 ∷ 0 ∷ 0 ∷ 0 ∷ 0 ∷ 0 ∷ 0 ∷ 7 ∷ [])
    ++ (0 ∷ 0 ∷ 0 ∷ 0 ∷ 0 ∷ 1 ∷ 255 ∷ 255 ∷ 255 ∷ 195075 ∷ [])

-- what was lent
old : List ℕ
old = replicate 8 9

kept : ℕ → List ℕ → List ℕ → Outcome
kept n t l = record { number = n; table = t; reasons = l }

cases : List Case
cases =
    -- a sound table
    record {
      size = 2;
      table = night;
      reasons = old;
      expected = record { number = 0; table = night; reasons = replicate 8 0 };
    }
    ∷ record {
      size = 2;
      table = flipped;
      reasons = old;
      expected = record {
        number = 0;
        table = 1 ∷ 10 ∷ 20 ∷ 30 ∷ 1400 ∷ replicate 35 0;
        reasons = 0 ∷ 0 ∷ 0 ∷ 0 ∷ 1 ∷ 0 ∷ 0 ∷ 0 ∷ [];
      };
    }
    ∷ record {
      size = 2;
      table = heavy;
      reasons = old;
      expected = record {
        number = 0;
        table =
            (4294967290 ∷ replicate 9 0) ++ (5 ∷ 0 ∷ 640 ∷ 0 ∷ 81920 ∷ replicate 25 0);
        reasons = 0 ∷ 2 ∷ 0 ∷ 1 ∷ 0 ∷ 1 ∷ 0 ∷ 2 ∷ [];
      };
    }
    -- each refusal, where those after it apply too
    ∷ record { size = 1; table = []; reasons = []; expected = kept 1 [] [] }
    ∷ record { size = 2; table = []; reasons = []; expected = kept 5 [] [] }
    ∷ record { size = 2; table = flipped; reasons = 9 ∷ []; expected = kept 5 flipped (9 ∷ []) }
    ∷ []

worked : map outcome cases ≡ map (λ (c : Case). c.expected) cases
unfolding outcome cases night flipped heavy old kept rescue_table rescue_reasons rescue_leaves rescue_number rescue_on
    reasons_of rescued reason_at kept_before reason_for keeps_bounds list_from all_from refuse when_done number_on on_grid
    grid_answer grid_of grid_with shift_of shift_in choices shift_at choose bins_of bin_at span_of table_len is_sized view_of
    written between squared_span plus_span squares_span in_bounds span_at bin_sound
worked = refl
