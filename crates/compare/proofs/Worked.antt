-- Comparisons of small tables, computed on the definitions.
-- Assumes nothing.
use mathlib.Core.Path.{◌≡◌, refl}
use mathlib.Core.List.{List, [], ◌∷◌, ◌++◌, map}
use Prim.Native.Nat.{ℕ}
use lib.IntN.{ℤ, pos, negsuc}
use lib.ListN.{replicate}
use Rattle.basics.specs.Answer.{refuse, when_done}
use Rattle.basics.specs.Range.{list_from, sum_from, all_from}
use Rattle.grid.specs.Size.{choices, shift_in, shift_of, span_of}
use Rattle.basics.specs.Dimension.{choose}
use Rattle.grid.specs.Grid.{shift_at, grid_with, grid_of, grid_answer, on_grid, number_on, bins_of, bin_at}
use Rattle.table.specs.Table.{table_len, is_sized, view_of}
use Rattle.table.specs.Sound.{between, squared_span, plus_span, squares_span, in_bounds, span_at, bin_sound, total, sound}
use Rattle.compare.specs.declared.call.Compared.{Compared}
use Rattle.compare.specs.Compare.{difference, differs, differing, first_from, first_differing, differences_of}
use Rattle.compare.specs.Compare.{compare_number_on, all_sized, compare_on, compare_number, compared, compare_record}
use Rattle.compare.specs.Compare.{compare_later}

-- what is handed back, and the list then
record Outcome : Type 0 where
  back : Compared
  later : List ℤ

record Case : Type 0 where
  size : ℕ
  first : List ℕ
  second : List ℕ
  list : List ℤ
  expected : Outcome

outcome : Case → Outcome
outcome c =
    record {
      back = compare_record 2 c.size 2 c.first c.second c.list;
      later = compare_later 2 c.size 2 c.first c.second c.list;
    }

-- (10, 20, 30) once, at place 0, and (200, 9, 100) twice, at place 4
night : List ℕ
night = (1 ∷ 10 ∷ 20 ∷ 30 ∷ 1400 ∷ replicate 15 0) ++ (2 ∷ 400 ∷ 18 ∷ 200 ∷ 100162 ∷ replicate 15 0)

-- the second colour counted eight times as often
wrong : List ℕ
wrong = (1 ∷ 10 ∷ 20 ∷ 30 ∷ 1400 ∷ replicate 15 0) ++ (16 ∷ 3200 ∷ 144 ∷ 1600 ∷ 801296 ∷ replicate 15 0)

-- a weight with no sums
unsound : List ℕ
unsound = replicate 20 0 ++ (2 ∷ replicate 19 0)

-- what was lent
old : List ℤ
old = replicate 40 (negsuc 6)

kept : ℕ → Outcome
kept n = record { back = record { number = n; differ = 0; first = 0 }; later = old }

cases : List Case
cases =
    record {
      size = 2;
      first = night;
      second = wrong;
      list = old;
      expected = record {
        back = record { number = 0; differ = 1; first = 4 };
        later = replicate 20 (pos 0)
            ++ (pos 14 ∷ pos 2800 ∷ pos 126 ∷ pos 1400 ∷ pos 701134 ∷ replicate 15 (pos 0));
      };
    }
    -- the other order
    ∷ record {
      size = 2;
      first = wrong;
      second = night;
      list = old;
      expected = record {
        back = record { number = 0; differ = 1; first = 4 };
        later = replicate 20 (pos 0)
            ++ (negsuc 13 ∷ negsuc 2799 ∷ negsuc 125 ∷ negsuc 1399 ∷ negsuc 701133 ∷ replicate 15 (pos 0));
      };
    }
    -- a night and none
    ∷ record {
      size = 2;
      first = night;
      second = replicate 40 0;
      list = old;
      expected = record {
        back = record { number = 0; differ = 2; first = 0 };
        later = (negsuc 0 ∷ negsuc 9 ∷ negsuc 19 ∷ negsuc 29 ∷ negsuc 1399 ∷ replicate 15 (pos 0))
            ++ (negsuc 1 ∷ negsuc 399 ∷ negsuc 17 ∷ negsuc 199 ∷ negsuc 100161 ∷ replicate 15 (pos 0));
      };
    }
    -- the same night twice
    ∷ record {
      size = 2;
      first = night;
      second = night;
      list = old;
      expected =
          record { back = record { number = 0; differ = 0; first = 8 }; later = replicate 40 (pos 0) };
    }
    -- each refusal, where those after it apply too
    ∷ record { size = 1; first = []; second = unsound; list = old; expected = kept 1 }
    ∷ record { size = 2; first = []; second = unsound; list = old; expected = kept 5 }
    ∷ record { size = 2; first = unsound; second = []; list = old; expected = kept 5 }
    ∷ record {
      size = 2;
      first = unsound;
      second = unsound;
      list = [];
      expected = record { back = record { number = 5; differ = 0; first = 0 }; later = [] };
    }
    ∷ record { size = 2; first = unsound; second = night; list = old; expected = kept 6 }
    ∷ record { size = 2; first = night; second = unsound; list = old; expected = kept 6 }
    ∷ []

worked : map outcome cases ≡ map (λ (c : Case). c.expected) cases
unfolding outcome cases night wrong unsound old kept compare_record compare_later compared compare_number compare_on
    all_sized compare_number_on differences_of first_differing first_from differing differs difference list_from sum_from
    all_from refuse when_done number_on on_grid grid_answer grid_of grid_with shift_of shift_in choices shift_at choose bins_of
    bin_at span_of table_len is_sized view_of between squared_span plus_span squares_span in_bounds span_at bin_sound total sound
worked = refl
