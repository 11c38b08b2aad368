-- Comparing two tables (Rules, Compare; Rules, Answers), over what they hold. Signed numbers are the library's
-- integers. Definitions only.
use Rattle.std.specs.Prelude.{Bool, not, ◌&&◌, cond, List, ℕ, zero, suc, ◌/◌, ◌%◌, eqb, ℤ, pos, ◌-ℤ◌, length}
use Rattle.grid.specs.declared.place.Grid.{Grid}
use Rattle.basics.specs.Answer.{refuse, when_done}
use Rattle.basics.specs.Range.{list_from, sum_from, all_from}
use Rattle.grid.specs.Grid.{grid_of, on_grid, number_on, bins_of}
use Rattle.table.specs.Cell.{View}
use Rattle.table.specs.Table.{Table, table_len, is_sized, view_of}
use Rattle.table.specs.Sound.{limit, sound, unsound_number}
use Rattle.compare.specs.declared.call.Compared.{Compared}

-- ---- what is compared: a first and a second view
-- "the five differences, second minus first"
unfoldable pub difference : View → View → ℕ → ℕ → ℤ
difference v u p j = pos (u p j) -ℤ pos (v p j)

-- "A bin differs where one of its five numbers does"
unfoldable pub differs : View → View → ℕ → Bool
differs v u p = not (all_from 0 5 (λ j. eqb (v p j) (u p j)))

-- "how many bins differ"
unfoldable pub differing : ℕ → View → View → ℕ
differing bins v u = sum_from 0 bins (λ p. cond (differs v u p) 1 0)

-- the first of n numbers from i on for which the test holds, or the number past them
unfoldable pub first_from : ℕ → ℕ → (ℕ → Bool) → ℕ
first_from i zero f = i
first_from i (suc n) f = cond (f i) i (first_from (suc i) n f)

-- "the place of the first that does. If none differs, the place is the number of bins."
unfoldable pub first_differing : ℕ → View → View → ℕ
first_differing bins v u = first_from 0 bins (differs v u)

-- the list of differences, "from 5·place on" those of a bin
unfoldable pub differences_of : ℕ → View → View → List ℤ
differences_of bins v u = list_from 0 (table_len bins) (λ i. difference v u (i / 5) (i % 5))

-- ---- the call
-- the answer on an accepted grid: a limit, whether all lengths are right, and what the tables hold; "either table
-- unsound is 6"
unfoldable pub compare_number_on : ℕ → Grid → Bool → View → View → ℕ
compare_number_on most g sized v u =
    refuse (not sized) 5
    (refuse (not (sound most g v && sound most g u)) unsound_number 0)

-- "both tables and the list of differences exactly 5·bins"
unfoldable pub all_sized : ℕ → Table → Table → List ℤ → Bool
all_sized bins t s l = (is_sized t bins && is_sized s bins) && eqb (length l) (table_len bins)

-- that of tables in the wide layout
unfoldable pub compare_on : Table → Table → List ℤ → Grid → ℕ
compare_on t s l g = compare_number_on limit g (all_sized (bins_of g) t s l) (view_of t) (view_of s)

unfoldable pub compare_number : ℕ → ℕ → ℕ → Table → Table → List ℤ → ℕ
compare_number b1 b2 b3 t s l = number_on (grid_of b1 b2 b3) (compare_on t s l)

-- what comes of a comparison that is done, from the number of bins and what the tables hold, and of one that is refused
unfoldable pub compared : {A : Type 0} → ℕ → ℕ → ℕ → Table → Table → List ℤ → (ℕ → View → View → A) → A → A
compared b1 b2 b3 t s l done refused =
    on_grid (grid_of b1 b2 b3) refused
    (λ g. when_done (compare_on t s l g) (done (bins_of g) (view_of t) (view_of s)) refused)

-- what it hands back; "A refused comparison hands back its answer and two zeros."
unfoldable pub compare_record : ℕ → ℕ → ℕ → Table → Table → List ℤ → Compared
compare_record b1 b2 b3 t s l =
    record {
      number = compare_number b1 b2 b3 t s l;
      differ = compared b1 b2 b3 t s l differing 0;
      first = compared b1 b2 b3 t s l first_differing 0;
    }

-- the list of differences afterwards
unfoldable pub compare_later : ℕ → ℕ → ℕ → Table → Table → List ℤ → List ℤ
compare_later b1 b2 b3 t s l = compared b1 b2 b3 t s l differences_of l
