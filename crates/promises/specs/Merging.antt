-- Two tables merged in either order, and three (Rules, Merge). Definitions only.
use Rattle.std.specs.Prelude.{◌≡◌, ℕ}
use Rattle.table.specs.Layouts.{Layout}
use Rattle.table.specs.Layout.{TableIn}
use Rattle.loader.specs.Merge.{merge_number_in, merge_later_in}

-- two tables merged either way: both are done, and leave the same
pub record Commutes (l : Layout) (b1 b2 b3 : ℕ) (t s : TableIn l) : Type 0 where
  pub second_into_first : merge_number_in l b1 b2 b3 t s ≡ 0
  pub first_into_second : merge_number_in l b1 b2 b3 s t ≡ 0
  pub same : merge_later_in l b1 b2 b3 t s ≡ merge_later_in l b1 b2 b3 s t

-- three tables merged either way: all four merges are done, and leave the same
pub record Associates (l : Layout) (b1 b2 b3 : ℕ) (t s u : TableIn l) : Type 0 where
  pub first_two : merge_number_in l b1 b2 b3 t s ≡ 0
  pub then_third : merge_number_in l b1 b2 b3 (merge_later_in l b1 b2 b3 t s) u ≡ 0
  pub last_two : merge_number_in l b1 b2 b3 s u ≡ 0
  pub into_first : merge_number_in l b1 b2 b3 t (merge_later_in l b1 b2 b3 s u) ≡ 0
  pub same : merge_later_in l b1 b2 b3 (merge_later_in l b1 b2 b3 t s) u
      ≡ merge_later_in l b1 b2 b3 t (merge_later_in l b1 b2 b3 s u)
