-- What the crate's own functions are told of merging. Definitions only.
use Rattle.std.specs.Prelude.{◌≡◌, true, ◌+◌, ◌≤◌}
use Rattle.grid.specs.declared.place.Grid.{Grid}
use Rattle.table.specs.Layouts.{Layout}
use Rattle.table.specs.Layout.{TableIn, TableOfIn, view_in}
use Rattle.table.specs.Sound.{limit_of, sound, total}

-- a second table can be added into a first: both are sound, and the total fits
pub record MergeFits (l : Layout) (g : Grid) (t s : TableIn l) : Type 0 where
  pub first : TableOfIn l g t
  pub second : TableOfIn l g s
  pub first_sound : sound (limit_of l) g (view_in l t) ≡ true
  pub second_sound : sound (limit_of l) g (view_in l s) ≡ true
  pub under : total g (view_in l t) + total g (view_in l s) ≤ limit_of l
