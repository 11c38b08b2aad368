-- What the crate's own function is told of a widening. Definitions only.
use Rattle.std.specs.Prelude.{◌≡◌, true}
use Rattle.grid.specs.declared.place.Grid.{Grid}
use Rattle.grid.specs.Grid.{bins_of}
use Rattle.table.specs.Layouts.{Narrow}
use Rattle.table.specs.Table.{Table, Sized}
use Rattle.table.specs.Narrow.{NarrowTable, narrow_view}
use Rattle.table.specs.Layout.{TableOfIn}
use Rattle.table.specs.Sound.{limit_of, sound}

-- a sound narrow table of a grid, and a list for the wide one
pub record Widens (g : Grid) (t : NarrowTable) (old : Table) : Type 0 where
  pub table : TableOfIn Narrow g t
  pub list : Sized old (bins_of g)
  pub is_sound : sound (limit_of Narrow) g (narrow_view t) ≡ true
