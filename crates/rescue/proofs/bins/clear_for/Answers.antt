-- `rescue::bins::clear_for` meets its contract: five zeros where there is a reason, else nothing.
-- Assumes nothing.
use mathlib.Core.Path.{refl, sym, ap, subst, ◌∙◌}
use lib.Dec.{lit<}
use Rattle.table.specs.Cell.{cell_of}
use Rattle.table.specs.Table.{put_at, Held}
use Rattle.table.proofs.Cells.{zero_cell_lem, number_cell}
use Rattle.rescue.specs.Inner.{cleared}
use Rattle.rescue.proofs.Walks.{told_some, told_none}
use Rattle.rescue.proofs.bins.clear_for.Goals as goal

zeros_held : Held (cell_of (λ j. 0))
zeros_held = record { fits = λ j h. rw (number_cell (λ k. 0) j h) (lit< tt) }

pub put_at-requires : goal.put_at-requires
put_at-requires c = (c.requires, subst Held (sym zero_cell_lem) zeros_held)

pub returns-then-is_some : goal.returns-then-is_some
unfolding cleared
returns-then-is_some c =
    let a = c.args in
    c.put_at.ensures
    ∙ ap (put_at a.table.now a.p) zero_cell_lem
    ∙ rw (told_some a.reason c.if-is_some.ensures) refl

pub returns-else-is_some : goal.returns-else-is_some
unfolding cleared
returns-else-is_some c = rw (told_none c.args.reason (sym c.if-is_some.ensures)) refl
