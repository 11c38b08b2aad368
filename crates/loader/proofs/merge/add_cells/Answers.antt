-- `loader::merge::add_cells` meets its contract: after p places the table holds its first p cells with those of the
-- second added.
-- Assumes nothing.
use mathlib.Core.Path.{◌≡◌}
use native.Mathlib.Omega.{arith}
use Rattle.grid.specs.Grid.{bins_of}
use Rattle.table.specs.Layout.{laid_view}
use Rattle.table.proofs.Layouts.{cell_in}
use Rattle.loader.proofs.Merging.{none_added, one_added, can_add, all_added, merge_sound}
use Rattle.loader.proofs.merge.add_cells.Goals as goal

pub loop-p-init : goal.loop-p-init
loop-p-init g c = none_added _ _ _ _ c.requires.first.lent

pub cell-c-requires : goal.cell-c-requires
cell-c-requires g c =
    cell_in g.L.Layout.layout _ _ c.requires.second.lent c.loop-p.p (omega (arith, c.bins-p-end.ensures))

pub add_at-requires : goal.add_at-requires
add_at-requires g c =
    let l = g.L.Layout.layout in
    let a = c.args in
    let both =
    merge_sound (record { holds = c.requires.first_sound }) (record { holds = c.requires.second_sound })
    c.requires.under in
    can_add (laid_view l a.small.now a.large.now) (laid_view l a.smallsecond.now a.largesecond.now) c.loop-p.p
    c.loop-p.invariant (omega (arith, c.bins-p-end.ensures)) c.cell-c.ensures c.requires.first.accepted both
    (omega (arith, c.bins-p-end.ensures))

pub loop-p-preserved : goal.loop-p-preserved
loop-p-preserved g c =
    let l = g.L.Layout.layout in
    let a = c.args in
    rw c.add_at.ensures
    (one_added (laid_view l a.small.now a.large.now) (laid_view l a.smallsecond.now a.largesecond.now) c.loop-p.p
    c.loop-p.invariant (omega (arith, c.bins-p-end.ensures)) c.cell-c.ensures)

pub returns : goal.returns
returns g c =
    let l = g.L.Layout.layout in
    let a = c.args in
    let all : c.loop-p.p ≡ bins_of a.g = omega (arith, c.bins-p-end.ensures) in
    all_added (laid_view l a.small.now a.large.now) (laid_view l a.smallsecond.now a.largesecond.now)
    (rw all at c.loop-p.invariant)
