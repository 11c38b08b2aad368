-- `adder::shares::add_at` meets its contract: the cell that was there, with the other added, is written back.
-- Assumes nothing.
use Rattle.std.proofs.Common.{◌≡◌, sym, subst, ap, ◌∙◌, arith}
use Rattle.table.specs.declared.cell.Cell.{Cell}
use Rattle.table.specs.Cell.{SumsFit}
use Rattle.table.specs.Layout.{laid, put_in, HeldIn}
use Rattle.adder.proofs.shares.add_at.Goals as goal

pub cell-before-requires : goal.cell-before-requires
cell-before-requires g c = c.requires.cell

pub plus-both-requires : goal.plus-both-requires
plus-both-requires g c =
    subst (λ (x : Cell). SumsFit x c.args.c) (sym c.cell-before.ensures) c.requires.sums

pub put-requires : goal.put-requires
put-requires g c = (c.requires.cell, held_as (grind arith) c.requires.held)
  where
    held_as : {x y : Cell} → x ≡ y → HeldIn g.L.Layout.layout y → HeldIn g.L.Layout.layout x
    held_as e h = subst (HeldIn g.L.Layout.layout) (sym e) h

pub returns : goal.returns
returns g c =
    let l = g.L.Layout.layout in
    c.put.ensures ∙ ap (put_in l (laid l c.args.small.now c.args.large.now) c.args.place) (grind arith)
