-- `seluvava::arrays::put_box` meets its contract: six bytes, written where they stand.
-- Assumes nothing.
use mathlib.Core.Path.{sym}
use native.Mathlib.Omega.{arith}
use lib.ListN.{length-set}
use Rattle.seluvava.proofs.Boxes.{six_bytes}
use Rattle.seluvava.proofs.arrays.put_box.Goals as goal

pub bounds-boxes-at-2 : goal.bounds-boxes-at-2
bounds-boxes-at-2 c = simp length-set (omega arith)

pub bounds-boxes-at-3 : goal.bounds-boxes-at-3
bounds-boxes-at-3 c = simp length-set (omega arith)

pub bounds-boxes-at-4 : goal.bounds-boxes-at-4
bounds-boxes-at-4 c = simp length-set (omega arith)

pub bounds-boxes-at-5 : goal.bounds-boxes-at-5
bounds-boxes-at-5 c = simp length-set (omega arith)

pub returns : goal.returns
returns c = sym (six_bytes _ _ _)
