-- `table::narrow::put_narrow` meets its contract: four numbers of one list and one of the other, written where they stand.
-- Assumes nothing.
use Rattle.std.proofs.Common.{refl, arith, length-set}
use Rattle.table.specs.Narrow.{narrow_put}
use Rattle.table.proofs.narrow.put_narrow.Goals as goal

pub bounds-sums-at-2 : goal.bounds-sums-at-2
bounds-sums-at-2 c = simp length-set (omega arith)

pub bounds-sums-at-3 : goal.bounds-sums-at-3
bounds-sums-at-3 c = simp length-set (omega arith)

pub bounds-sums-at-4 : goal.bounds-sums-at-4
bounds-sums-at-4 c = simp length-set (omega arith)

pub returns : goal.returns
unfolding narrow_put
returns c = refl
