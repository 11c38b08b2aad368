-- `table::rows::row_total` meets its contract: after b bins all of them are in bounds and the total is that of their
-- weights.
-- Assumes nothing.
use Rattle.std.proofs.Common.{◌≡◌, ◌+◌, ◌*◌, ◌≤◌, true}
use Rattle.basics.specs.Range.{sum_from, all_from}
use Rattle.table.specs.Sound.{limit, bin_sound}
use Rattle.table.specs.Layout.{laid_view}
use Rattle.table.proofs.rows.row_total.Given as goal

abbrev pub invariant-loop-b : goal.invariant-loop-b
invariant-loop-b g l =
    let v = laid_view g.L.Layout.layout l.small l.large in
    (l.total ≡ l.had + sum_from l.start l.b (λ q. v q 0))
    × (all_from l.start l.b (bin_sound l.spans.g v) ≡ true)
    × (l.total ≤ limit + l.b * limit)
