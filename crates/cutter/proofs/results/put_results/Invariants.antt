-- `cutter::results::put_results` meets its contract: after each box, colours, counts and remainders are those of the
-- boxes so far.
-- Assumes nothing.
use mathlib.Core.Path.{◌≡◌}
use lib.ListN.{take}
use Rattle.table.specs.Layout.{laid_view}
use Rattle.cutter.specs.Palette.{palette_later, counts_later, remainders_later}
use Rattle.cutter.specs.Cut.{list_of}
use Rattle.cutter.proofs.results.put_results.Given as goal

abbrev pub invariant-loop-i : goal.invariant-loop-i
invariant-loop-i g l =
    let boxes = take l.i (list_of l.fn.b.boxes l.fn.b.places) in
    let v = laid_view g.L.Layout.layout l.fn.small l.fn.large in
    (l.palette ≡ palette_later l.fn.g v boxes l.fn.palette)
    × (l.counts ≡ counts_later l.fn.g v boxes l.fn.counts)
    × (l.remainders ≡ remainders_later l.fn.g v boxes l.fn.remainders)
