-- `spread::by_bins::best_by_bins` meets its contract: after each bin the best is that of the positions so far.
-- Assumes nothing.
use Rattle.std.proofs.Common.{◌+◌, arith}
use Rattle.table.specs.Layout.{laid_view}
use Rattle.boxes.specs.Box.{min_at}
use Rattle.spread.proofs.Choose.{end_high, run_none, run_next, run_whole}
use Rattle.spread.proofs.by_bins.best_by_bins.Goals as goal

pub loop-bin-init : goal.loop-bin-init
loop-bin-init g c =
    let a = c.args in
    run_none a.g (laid_view g.L.Layout.layout a.small.now a.large.now) a.x a.dimension (min_at a.x a.dimension + 1)
    (c.first_bin-bin.result + 1) (omega arith)

pub overflow_step-bin : goal.overflow_step-bin
overflow_step-bin g c =
    let d = c.args.dimension in
    omega (arith, c.requires.within.some d, end_high c.requires.within d)

pub position_by_bins-requires : goal.position_by_bins-requires
position_by_bins-requires g c =
    let h = c.requires in
    (h.table, record { is_sound = h.is_sound; within = h.within; low = omega arith; high = omega arith })

pub loop-bin-preserved : goal.loop-bin-preserved
loop-bin-preserved g c =
    let a = c.args in
    run_next a.g (laid_view g.L.Layout.layout a.small.now a.large.now) a.x a.dimension (min_at a.x a.dimension + 1)
    c.loop-bin.bin (omega arith) c.loop-bin.invariant c.position_by_bins.ensures c.better-best.ensures

pub returns : goal.returns
returns g c =
    let a = c.args in
    run_whole a.g (laid_view g.L.Layout.layout a.small.now a.large.now) a.x a.dimension
    (omega (arith, c.requires.within.some a.dimension)) c.loop-bin.invariant
