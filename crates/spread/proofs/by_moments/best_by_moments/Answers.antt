-- `spread::by_moments::best_by_moments` meets its contract: a dimension of one bin has no position; else after each bin
-- the best is that of the positions so far.
-- Assumes nothing.
use Rattle.std.proofs.Common.{◌≡◌, sym, ◌∙◌, ◌+◌, arith}
use Rattle.table.specs.Layout.{laid_view}
use Rattle.boxes.specs.Box.{min_at, max_at}
use Rattle.spread.specs.Cut.{best_in, better}
use Rattle.spread.proofs.Choose.{later_is_better, earlier_is_better, run_none, run_next, run_whole}
use Rattle.spread.proofs.by_moments.best_by_moments.Goals.{then-later_wins, else-later_wins}
use Rattle.spread.proofs.by_moments.best_by_moments.Goals as goal

pub returns-then-end-first-eq1 : goal.returns-then-end-first-eq1
unfolding best_in
returns-then-end-first-eq1 g c =
    let a = c.args in
    run_none a.g (laid_view g.L.Layout.layout a.small.now a.large.now) a.x a.dimension
    (min_at a.x a.dimension + 1) (max_at a.x a.dimension) (omega (arith, c.requires.can_sum.1.some a.dimension))

pub loop-bin-init : goal.loop-bin-init
loop-bin-init g c =
    let a = c.args in
    run_none a.g (laid_view g.L.Layout.layout a.small.now a.large.now) a.x a.dimension (min_at a.x a.dimension + 1)
    (c.first_bin-first.result + 1) (omega arith)

pub loop-bin-preserved : goal.loop-bin-preserved
loop-bin-preserved g c =
    let a = c.args in
    let l = c.loop-bin in
    let won : c.if-later_wins.best ≡ better l.best c.position_at-later.result =
    elim c.if-later_wins.branch [
      | then-later_wins w ↦
          w.best-is ∙ later_is_better l.best _ (sym c.later_wins.ensures ∙ w.if-later_wins.true)
      | else-later_wins w ↦
          w.best-is ∙ earlier_is_better l.best _ (sym c.later_wins.ensures ∙ w.if-later_wins.false)
    ]
    in
    run_next a.g (laid_view g.L.Layout.layout a.small.now a.large.now) a.x a.dimension (min_at a.x a.dimension + 1) l.bin
    (omega arith) l.invariant c.position_at-later.ensures won

pub returns : goal.returns
returns g c =
    let a = c.args in
    run_whole a.g (laid_view g.L.Layout.layout a.small.now a.large.now) a.x a.dimension
    (omega (arith, c.requires.can_sum.1.some a.dimension)) c.loop-bin.invariant
