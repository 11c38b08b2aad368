-- `cutter::map::fill_plane` meets its contract: after each row the rows so far are filled.
-- Assumes nothing.
use mathlib.Core.Path.{◌≡◌, ap, ◌∙◌}
use native.Mathlib.Omega.{arith}
use lib.ListN.{length}
use Rattle.basics.specs.Dimension.{choose}
use Rattle.boxes.specs.Box.{low_side, high_side, min_at, max_at}
use Rattle.boxes.proofs.Within.{sides}
use Rattle.boxes.specs.Holds.{slice}
use Rattle.cutter.proofs.Filled.{length_fill, slices_none, slices_all, row_inside, row_fits, row_small}
use Rattle.cutter.proofs.Filled.{row_filled}
use Rattle.cutter.proofs.map.fill_plane.Goals as goal

pub loop-gr-init : goal.loop-gr-init
unfolding slice low_side high_side min_at choose
loop-gr-init c = slices_none c.args.g (slice c.args.x 0 c.args.r) 1 _ _

pub place-at-requires : goal.place-at-requires
place-at-requires c = row_inside c.requires c.loop-gr.gr c.loop-gr-test.true

pub overflow_add-at : goal.overflow_add-at
overflow_add-at c =
    omega (
      arith,
      c.place-at.ensures,
      row_small c.requires c.loop-gr.gr c.loop-gr-test.true,
      (sides c.requires.within).three,
    )

pub overflow_add-at-in-loop-gr : goal.overflow_add-at-in-loop-gr
overflow_add-at-in-loop-gr c =
    omega (arith, c.place-at.ensures, row_small c.requires c.loop-gr.gr c.loop-gr-test.true)

pub fill-requires : goal.fill-requires
fill-requires c =
    let l = c.loop-gr in
    let lent : length l.map ≡ length c.args.map.now = ap length l.invariant ∙ length_fill _ _ _ in (
      omega (arith, (sides c.requires.within).three),
      omega (arith, lent, c.place-at.ensures, row_fits c.requires l.gr c.loop-gr-test.true),
    )

pub loop-gr-preserved : goal.loop-gr-preserved
unfolding slice low_side high_side choose
loop-gr-preserved c =
    let l = c.loop-gr in
    row_filled c.requires l.gr c.loop-gr-test.true c.args.index (omega arith) l.invariant c.place-at.ensures c.fill.ensures

pub returns : goal.returns
unfolding slice low_side high_side max_at choose
returns c =
    let l = c.loop-gr in
    let all : l.gr ≡ c.args.x.g1 = omega (arith, (sides c.requires.within).two) in
    l.invariant ∙ slices_all c.args.g (slice c.args.x 0 c.args.r) 1 c.args.index c.args.map.now l.gr all
