-- `cutter::map::fill_box` meets its contract: after each plane the planes so far are filled.
-- Assumes nothing.
use mathlib.Core.Path.{◌≡◌, ap, ◌∙◌}
use native.Mathlib.Omega.{arith}
use lib.ListN.{length}
use Rattle.basics.specs.Dimension.{choose}
use Rattle.boxes.specs.Box.{min_at, max_at}
use Rattle.boxes.proofs.Within.{sides}
use Rattle.cutter.specs.Inner.{fill_of}
use Rattle.cutter.proofs.Filled.{length_fill, slices_none, slices_more, slices_all}
use Rattle.cutter.proofs.map.fill_box.Goals as goal

pub loop-r-init : goal.loop-r-init
unfolding min_at choose
loop-r-init c = slices_none c.args.g c.args.x 0 _ _

pub fill_plane-requires : goal.fill_plane-requires
fill_plane-requires c =
    let l = c.loop-r in
    record {
      within = c.requires.0;
      from = omega arith;
      before = c.loop-r-test.true;
      lent = ap length l.invariant ∙ length_fill _ _ _ ∙ c.requires.1;
    }

pub loop-r-preserved : goal.loop-r-preserved
unfolding min_at choose
loop-r-preserved c =
    let l = c.loop-r in
    slices_more c.args.g c.args.x 0 c.args.index c.args.map.now l.r (omega arith) l.invariant c.fill_plane.ensures

pub returns : goal.returns
unfolding fill_of max_at choose
returns c =
    let l = c.loop-r in
    let all : l.r ≡ c.args.x.r1 = omega (arith, (sides c.requires.0).one) in
    l.invariant ∙ slices_all c.args.g c.args.x 0 c.args.index c.args.map.now l.r all
