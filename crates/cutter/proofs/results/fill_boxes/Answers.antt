-- `cutter::results::fill_boxes` meets its contract: after each box, the map is filled by the boxes so far.
-- Assumes nothing.
use mathlib.Core.Path.{refl, sym, ap, subst, ◌∙◌}
use mathlib.Core.List.{List}
use Prim.Native.Nat.{◌<◌}
use native.Mathlib.Omega.{arith}
use lib.ListN.{length}
use Rattle.boxes.specs.declared.sides.Bounds.{Bounds}
use Rattle.boxes.specs.Box.{no_box, Within}
use Rattle.cutter.specs.Inner.{fill_of, fill_from}
use Rattle.cutter.specs.Cut.{list_of}
use Rattle.cutter.proofs.Maps.{length_filled, filled_none, filled_next}
use Rattle.cutter.proofs.Listed.{list_length, list_item, take_listed}
use Rattle.cutter.proofs.results.fill_boxes.Goals as goal

pub loop-at-init : goal.loop-at-init
loop-at-init c = sym (filled_none _ 0 _)

pub fill_box-requires : goal.fill_box-requires
fill_box-requires c =
    let l = c.loop-at in
    let f = c.requires.0 in
    let t = c.loop-at-test.true in (
      subst (Within c.args.g) (sym (list_item f l.at t refl)) (f.within l.at t),
      ap length l.invariant ∙ length_filled c.args.g 0 _ c.args.map.now ∙ c.requires.1,
    )

pub loop-at-preserved : goal.loop-at-preserved
loop-at-preserved c =
    let l = c.loop-at in
    let f = c.requires.0 in
    let t = c.loop-at-test.true in
    let boxes = list_of c.args.b.now.boxes c.args.b.now.places in
    let here : l.at < length boxes = omega (arith, list_length f) in
    filled_next c.args.g boxes l.at no_box here c.args.map.now l.invariant
    (c.fill_box.ensures ∙ ap (λ (x : Bounds). fill_of c.args.g x l.at l.map) (list_item f l.at t refl))

pub returns : goal.returns
returns c =
    let l = c.loop-at in
    l.invariant
    ∙ ap (λ (xs : List Bounds). fill_from c.args.g 0 xs c.args.map.now) (take_listed c.requires.0 {i = l.at} (omega arith))
