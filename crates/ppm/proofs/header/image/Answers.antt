-- `ppm::header::image` meets its contract.
-- Assumes nothing.
use mathlib.Core.Path.{◌≡◌, sym, ◌∙◌}
use mathlib.Core.Bool.{true}
use native.Mathlib.Omega.{arith}
use lib.ListN.{get_or}
use Rattle.ppm.specs.Header.{is_blank, is_side}
use Rattle.ppm.proofs.Headers.{image_cut, image_no_blank, image_no_width, image_no_height, image_maximum, image_is}
use Rattle.ppm.proofs.header.image.Goals.{Else-not-is_side-2, then-file-end-via-then-file-end, then-file-end-via-else-file-end+then-not-is_blank, then-file-end-via-else-file-end+else-not-is_blank+then-not-is_side, then-file-end-via-else-file-end+else-not-is_blank+else-not-is_side+then-not-is_side-2}
use Rattle.ppm.proofs.header.image.Goals as goal

pub returns-then-file-end : goal.returns-then-file-end
returns-then-file-end c =
    let a = c.args in
    elim c.then-file-end.branch [
      | then-file-end-via-then-file-end w ↦
          sym (image_cut a.file.now a.width a.height a.maximum a.end c.requires (λ h. omega (arith, w.if-file-end.true)))
      | then-file-end-via-else-file-end+then-not-is_blank w ↦
          sym (image_no_blank a.file.now a.width a.height a.maximum a.end (omega (arith, w.if-file-end.false))
          (sym w.is_blank.ensures ∙ w.if-not-is_blank.true))
      | then-file-end-via-else-file-end+else-not-is_blank+then-not-is_side w ↦
          sym (image_no_width a.file.now a.width a.height a.maximum a.end (omega (arith, w.if-file-end.false))
          (sym w.is_blank.ensures ∙ w.if-not-is_blank.false) (sym w.is_side.ensures ∙ w.if-not-is_side.true))
      | then-file-end-via-else-file-end+else-not-is_blank+else-not-is_side+then-not-is_side-2 w ↦
          sym (image_no_height a.file.now a.width a.height a.maximum a.end (omega (arith, w.if-file-end.false))
          (sym w.is_blank.ensures ∙ w.if-not-is_blank.false) (sym w.is_side.ensures ∙ w.if-not-is_side.false)
          (sym w.is_side-else-not-is_side.ensures ∙ w.if-not-is_side-2.true))
    ]

-- whitespace stands at the place, and the sides are sides
blank : (f : Else-not-is_side-2) → is_blank (get_or f.args.file.now f.args.end 0) ≡ true
blank f = sym f.is_blank.ensures ∙ f.if-not-is_blank.false

wide : (f : Else-not-is_side-2) → is_side f.args.width ≡ true
wide f = sym f.is_side.ensures ∙ f.if-not-is_side.false

high : (f : Else-not-is_side-2) → is_side f.args.height ≡ true
high f = sym f.is_side-else-not-is_side.ensures ∙ f.if-not-is_side-2.false

pub returns-then-maximum-ne255 : goal.returns-then-maximum-ne255
returns-then-maximum-ne255 c =
    let f = (goal.at-returns-then-maximum-ne255 c).Else-not-is_side-2 in
    let a = c.args in
    sym (image_maximum a.file.now a.width a.height a.maximum a.end (omega (arith, f.if-file-end.false)) (blank f) (wide f)
    (high f) c.if-maximum-ne255.true)

pub returns : goal.returns
returns c =
    let f = (goal.at-returns c).Else-not-is_side-2 in
    let a = c.args in
    sym (image_is a.file.now a.width a.height a.maximum a.end (omega (arith, f.if-file-end.false)) (blank f) (wide f)
    (high f) c.if-maximum-ne255.false)
