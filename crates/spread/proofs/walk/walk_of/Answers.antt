-- `spread::walk_of` meets its contract: the two other dimensions, and the four corners in them.
-- Assumes nothing.
-- the box's ends in the other two dimensions
use mathlib.Core.Path.{◌≡◌, ap, ◌∙◌}
use Prim.Native.Nat.{◌≤◌}
use native.Mathlib.Omega.{arith}
use Rattle.grid.specs.Grid.{size_at}
use Rattle.boxes.specs.Box.{min_at, max_at}
use Rattle.spread.specs.Inner.{outer_of, inner_of, start_of, walk_of}
use Rattle.spread.proofs.walk.walk_of.Goals.{After-end_bin-inner_end, Start}
use Rattle.spread.proofs.walk.walk_of.Goals as goal

module _ (k : After-end_bin-inner_end) where
  abbrev s : Start
  s = (goal.at-After-end_bin-inner_end k).Start

  outer_first : k.first_bin-outer.result
      ≡ min_at s.args.x (outer_of s.args.dimension)
  outer_first =
      k.first_bin-outer.ensures
      ∙ ap (min_at s.args.x) k.outer_of.ensures

  inner_first : k.first_bin-inner.result
      ≡ min_at s.args.x (inner_of s.args.dimension)
  inner_first =
      k.first_bin-inner.ensures
      ∙ ap (min_at s.args.x) k.inner_of.ensures

  outer_end_lem : k.end_bin-outer_end.result ≡ max_at s.args.x (outer_of s.args.dimension)
  outer_end_lem =
      k.end_bin-outer_end.ensures ∙ ap (max_at s.args.x) k.outer_of-2.ensures

  inner_end_lem : k.end_bin-inner_end.result ≡ max_at s.args.x (inner_of s.args.dimension)
  inner_end_lem = k.end_bin-inner_end.ensures ∙ ap (max_at s.args.x) k.inner_of-2.ensures

  -- they fit the grid
  outer_first_fits : k.first_bin-outer.result ≤ size_at s.args.g
      (outer_of s.args.dimension)
  outer_first_fits =
      omega (
        arith,
        outer_first,
        s.requires.some (outer_of s.args.dimension),
        s.requires.fits
            (outer_of s.args.dimension),
      )

  inner_first_fits : k.first_bin-inner.result ≤ size_at s.args.g
      (inner_of s.args.dimension)
  inner_first_fits =
      omega (
        arith,
        inner_first,
        s.requires.some (inner_of s.args.dimension),
        s.requires.fits
            (inner_of s.args.dimension),
      )

  outer_end_fits : k.end_bin-outer_end.result ≤ size_at s.args.g (outer_of s.args.dimension)
  outer_end_fits = omega (arith, outer_end_lem, s.requires.fits (outer_of s.args.dimension))

  inner_end_fits : k.end_bin-inner_end.result ≤ size_at s.args.g (inner_of s.args.dimension)
  inner_end_fits = omega (arith, inner_end_lem, s.requires.fits (inner_of s.args.dimension))

pub stride_of-requires : goal.stride_of-requires
stride_of-requires c = c.requires.accepted

pub start_of-requires : goal.start_of-requires
start_of-requires c =
    let k = (goal.at-start_of-requires c).After-end_bin-inner_end in
    ((s k).requires.accepted, outer_end_fits k, inner_end_fits k)

pub start_of-requires-2 : goal.start_of-requires-2
start_of-requires-2 c =
    let k = (goal.at-start_of-requires-2 c).After-end_bin-inner_end in
    ((s k).requires.accepted, outer_first_fits k, inner_end_fits k)

pub start_of-requires-3 : goal.start_of-requires-3
start_of-requires-3 c =
    let k = (goal.at-start_of-requires-3 c).After-end_bin-inner_end in
    ((s k).requires.accepted, outer_end_fits k, inner_first_fits k)

pub start_of-requires-4 : goal.start_of-requires-4
start_of-requires-4 c =
    let k = (goal.at-start_of-requires-4 c).After-end_bin-inner_end in
    ((s k).requires.accepted, outer_first_fits k, inner_first_fits k)

pub returns : goal.returns
unfolding walk_of
returns c =
    let k = (goal.at-returns c).After-end_bin-inner_end in
    let g = (s k).args.g in
    let d = (s k).args.dimension in
    λ t.
    record {
      step = c.stride_of.ensures t;
      outer = outer_first k t;
      inner = inner_first k t;
      corner = (c.start_of.ensures ∙ (λ u. start_of g d (outer_end_lem k u) (inner_end_lem k u))) t;
      above = (c.start_of-2.ensures ∙ (λ u. start_of g d (outer_first k u) (inner_end_lem k u))) t;
      left = (c.start_of-3.ensures ∙ (λ u. start_of g d (outer_end_lem k u) (inner_first k u))) t;
      diagonal = (c.start_of-4.ensures ∙ (λ u. start_of g d (outer_first k u) (inner_first k u))) t;
    }
