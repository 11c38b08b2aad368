-- `rescue::bins::walk_plane` meets its contract: after gr rows the walk stands where the next row begins.
-- Assumes nothing.
use mathlib.Core.Path.{◌≡◌, refl, ap}
use Prim.Native.Nat.{ℕ}
use native.Mathlib.Omega.{arith}
use Rattle.grid.specs.Grid.{place_of}
use Rattle.rescue.proofs.Walks.{onward_none, onward_join, onward_at, row_end}
use Rattle.rescue.proofs.bins.walk_plane.Goals as goal

pub loop-gr-init : goal.loop-gr-init
loop-gr-init c =
    onward_none (place_of c.args.spans.now.g c.args.r 0 0) c.requires.row.table.lent c.requires.list c.requires.row.under

pub walk_row-total-requires : goal.walk_row-total-requires
walk_row-total-requires c =
    let l = c.loop-gr in
    let a = c.requires.row.table.accepted in record {
      row = record {
        table = record { accepted = a; lent = l.invariant.lent };
        inside =
            record {
              accepted = a;
              one = c.requires.row.inside.one;
              two = c.loop-gr-test.true;
              three = c.requires.row.inside.three;
            };
        under = l.invariant.under;
      };
      list = l.invariant.list;
    }

pub loop-gr-preserved : goal.loop-gr-preserved
loop-gr-preserved c =
    let l = c.loop-gr in
    let more = onward_at c.walk_row-total.ensures refl (row_end c.args.spans.now.g c.args.r l.gr) in
    onward_join l.invariant more

pub returns : goal.returns
returns c =
    let l = c.loop-gr in
    let g = c.args.spans.now.g in
    let all : l.gr ≡ g.size2 = omega arith in
    onward_at l.invariant refl (ap (λ (n : ℕ). place_of g c.args.r n 0) all)
