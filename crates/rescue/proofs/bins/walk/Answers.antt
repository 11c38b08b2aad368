-- `rescue::bins::walk` meets its contract: after r planes the walk stands where the next plane begins.
-- Assumes nothing.
use mathlib.Core.Path.{◌≡◌, refl, sym, ap, ◌∙◌}
use Prim.Native.Nat.{ℕ}
use native.Mathlib.Omega.{arith}
use Rattle.grid.specs.Grid.{place_of}
use Rattle.grid.proofs.Places.{two, three}
use Rattle.grid.proofs.Size.{size_low}
use Rattle.table.specs.Sound.{limit}
use Rattle.rescue.proofs.Walks.{onward_none, onward_join, onward_at, plane_end, first_place, last_place}
use Rattle.rescue.proofs.Walks.{all_rescued, all_reasons}
use Rattle.rescue.proofs.bins.walk.Goals as goal

pub of-spans-requires : goal.of-spans-requires
of-spans-requires c = c.requires.table.accepted

pub loop-r-init : goal.loop-r-init
loop-r-init c =
    onward_at (onward_none {most = limit} {had = 0} 0 c.requires.table.lent c.requires.list (omega arith)) refl
    (sym (first_place c.args.g))

pub walk_plane-total-requires : goal.walk_plane-total-requires
walk_plane-total-requires c =
    let l = c.loop-r in
    let a = c.requires.table.accepted in
    rw c.of-spans.ensures.grid (record {
      row = record {
        table = record { accepted = a; lent = l.invariant.lent };
        inside =
            record {
              accepted = a;
              one = c.loop-r-test.true;
              two = omega (arith, size_low (two a));
              three = omega (arith, size_low (three a));
            };
        under = l.invariant.under;
      };
      list = l.invariant.list;
    })

pub loop-r-preserved : goal.loop-r-preserved
loop-r-preserved c =
    let l = c.loop-r in
    let more = onward_at (rw c.of-spans.ensures.grid at c.walk_plane-total.ensures) refl (plane_end c.args.g l.r) in
    onward_join l.invariant more

pub returns : goal.returns
returns c =
    let l = c.loop-r in
    let g = c.args.g in
    let all : l.r ≡ g.size1 = omega arith in
    let whole = onward_at l.invariant refl (ap (λ (n : ℕ). place_of g n 0 0) all ∙ last_place g) in
    record { table = all_rescued whole c.requires.table.lent; reasons = all_reasons whole c.requires.table.lent }
