-- `sums::moments::moments` meets its contract: after each plane the moments of the planes so far stand.
-- Assumes nothing.
use Rattle.std.proofs.Common.{◌≡◌, ℕ, ◌+◌, ◌*◌, sym, ap, ◌∙◌, zero-add, zero-mul, mul_assoc, arith}
use Rattle.grid.specs.Grid.{bins_of}
use Rattle.grid.proofs.Places.{two, three, plane_start}
use Rattle.grid.proofs.Size.{size_low}
use Rattle.sums.proofs.Steps.{before_same, add_one_mul, none_made, all_made}
use Rattle.sums.proofs.moments.moments.Goals as goal

pub loop-r-init : goal.loop-r-init
loop-r-init g c = before_same (none_made c.requires) (sym (zero-mul _))

pub next_plane-requires : goal.next_plane-requires
next_plane-requires g c =
    let a = c.requires.table.accepted in record {
      inside =
          record {
            accepted = a;
            one = c.loop-r-test.true;
            two = omega (arith, size_low (two a));
            three = omega (arith, size_low (three a));
          };
      before = before_same c.loop-r.invariant (sym (plane_start c.args.g c.loop-r.r ∙ zero-add _));
    }

pub loop-r-preserved : goal.loop-r-preserved
loop-r-preserved g c =
    let r = c.loop-r.r in
    let plane = c.args.g.size2 * c.args.g.size3 in
    before_same c.next_plane.ensures
    (ap (λ (n : ℕ). n + plane) (plane_start c.args.g r ∙ zero-add _) ∙ sym (add_one_mul r plane))

pub returns : goal.returns
unfolding bins_of
returns g c =
    let l = c.loop-r in
    let grid = c.args.g in
    let all : l.r ≡ grid.size1 = omega arith in
    all_made (before_same l.invariant
    (ap (λ (n : ℕ). n * (grid.size2 * grid.size3)) all ∙ sym (mul_assoc grid.size1 grid.size2 grid.size3)))
