-- `compare::bins::compare_bins` meets its contract: after p places the differences of the first p bins are written, and
-- those of them that differ are counted.
-- Assumes nothing.
use mathlib.Core.Path.{◌≡◌, sym, ◌∙◌}
use Prim.Native.Nat.{◌+◌, ◌<◌}
use native.Mathlib.Omega.{arith}
use Rattle.grid.proofs.Places.{bins_high}
use Rattle.grid.specs.Grid.{bins_of}
use Rattle.table.specs.Table.{view_of}
use Rattle.table.proofs.Tables.{has_cell}
use Rattle.compare.specs.Compare.{differs, differing, first_differing}
use Rattle.compare.proofs.Places.{Found, none_found, first_found, another_found, not_found, all_found, count_high}
use Rattle.compare.proofs.Differences.{none_written, one_written, has_place, cells_tell, all_written}
use Rattle.compare.proofs.Differences.{cell_small}
use Rattle.compare.proofs.bins.compare_bins.Goals.{Joined-ne, then-ne, then-differ-eq0, else-differ-eq0, else-ne}
use Rattle.compare.proofs.bins.compare_bins.Goals as goal

pub bins-n-requires : goal.bins-n-requires
bins-n-requires c = c.requires.first.accepted

pub loop-p-init : goal.loop-p-init
loop-p-init c = (none_written _ _ _ _ (rw c.bins-n.ensures c.requires.list), none_found _ _)

pub cell_at-a-requires : goal.cell_at-a-requires
cell_at-a-requires c = has_cell c.requires.first.lent c.loop-p.p (omega (arith, c.bins-n.ensures))

pub cell_at-b-requires : goal.cell_at-b-requires
cell_at-b-requires c = has_cell c.requires.second.lent c.loop-p.p (omega (arith, c.bins-n.ensures))

pub put_differences-requires : goal.put_differences-requires
put_differences-requires c =
    let p = c.loop-p.p in
    let v = view_of c.args.first.now in
    let u = view_of c.args.second.now in
    let inside : p < bins_of c.args.g = omega (arith, c.bins-n.ensures) in (
      has_place v u p c.loop-p.invariant.0 (omega arith),
      cell_small v c.requires.first.accepted c.requires.first_sound p inside c.cell_at-a.ensures,
      cell_small u c.requires.first.accepted c.requires.second_sound p inside c.cell_at-b.ensures,
    )

pub overflow_add-differ : goal.overflow_add-differ
overflow_add-differ c =
    let l = c.loop-p in
    let few = count_high l.p (differs (view_of c.args.first.now) (view_of c.args.second.now)) in
    record {
      fits = omega (arith, few, l.invariant.1.many, c.bins-n.ensures, bins_high c.requires.first.accepted);
    }

-- what the bin at hand brings
found : (c : Joined-ne) →
    Found c.bins-n.result (differs (view_of c.args.first.now) (view_of c.args.second.now)) (c.loop-p.p + 1)
    c.if-ne.differ c.if-ne.at
found c =
    let l = c.loop-p in
    let tells =
    c.ne.ensures
    ∙ cells_tell (view_of c.args.first.now) (view_of c.args.second.now) l.p l.invariant.0 c.loop-p-test.true
    c.cell_at-a.ensures c.cell_at-b.ensures in
    elim c.if-ne.branch [
      | then-ne w ↦
          elim w.if-differ-eq0.branch [
            | then-differ-eq0 x ↦
                rw (w.differ-is, w.at-is, x.at-is)
                (first_found l.invariant.1 (sym w.if-ne.true ∙ tells) x.if-differ-eq0.true)
            | else-differ-eq0 x ↦
                rw (w.differ-is, w.at-is, x.at-is)
                (another_found l.invariant.1 (sym w.if-ne.true ∙ tells) x.if-differ-eq0.false)
          ]
      | else-ne w ↦ rw (w.differ-is, w.at-is) (not_found l.invariant.1 (sym w.if-ne.false ∙ tells))
    ]

pub loop-p-preserved : goal.loop-p-preserved
loop-p-preserved c =
    let l = c.loop-p in (
      rw c.put_differences.ensures
          (one_written (view_of c.args.first.now) (view_of c.args.second.now) l.p l.invariant.0 c.loop-p-test.true
          c.cell_at-a.ensures c.cell_at-b.ensures),
      found c,
    )

pub returns : goal.returns
unfolding differing first_differing
returns c =
    let l = c.loop-p in
    let v = view_of c.args.first.now in
    let u = view_of c.args.second.now in
    let all : l.p ≡ c.bins-n.result = omega arith in
    rw (← c.bins-n.ensures)
    (let f = all_found (rw all at l.invariant.1) in
    record {
      «record» = λ i. record { number = 0; differ = f.0 i; first = f.1 i };
      later = all_written v u (rw all at l.invariant.0);
    })
