-- `rescue::bins::walk_row` meets its contract: after b bins the walk stands b places further.
-- Assumes nothing.
use mathlib.Core.Path.{◌≡◌, sym, ◌∙◌}
use Prim.Native.Nat.{ℕ, ◌+◌, ◌<◌}
use native.Mathlib.Nat.{add-zero, add_assoc}
use native.Mathlib.Omega.{arith}
use Rattle.grid.specs.Grid.{bins_of}
use Rattle.grid.proofs.Places.{bins_high, place_along}
use Rattle.table.specs.Cell.{View}
use Rattle.table.specs.Table.{view_of, HasCell}
use Rattle.table.specs.Sound.{limit}
use Rattle.table.proofs.Cells.{cell_fields}
use Rattle.table.proofs.Scans.{inside as in_row, row_place, row_bin}
use Rattle.table.proofs.Tables.{has_cell}
use Rattle.rescue.specs.Rescue.{keeps_bounds, reason_for}
use Rattle.rescue.specs.Inner.{told}
use Rattle.rescue.proofs.Walks.{reason_room, onward_none, onward_next, onward_at}
use Rattle.rescue.proofs.bins.walk_row.Goals.{After-reason_for-why, In-loop-b}
use Rattle.rescue.proofs.bins.walk_row.Goals as goal

pub row_spans-row-requires : goal.row_spans-row-requires
row_spans-row-requires c = c.requires.row.inside

pub place-start-requires : goal.place-start-requires
place-start-requires c = c.requires.row.inside

pub loop-b-init : goal.loop-b-init
loop-b-init c =
    rw (add-zero c.place-start.result)
    (onward_none c.place-start.result c.requires.row.table.lent c.requires.list c.requires.row.under)

-- in the loop: the place of the bin at hand
abbrev here : In-loop-b → ℕ
here t = t.place-start.result + t.loop-b.b

inside : (t : In-loop-b) → here t < bins_of t.args.spans.now.g
inside t = row_place t.requires.row t.loop-b.b t.loop-b-test.true t.place-start.ensures

has : (t : In-loop-b) → HasCell t.loop-b.table (here t)
has t = has_cell t.loop-b.invariant.lent (here t) (inside t)

pub overflow_add-p : goal.overflow_add-p
overflow_add-p c = omega (arith, inside c, bins_high c.requires.row.table.accepted)

pub cell_at-c-requires : goal.cell_at-c-requires
cell_at-c-requires c = has (goal.at-cell_at-c-requires c).In-loop-b

pub keeps_bounds-keeps-requires : goal.keeps_bounds-keeps-requires
keeps_bounds-keeps-requires c =
    record { inside = in_row c.requires.row c.loop-b.b c.loop-b-test.true; row = c.row_spans-row.ensures }

pub reason_for-why-requires : goal.reason_for-why-requires
reason_for-why-requires c = c.loop-b.invariant.under

-- once the reason is known
abbrev view : After-reason_for-why → View
view k = view_of k.loop-b.table

abbrev of_bin : After-reason_for-why → In-loop-b
of_bin k = (goal.at-After-reason_for-why k).In-loop-b

weighs : (k : After-reason_for-why) → k.cell_at-c.result.weight ≡ view k (here (of_bin k)) 0
weighs k = (cell_fields (view k (here (of_bin k))) k.cell_at-c.ensures).weight

keeps : (k : After-reason_for-why)
    → keeps_bounds limit k.args.spans.now.g (view k) (here (of_bin k)) ≡ k.keeps_bounds-keeps.result
unfolding keeps_bounds
keeps k =
    row_bin k.requires.row (view k) k.loop-b.b k.loop-b-test.true k.place-start.ensures k.cell_at-c.ensures
    k.keeps_bounds-keeps.ensures

due : (k : After-reason_for-why) →
    let p = here (of_bin k) in
    told k.reason_for-why.result
    ≡ reason_for limit (keeps_bounds limit k.args.spans.now.g (view k) p) k.loop-b.total (view k p 0)
due k = k.reason_for-why.ensures ∙ (λ i. reason_for limit (sym (keeps k) i) k.loop-b.total (weighs k i))

pub bounds-reasons-p : goal.bounds-reasons-p
bounds-reasons-p c =
    let t = (goal.at-bounds-reasons-p c).In-loop-b in
    rw c.loop-b.invariant.list (inside t)

pub clear_for-requires : goal.clear_for-requires
clear_for-requires c = has (goal.at-clear_for-requires c).In-loop-b

pub with_weight-total-requires : goal.with_weight-total-requires
with_weight-total-requires c =
    let l = c.loop-b in
    reason_room limit c.keeps_bounds-keeps.result l.total c.cell_at-c.result.weight l.invariant.under
    c.reason_for-why.ensures

pub loop-b-preserved : goal.loop-b-preserved
loop-b-preserved c =
    let k = (goal.at-loop-b-preserved c).After-reason_for-why in
    let next = add_assoc c.place-start.result c.loop-b.b 1 in
    rw (c.told.ensures, c.clear_for.ensures, c.with_weight-total.ensures, weighs k, ← next)
    (onward_next c.loop-b.invariant (inside (of_bin k)) (due k))

pub returns : goal.returns
returns c =
    let l = c.loop-b in
    let g = c.args.spans.now.g in
    let start = c.place-start.ensures in
    let all : l.b ≡ g.size3 = omega arith in
    onward_at l.invariant start ((λ i. start i + all i) ∙ place_along g c.args.r c.args.gr g.size3)
