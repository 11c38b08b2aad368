-- `sums::edge_rows::edge_at` meets its contract: the line and the one neighbour that is there, or none.
-- Assumes nothing.
use Rattle.std.proofs.Common.{◌+◌, ◌-◌, ◌<◌, arith}
use Rattle.sums.proofs.Steps.{near_cell, above_has, before_has, no_plane, no_row, can_join, joined_is}
use Rattle.sums.proofs.edge_rows.edge_at.Goals as goal

-- ---- the first row of the first plane
pub joined-requires : goal.joined-requires
joined-requires g c =
    let ready = c.requires.ready in
    let row = c.if-gr-eq0.true in
    can_join ready c.requires.line_value (no_row ready row (c.args.r + 1))
    (no_plane ready c.if-r-eq0.true (c.args.gr + 1)) (no_row ready row c.args.r)

pub returns-then-gr-eq0 : goal.returns-then-gr-eq0
returns-then-gr-eq0 g c =
    let ready = c.requires.ready in
    let row = c.if-gr-eq0.true in
    joined_is ready c.requires.line_value (no_row ready row (c.args.r + 1))
    (no_plane ready c.if-r-eq0.true (c.args.gr + 1)) (no_row ready row c.args.r) c.joined.ensures

-- ---- any other row of the first plane
pub cell-above-requires : goal.cell-above-requires
cell-above-requires g c =
    near_cell c.requires.ready c.args.r (c.args.gr - 1) (omega arith) (omega arith) c.place.ensures

pub joined-requires-then-r-eq0 : goal.joined-requires-then-r-eq0
joined-requires-then-r-eq0 g c =
    let ready = c.requires.ready in
    let plane = c.if-r-eq0.true in
    can_join ready c.requires.line_value
    (above_has ready (omega (arith, c.if-gr-eq0.false)) c.place.ensures c.cell-above.ensures)
    (no_plane ready plane (c.args.gr + 1)) (no_plane ready plane c.args.gr)

pub returns-then-r-eq0 : goal.returns-then-r-eq0
returns-then-r-eq0 g c =
    let ready = c.requires.ready in
    let plane = c.if-r-eq0.true in
    joined_is ready c.requires.line_value
    (above_has ready (omega (arith, c.if-gr-eq0.false)) c.place.ensures c.cell-above.ensures)
    (no_plane ready plane (c.args.gr + 1)) (no_plane ready plane c.args.gr) c.joined-then-r-eq0.ensures

-- ---- the first row of any other plane
pub cell-before-requires : goal.cell-before-requires
cell-before-requires g c =
    near_cell c.requires.ready (c.args.r - 1) c.args.gr (omega arith) (omega arith) c.place-2.ensures

pub joined-requires-2 : goal.joined-requires-2
joined-requires-2 g c =
    let ready = c.requires.ready in
    let some : 0 < c.args.r = omega (arith, c.if-r-eq0.false) in
    let row = c.requires.at_edge.no_row some in
    can_join ready c.requires.line_value (no_row ready row (c.args.r + 1))
    (before_has ready some c.place-2.ensures c.cell-before.ensures) (no_row ready row c.args.r)

pub returns : goal.returns
returns g c =
    let ready = c.requires.ready in
    let some : 0 < c.args.r = omega (arith, c.if-r-eq0.false) in
    let row = c.requires.at_edge.no_row some in
    joined_is ready c.requires.line_value (no_row ready row (c.args.r + 1))
    (before_has ready some c.place-2.ensures c.cell-before.ensures) (no_row ready row c.args.r) c.joined-2.ensures
