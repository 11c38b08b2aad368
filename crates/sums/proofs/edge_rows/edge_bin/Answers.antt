-- `sums::edge_rows::edge_bin` meets its contract: the line goes through the bin, and its moments are written.
-- Assumes nothing.
use Rattle.std.proofs.Common.{arith}
use Rattle.sums.proofs.Steps.{near_cell, moment_held, table_cell, line_room_lem, line_through}
use Rattle.sums.proofs.edge_rows.edge_bin.Goals as goal

pub cell-requires : goal.cell-requires
cell-requires g c = table_cell c.requires.ready c.place-p.ensures

pub plus-sum-requires : goal.plus-sum-requires
plus-sum-requires g c =
    line_room_lem c.requires.ready c.requires.line_value c.place-p.ensures c.cell.ensures

pub edge_at-moment-requires-clause-line_value : goal.edge_at-moment-requires-clause-line_value
edge_at-moment-requires-clause-line_value g c =
    line_through c.requires.ready c.requires.line_value c.place-p.ensures c.cell.ensures c.plus-sum.ensures

pub put-requires : goal.put-requires
put-requires g c = (
  near_cell c.requires.ready c.args.r c.args.gr (omega arith) (omega arith) c.place-p.ensures,
  moment_held c.requires.ready c.edge_at-moment.ensures,
)

pub returns-clause-sums : goal.returns-clause-sums
returns-clause-sums g c =
    line_through c.requires.ready c.requires.line_value c.place-p.ensures c.cell.ensures c.plus-sum.ensures
