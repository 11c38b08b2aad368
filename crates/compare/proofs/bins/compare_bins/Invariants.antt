-- `compare::bins::compare_bins` meets its contract: after p places the differences of the first p bins are written, and
-- those of them that differ are counted.
-- Assumes nothing.
use Rattle.table.specs.Table.{view_of}
use Rattle.compare.specs.Compare.{differs}
use Rattle.compare.proofs.Places.{Found}
use Rattle.compare.proofs.Differences.{Written}
use Rattle.compare.proofs.bins.compare_bins.Given as goal

abbrev pub invariant-loop-p : goal.invariant-loop-p
invariant-loop-p l =
    Written l.n (view_of l.first) (view_of l.second) l.p l.differences
    × Found l.n (differs (view_of l.first) (view_of l.second)) l.p l.differ l.at
