-- `bins::add_up::add_plane` meets its contract: after each row the sum is that of the rows so far.
-- Assumes nothing.
use Rattle.std.proofs.Common.{◌≡◌, ◌-◌}
use Rattle.table.specs.Cell.{cell_of}
use Rattle.table.specs.Layout.{laid_view}
use Rattle.bins.specs.Inner.{plane_sum}
use Rattle.bins.proofs.add_up.add_plane.Given as goal

abbrev pub invariant-loop-gr : goal.invariant-loop-gr
invariant-loop-gr g l = l.sum ≡ cell_of (plane_sum l.g (laid_view g.L.Layout.layout l.small l.large) l.x l.r l.initial.gr (l.gr - l.initial.gr))
