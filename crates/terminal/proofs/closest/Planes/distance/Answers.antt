-- `terminal::closest::Planes::distance` meets its contract: the squares of the three components, each read in its plane.
-- Assumes nothing.
use Rattle.std.proofs.Common.{arith}
use Rattle.terminal.proofs.Laws.{distance_is}
use Rattle.terminal.proofs.closest.Planes.distance.Goals as goal

pub returns : goal.returns
returns c = (
  distance_is c.args.x c.args.k _ _ _ _ _ _ c.args.self.now.filled c.requires
      c.square.ensures.0
      c.square-2.ensures.0
      c.square-3.ensures.0,
  omega arith,
)
