-- `heap::heap::Heap::put_in` meets its contract: the box enters past the last place in use and climbs.
-- Assumes nothing.
use Rattle.heap.specs.Heap.{put_in, enter}
use Rattle.heap.proofs.heap.Heap.put_in.Goals as goal

pub returns-clause-room : goal.returns-clause-room
unfolding put_in enter
returns-clause-room g c = c.climb.ensures.entered
