-- `rounds::gather::gathered` meets its contract: the room of the heap, with a place without a box at each place past the
-- boxes in use.
-- Assumes nothing.
use native.Mathlib.Omega.{arith}
use lib.Ieee.{of_bits}
use Rattle.rounds.proofs.Gathering.{gathered_from}
use Rattle.rounds.proofs.gather.gathered.Goals as goal

pub returns : goal.returns
unfolding of_bits
returns c = grind (arith, gathered_from)
