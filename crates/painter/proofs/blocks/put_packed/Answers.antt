-- `painter::blocks::put_packed` meets its contract: three bytes, written where they stand.
-- Assumes nothing.
use native.Mathlib.Omega.{arith}
use lib.ListN.{length-set}
use Rattle.painter.proofs.Runs.{three_bytes}
use Rattle.painter.proofs.blocks.put_packed.Goals as goal

pub bounds-bytes-at-2 : goal.bounds-bytes-at-2
bounds-bytes-at-2 c = simp length-set (omega arith)

pub returns : goal.returns
returns c = let a = c.args in three_bytes a.v a.i _ c.requires
