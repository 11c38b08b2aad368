-- `cutter::map::fill` meets its contract: the run is filled, and the rest stays.
-- Assumes nothing.
use native.Mathlib.Omega.{arith}
use borrow.Author.Rules.{rules}
use Rattle.cutter.proofs.Filled.{run_put}
use Rattle.cutter.proofs.map.fill.Goals as goal

pub returns : goal.returns
returns c =
    let a = c.args in
    run_put a.index a.map.now a.at a.end c.requires.0 c.requires.1 _ _ (omega arith) (search rules)
