-- `band::number::largest` meets its contract: after some entries it has the largest of them.
-- Assumes nothing.
use Rattle.std.proofs.Common.{◌≡◌, ◌≤◌, List, ℕ, length, ltb, arith}
use Rattle.std.proofs.lemmas.Grind.{common_steps}
use Rattle.band.specs.Band.{all_below}
use Rattle.band.proofs.Below.{Tops, tops_none, tops_more}
use Rattle.band.proofs.number.largest.Goals as goal

pub loop-entry-init : goal.loop-entry-init
loop-entry-init c = tops_none _

pub loop-entry-preserved : goal.loop-entry-preserved
loop-entry-preserved c =
    let l = c.loop-entry in tops_more _ l.entry-index l.top c.max-top.result c.max-top.ensures l.invariant

-- what it has once all entries of a list are passed, which are those of the map
tops_all : {passed map : List ℕ} (n top : ℕ) → Tops passed n top → n ≡ length passed → passed ≡ map
    → (c : ℕ) → 1 ≤ c → ltb top c ≡ all_below c map
unfolding all_below
tops_all n top old all e = rw (← e, ← all) old

pub returns : goal.returns
returns c =
    let l = c.loop-entry in
    tops_all l.entry-index l.top l.invariant (omega arith) (grind (arith, common_steps))
