-- `terminal::closest::Planes::closest` meets its contract: after k turns the smallest key of the first k numbers is kept.
-- Assumes nothing.
use Rattle.std.proofs.Common.{◌≡◌, ap, ◌∙◌, ℕ, ◌%◌, ◌-◌, arith}
use Rattle.terminal.specs.Nearest.{distance_of, least_from, nearest_of}
use Rattle.terminal.proofs.Lowest.{lowest_is, key_of}
use Rattle.terminal.proofs.closest.Planes.closest.Goals.{After-loop-k}
use Rattle.terminal.proofs.closest.Planes.closest.Goals as goal

pub loop-k-init : goal.loop-k-init
unfolding least_from
loop-k-init c = omega (arith, c.distance.ensures.0)

-- what it has once all are passed
last : (c : After-loop-k) → c.loop-k.least % 256 ≡ least_from 16 239 (distance_of c.args.x)
last c =
    let f = distance_of c.args.x in
    let all : c.loop-k.k - 1 ≡ 239 = omega arith in
    omega (
      arith,
      c.loop-k.invariant ∙ ap (λ (n : ℕ). key_of 16 f (least_from 16 n f)) all,
      (lowest_is 16 f 239).to,
    )

pub returns : goal.returns
unfolding nearest_of
returns c = last c
