-- `recorder::entries::is_entry` meets its contract: of kind 0 the number of colours is asked, any other kind is to be
-- 1.
-- Assumes nothing.
use mathlib.Core.Path.{◌≡◌, refl}
use mathlib.Core.Bool.{Bool, true, false, ◌&&◌, ◌||◌}
use Prim.Native.Nat.{ℕ, ◌+◌, ◌*◌}
use native.Mathlib.Omega.{arith}
use borrow.Author.Tests.{ne_eqb}
use lib.Dec.{eqb}
use lib.ListN.{get_or}
use Rattle.recorder.specs.Replay.{kind_at, count_at, is_entry}
use Rattle.recorder.proofs.entries.is_entry.Goals as goal

without_colours : (kind count : ℕ) → kind ≡ 0 → eqb count 0 ≡ ((eqb kind 0 && eqb count 0) || eqb kind 1)
without_colours kind count e = rw e (go (eqb count 0))
  where
    go : (b : Bool) → b ≡ ((eqb 0 0 && b) || eqb 0 1)
    go true = refl
    go false = refl

pub returns-in-0 : goal.returns-in-0
unfolding is_entry kind_at count_at
returns-in-0 c =
    let a = c.args in
    without_colours (get_or a.entries.now (3 * a.i) 0) (get_or a.entries.now (3 * a.i + 2) 0) c.in-0.is

pub returns-in-1 : goal.returns-in-1
unfolding is_entry kind_at
returns-in-1 c = rw c.in-1.is refl

pub returns-in_default : goal.returns-in_default
unfolding is_entry kind_at
returns-in_default c =
    let kind = get_or c.args.entries.now (3 * c.args.i) 0 in
    let not_0 : kind ≡ 0 → ⊥ = λ e. omega arith in
    let not_1 : kind ≡ 1 → ⊥ = λ e. omega arith in
    simp (ne_eqb kind 0 not_0, ne_eqb kind 1 not_1)
