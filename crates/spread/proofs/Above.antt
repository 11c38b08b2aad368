-- An exact spread of one half or more is computed as above 0.0, at any weight of a sound table.
-- Assumes nothing.
use mathlib.Core.Path.{◌≡◌, sym, ap, ◌∙◌}
use mathlib.Core.Logic.{inl, inr}
use Prim.Native.Nat.{ℕ, ◌+◌, ◌*◌, ◌^◌, ◌≤◌, ◌<◌}
use native.Mathlib.Nat.{le_trans, le_of_eq, mul_assoc, add-mul, mul-le-mul_right, eq-zero-or-pos, mul-zero}
use native.Mathlib.Omega.{arith}
use mathlib.Core.Bool.{Bool, true, false}
use lib.Dec.{T}
use lib.Ieee.{Float, lt}
use lib.Ieee.Exact.{HasValue}
use Rattle.grid.specs.declared.place.Grid.{Grid}
use Rattle.table.specs.Cell.{View}
use Rattle.table.specs.Sound.{limit}
use Rattle.table.proofs.Soundness.{Sound}
use Rattle.boxes.specs.declared.sides.Bounds.{Bounds}
use Rattle.bins.specs.Sum.{box_sum}
use Rattle.sums.specs.Box.{stats_of}
use Rattle.boxes.specs.Box.{Within}
use Rattle.spread.specs.Spread.{exact_q, zero_of, spread_of}
use Rattle.boxes.specs.Box.{one_bin}
use Rattle.spread.proofs.Sign.{above_zero}
use Rattle.spread.proofs.Bound.{Closely, box_close}

-- omega takes no number as large as 2 ^ 84 times these, so it stands as a variable
scaled : (n v sq L : ℕ) → 2 * v + n ≤ 2 * (n * sq) → 2 * (v * L) + n * L ≤ 2 * (n * sq * L)
scaled n v sq L h =
    le_trans (le_of_eq (sym (simp (add-mul, mul_assoc))))
    (le_trans (mul-le-mul_right L h) (le_of_eq (mul_assoc 2 (n * sq) L)))

not_under : (S X N K : ℕ) → X + N ≤ S → S + K < X + N → ⊥
not_under S X N K h k = omega arith

some_parts : (S X N n k : ℕ) → X + N ≤ S → S < 2 * (n * k) + X + N → k ≡ 0 → ⊥
some_parts S X N n k h l e = let z : n * k ≡ 0 = ap (λ (x : ℕ). n * x) e ∙ mul-zero n in omega arith

close_above : (x : Float) (n v sq : ℕ) → 2 * v + n ≤ 2 * (n * sq) → (s : Bool) (k : ℕ) → HasValue x s k (2 ^ 84)
    → Closely (2 ^ 84) s k n v sq → T (lt zero_of x)
close_above x n v sq e true k p h =
    absurd (not_under (2 * (n * sq * 2 ^ 84)) (2 * (v * 2 ^ 84)) (n * 2 ^ 84) (2 * (n * k))
    (scaled n v sq (2 ^ 84) e) h.1)
close_above x n v sq e false k p h =
    elim (eq-zero-or-pos k) [
      | inl z ↦ absurd (some_parts (2 * (n * sq * 2 ^ 84)) (2 * (v * 2 ^ 84)) (n * 2 ^ 84) n k
          (scaled n v sq (2 ^ 84) e) h.1 z)
      | inr q ↦ above_zero x k (2 ^ 84) q p
    ]

-- (n * sq - v) / n is one half or more
pub box_above : {g : Grid} {v : View} → Sound limit g v → {x : Bounds} → Within g x → 1 ≤ box_sum g v x 0
    → one_bin x ≡ false
    → 2 * exact_q (box_sum g v x 1) (box_sum g v x 2) (box_sum g v x 3) + box_sum g v x 0
    ≤ 2 * (box_sum g v x 0 * box_sum g v x 4)
    → T (lt zero_of (spread_of x (stats_of g v x)))
box_above {g} {v} s {x} w some e h =
    let r = box_close s w some e in
    close_above (spread_of x (stats_of g v x)) (box_sum g v x 0)
    (exact_q (box_sum g v x 1) (box_sum g v x 2) (box_sum g v x 3)) (box_sum g v x 4) h r.sign r.parts r.value
    r.near
