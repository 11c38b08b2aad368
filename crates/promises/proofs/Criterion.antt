-- Wu's criterion, over whole numbers: among the positions of a box, the one with the smallest exact score is the one
-- whose two sides have the smallest exact spreads together, since those are the squares of the box and the score.
-- Assumes nothing.
use mathlib.Core.Path.{◌≡◌}
use mathlib.Core.Logic.{◌↔◌}
use Prim.Native.Nat.{ℕ, ◌+◌, ◌*◌, ◌≤◌, ◌<◌}
use native.Mathlib.Nat.{mul-add, add-mul, mul_assoc, mul_comm, mul_left_comm, add_assoc, add_comm, add_left_comm}
use native.Mathlib.Nat.{mul-pos, pos_of_ne-zero, le_of_lt, one-mul, mul-one, zero-mul, zero-add, add-zero}
use native.Mathlib.Omega.{arith}
use Rattle.grid.specs.declared.place.Grid.{Grid}
use Rattle.table.specs.Cell.{View}
use Rattle.boxes.specs.declared.sides.Bounds.{Bounds}
use Rattle.bins.specs.Sum.{box_sum}
use Rattle.boxes.specs.Box.{low_side, high_side}
use Rattle.bins.proofs.Laws.{cut_sum}
use Rattle.promises.specs.Criterion.{together, negative, Same, AtMost, exact_quotient, exact_spread, exact_squares}
use Rattle.promises.specs.Criterion.{Cuts, exact_score, sides_spread, Smallest}

ruleset ring = (mul-add, add-mul, mul_assoc, mul_comm, mul_left_comm, add_assoc, add_comm, add_left_comm)

-- (q·u − x)/u is at most (q·w − y)/w exactly where −x/u is at most −y/w
order : (q u w x y p r : ℕ) → p ≡ q * u → r ≡ q * w → (s t : ℕ) → s ≡ 0 → t ≡ 0
    → (s * w + y * u ≤ t * u + x * w) ↔ (p * w + y * u ≤ r * u + x * w)
order q u w x y p r e f s t z n =
    let both : p * w ≡ r * u = rw (e, f) (simp ring) in
    let first : s * w ≡ 0 = rw z (zero-mul w) in
    let second : t * u ≡ 0 = rw n (zero-mul u) in
    ((λ h. omega arith), (λ h. omega arith))

-- n·a/n and m·b/m added are (a + b)·(n·m) over n·m
sides : (n m a b q : ℕ) → q ≡ a + b → n * a * m + m * b * n ≡ q * (n * m)
sides n m a b q e = rw e (simp ring)

-- q/1 and −x/u added are (q·u − x)/u
added : (q u x p s : ℕ) → p ≡ q * u → s ≡ 0 → p * (1 * u) + (0 * u + x * 1) * u ≡ (q * u + s * 1) * u + x * (1 * u)
added q u x p s e z = rw (e, z) (simp (one-mul, mul-one, zero-mul, zero-add, add-zero))

module _ (g : Grid) (v : View) (x : Bounds) where
  squares_split : {d bin : ℕ} → Cuts g v x d bin
      → box_sum g v x 4 ≡ box_sum g v (low_side x d bin) 4 + box_sum g v (high_side x d bin) 4
  squares_split {d} {bin} c = cut_sum g v x d bin 4 (le_of_lt c.inside.0) (le_of_lt c.inside.1)

  plus_is : {d bin : ℕ} → Cuts g v x d bin
      → (sides_spread g v x d bin).plus ≡ box_sum g v x 4 * (sides_spread g v x d bin).under
  unfolding sides_spread together exact_spread
  plus_is {d} {bin} c =
      sides (box_sum g v (low_side x d bin) 0) (box_sum g v (high_side x d bin) 0) (box_sum g v (low_side x d bin) 4)
      (box_sum g v (high_side x d bin) 4) (box_sum g v x 4) (squares_split c)

  no_plus : (d bin : ℕ) → (exact_score g v x d bin).plus ≡ 0
  unfolding exact_score negative together exact_quotient
  no_plus d bin = omega arith

  -- the fractions have denominators above 0
  pub unders : {d bin : ℕ} → Cuts g v x d bin
      → (0 < (exact_score g v x d bin).under) × (0 < (sides_spread g v x d bin).under)
  unfolding exact_score sides_spread negative together exact_quotient exact_spread
  unders c = let both = mul-pos (pos_of_ne-zero c.split.low) (pos_of_ne-zero c.split.high) in (both, both)

  -- the spreads of the two sides together are the squares of the box and the score
  pub spreads_are : {d bin : ℕ} → Cuts g v x d bin
      → Same (sides_spread g v x d bin) (together (exact_squares g v x) (exact_score g v x d bin))
  unfolding Same exact_squares exact_score sides_spread negative together exact_quotient exact_spread
  spreads_are {d} {bin} c =
      added (box_sum g v x 4) (sides_spread g v x d bin).under (sides_spread g v x d bin).minus
      (sides_spread g v x d bin).plus (exact_score g v x d bin).plus (plus_is c) (no_plus d bin)

  -- two positions: the order by score is the order by the spreads of the two sides together
  pub criterion : {d bin e c : ℕ} → Cuts g v x d bin → Cuts g v x e c
      → AtMost (exact_score g v x d bin) (exact_score g v x e c) ↔ AtMost (sides_spread g v x d bin)
      (sides_spread g v x e c)
  unfolding AtMost exact_score sides_spread negative together exact_quotient exact_spread
  criterion {d} {bin} {e} {c} p q =
      order (box_sum g v x 4) (sides_spread g v x d bin).under (sides_spread g v x e c).under
      (sides_spread g v x d bin).minus (sides_spread g v x e c).minus
      (sides_spread g v x d bin).plus (sides_spread g v x e c).plus (plus_is p) (plus_is q)
      (exact_score g v x d bin).plus (exact_score g v x e c).plus (no_plus d bin) (no_plus e c)

  -- and so the smallest by the one is the smallest by the other
  pub smallest : {d bin : ℕ} → Cuts g v x d bin
      → Smallest g v (exact_score g v x) x d bin ↔ Smallest g v (sides_spread g v x) x d bin
  smallest p = ((λ s e c q. (criterion p q).0 (s e c q)), (λ s e c q. (criterion p q).1 (s e c q)))
