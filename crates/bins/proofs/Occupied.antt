-- The occupied bins of a box, counted: one at least where it has weight, and more than one only where two bins differ.
-- Assumes nothing.
use mathlib.Core.Path.{◌≡◌, refl, ap, ◌∙◌}
use mathlib.Core.Bool.{Bool, true, false, cond}
use Prim.Native.Nat.{ℕ, zero, suc, ◌+◌, ◌-◌, ◌≤◌, ◌<◌}
use native.Mathlib.Nat.{lt_of_not-le}
use native.Mathlib.Decide.{ℕ_discrete, dec_le}
use native.Mathlib.Omega.{arith}
use borrow.Author.Tests.{eq-eqb, ne_eqb}
use lib.Dec.{eqb}
use Rattle.grid.specs.declared.place.Grid.{Grid}
use Rattle.basics.specs.Range.{sum_from}
use Rattle.grid.specs.Grid.{place_of}
use Rattle.basics.proofs.Range.{hit, hit_yes, hit_no}
use Rattle.table.specs.Cell.{View}
use Rattle.boxes.specs.declared.sides.Bounds.{Bounds}
use Rattle.bins.specs.Sum.{sum3, bin_sum, box_sum, marks, occupied_in}
use Rattle.boxes.specs.Box.{Within}
use Rattle.boxes.specs.Holds.{holds}
use Rattle.boxes.proofs.Within.{InBox}
use Rattle.bins.proofs.Boxes.{sum3_same, sum3_plus}
use Rattle.bins.proofs.Laws.{bins_empty}
use Rattle.boxes.proofs.Within.{bin_inside}
use Rattle.bins.proofs.Hits.{hit_box}

-- 1 for an occupied bin
pub marks_none : (v : View) (p j : ℕ) → v p 0 ≡ 0 → marks v p j ≡ 0
unfolding marks
marks_none v p j e = rw (eq-eqb (v p 0) 0 e) refl

pub marks_one : (v : View) (p j : ℕ) → (v p 0 ≡ 0 → ⊥) → marks v p j ≡ 1
unfolding marks
marks_one v p j e = rw (ne_eqb (v p 0) 0 e) refl

-- a sum that is not 0 has a term that is not
some_term : (i n : ℕ) (f : ℕ → ℕ) → (sum_from i n f ≡ 0 → ⊥) → (k : ℕ) × ((i ≤ k) × ((k < i + n) × (f k ≡ 0 → ⊥)))
unfolding sum_from
some_term i zero f h = absurd (h refl)
some_term i (suc n) f h =
    elim (ℕ_discrete (f i) 0) [
      | yes e ↦ (let r = some_term (suc i) n f (λ z. h (omega (arith, e, z))) in
          (r.0, (omega (arith, r.1.0), (omega (arith, r.1.1.0), r.1.1.1))))
      | no e ↦ (i, (omega arith, (omega arith, e)))
    ]

-- ---- a bin of a box with some weight
pub record Bin (g : Grid) (v : View) (x : Bounds) : Type 0 where
  pub one : ℕ
  pub two : ℕ
  pub three : ℕ
  pub in_box : InBox x one two three
  pub some : v (place_of g one two three) 0 ≡ 0 → ⊥

abbrev pub place_in : {g : Grid} {v : View} {x : Bounds} → Bin g v x → ℕ
place_in {g} o = place_of g o.one o.two o.three

-- a box with weight has one
pub some_bin : (g : Grid) (v : View) (x : Bounds) → (box_sum g v x 0 ≡ 0 → ⊥) → Bin g v x
unfolding box_sum bin_sum sum3
some_bin g v x h =
    let plane =
    some_term x.r0 (x.r1 - x.r0) (λ r. sum_from x.g0 (x.g1 - x.g0)
    (λ gr. sum_from x.b0 (x.b1 - x.b0) (λ b. v (place_of g r gr b) 0))) h in
    let row =
    some_term x.g0 (x.g1 - x.g0) (λ gr. sum_from x.b0 (x.b1 - x.b0)
    (λ b. v (place_of g plane.0 gr b) 0)) plane.1.1.1 in
    let bin = some_term x.b0 (x.b1 - x.b0) (λ b. v (place_of g plane.0 row.0 b) 0) row.1.1.1 in
    record {
      one = plane.0;
      two = row.0;
      three = bin.0;
      in_box = record {
        one = (plane.1.0, omega (arith, plane.1.0, plane.1.1.0));
        two = (row.1.0, omega (arith, row.1.0, row.1.1.0));
        three = (bin.1.0, omega (arith, bin.1.0, bin.1.1.0));
      };
      some = bin.1.1.1;
    }

-- so at least one of its bins is occupied
pub some_occupied : (g : Grid) (v : View) (x : Bounds) → (box_sum g v x 0 ≡ 0 → ⊥) → 1 ≤ occupied_in g v x
unfolding occupied_in
some_occupied g v x h = let o = some_bin g v x h in
    let n : box_sum g (marks v) x 0 ≡ 0 → ⊥ =
    λ e. omega (
      arith,
      marks_one v (place_in o) 0 o.some,
      bins_empty g (marks v) x e o.one o.two o.three
          o.in_box,
    ) in
    omega (arith, n)

-- ---- two bins of a box at different places, both with some weight
pub record Two (g : Grid) (v : View) (x : Bounds) : Type 0 where
  pub one : Bin g v x
  pub other : Bin g v x
  pub apart : place_in one ≡ place_in other → ⊥

-- an occupied bin
abbrev occupant : {g : Grid} {v : View} {x : Bounds} → Bin g (marks v) x → Bin g v x
occupant {g} {v} o =
    record {
      one = o.one;
      two = o.two;
      three = o.three;
      in_box = o.in_box;
      some =
          λ e. o.some (marks_none v (place_in o) 0 e);
    }

-- the occupied bins other than the one at q
others : View → ℕ → View
others v q p j = cond (eqb q p) 0 (marks v p j)

others_none : (v : View) (q p j : ℕ) → q ≡ p → others v q p j ≡ 0
unfolding others
others_none v q p j e = rw (eq-eqb q p e) refl

others_same : (v : View) (q p j : ℕ) → (q ≡ p → ⊥) → others v q p j ≡ marks v p j
unfolding others
others_same v q p j n = rw (ne_eqb q p n) refl

one_and_others : (v : View) (q p : ℕ) → (v q 0 ≡ 0 → ⊥) → marks v p 0 ≡ hit q p 1 + others v q p 0
one_and_others v q p o = go (ℕ_discrete q p)
  where
    go : Dec (q ≡ p) → marks v p 0 ≡ hit q p 1 + others v q p 0
    go (yes e) = omega (arith, ap (λ (n : ℕ). marks v n 0) e, marks_one v q 0 o, hit_yes q p 1 e, others_none v q p 0 e)
    go (no n) = omega (arith, hit_no q p 1 n, others_same v q p 0 n)

with_other : {g : Grid} {v : View} {x : Bounds} (one : Bin g v x) → Bin g (others v (place_in one)) x → Two g v x
with_other {g} {v} {x} one o =
    record {
      one = one;
      other =
          occupant (record { one = o.one; two = o.two; three = o.three; in_box = o.in_box; some = marked });
      apart =
          apart;
    }
  where
    apart : place_in one ≡ place_in o → ⊥
    apart e = o.some (others_none v (place_in one) (place_in o) 0 e)

    marked : marks v (place_in o) 0 ≡ 0 → ⊥
    marked e = o.some (others_same v (place_in one) (place_in o) 0 apart ∙ e)

at_most_one : (b : Bool) → cond b 1 0 ≤ 1
at_most_one true = omega arith
at_most_one false = omega arith

module _ {g : Grid} {v : View} {x : Bounds} (w : Within g x) where
  -- all but one of the occupied bins are the others
  less_one : (o : Bin g v x) → box_sum g (marks v) x 0 ≤ 1 + box_sum g (others v (place_in o)) x 0
  unfolding box_sum bin_sum
  less_one o =
      let q = place_in o in
      let parts : box_sum g (marks v) x 0 ≡ box_sum g (λ p j. hit q p 1) x 0 + box_sum g (others v q) x 0 =
      sum3_same x.r0 (x.r1 - x.r0) x.g0 (x.g1 - x.g0) x.b0 (x.b1 - x.b0)
      (λ r gr b. marks v (place_of g r gr b) 0) (λ r gr b. hit q (place_of g r gr b) 1 + others v q (place_of g r gr b) 0)
      (λ r gr b h k l. one_and_others v q (place_of g r gr b) o.some)
      ∙ sum3_plus x.r0 (x.r1 - x.r0) x.g0 (x.g1 - x.g0) x.b0 (x.b1 - x.b0)
      (λ r gr b. hit q (place_of g r gr b) 1) (λ r gr b. others v q (place_of g r gr b) 0) in
      omega (
        arith,
        parts,
        hit_box w (bin_inside w o.in_box) 1 0,
        at_most_one (holds x o.one o.two o.three),
      )

  -- where two bins are occupied, there are two
  pub two_bins : 2 ≤ occupied_in g v x → Two g v x
  unfolding occupied_in
  two_bins h =
      let one = occupant (some_bin g (marks v) x (λ e. omega arith)) in
      with_other one (some_bin g (others v (place_in one)) x (λ e. omega (arith, less_one one)))

  -- and where there are not two, at most one is
  pub one_at_most : (Two g v x → ⊥) → occupied_in g v x ≤ 1
  one_at_most n = go (dec_le 2 (occupied_in g v x))
    where
      go : Dec (2 ≤ occupied_in g v x) → occupied_in g v x ≤ 1
      go (yes h) = absurd (n (two_bins h))
      go (no h) = omega (arith, lt_of_not-le h)
