-- A box is what its number unpacks to, and the ends of a box of a grid are bytes.
-- Assumes nothing.
use mathlib.Core.Path.{◌≡◌, ap, ◌∙◌}
use Prim.Native.Nat.{ℕ, ◌+◌, ◌*◌, ◌/◌, ◌%◌, ◌≤◌, ◌<◌}
use native.Mathlib.Omega.{arith}
use Rattle.grid.specs.declared.place.Grid.{Grid}
use Rattle.basics.specs.Dimension.{choose}
use Rattle.grid.specs.Grid.{size_at}
use Rattle.grid.proofs.Size.{size_high}
use Rattle.grid.proofs.Places.{sized_at}
use Rattle.boxes.specs.declared.sides.Bounds.{Bounds}
use Rattle.boxes.specs.Box.{Within}
use Rattle.boxes.specs.Bytes.{pack_of, box_of, Bytes}
use Rattle.boxes.proofs.Within.{sides}

low_byte : (a n : ℕ) → a < 256 → (a + 256 * n) % 256 ≡ a
low_byte a n h = omega arith

other_bytes : (a n : ℕ) → a < 256 → (a + 256 * n) / 256 ≡ n
other_bytes a n h = omega arith

pub box_pack : (x : Bounds) → Bytes x → box_of (pack_of x) ≡ x
unfolding pack_of box_of
box_pack x h =
    let n5 = x.b1 in
    let n4 = x.b0 + 256 * n5 in
    let n3 = x.g1 + 256 * n4 in
    let n2 = x.g0 + 256 * n3 in
    let n1 = x.r1 + 256 * n2 in
    let d1 = other_bytes x.r0 n1 h.r0 in
    let d2 = ap (λ (m : ℕ). m / 256) d1 ∙ other_bytes x.r1 n2 h.r1 in
    let d3 = ap (λ (m : ℕ). m / 256) d2 ∙ other_bytes x.g0 n3 h.g0 in
    let d4 = ap (λ (m : ℕ). m / 256) d3 ∙ other_bytes x.g1 n4 h.g1 in
    let d5 = ap (λ (m : ℕ). m / 256) d4 ∙ other_bytes x.b0 n5 h.b0 in
    λ i.
    record {
      r0 = low_byte x.r0 n1 h.r0 i;
      r1 = (ap (λ (m : ℕ). m % 256) d1 ∙ low_byte x.r1 n2 h.r1) i;
      g0 = (ap (λ (m : ℕ). m % 256) d2 ∙ low_byte x.g0 n3 h.g0) i;
      g1 = (ap (λ (m : ℕ). m % 256) d3 ∙ low_byte x.g1 n4 h.g1) i;
      b0 = (ap (λ (m : ℕ). m % 256) d4 ∙ low_byte x.b0 n5 h.b0) i;
      b1 = (ap (λ (m : ℕ). m % 256) d5 ∙ last x.b1 h.b1) i;
    }
  where
    last : (a : ℕ) → a < 256 → a % 256 ≡ a
    last a l = omega arith

-- the ends of a box of a grid are bytes
pub within_bytes : {g : Grid} {x : Bounds} → Within g x → Bytes x
unfolding size_at choose
within_bytes {g} {x} w =
    let s = sides w in
    let high : (d : ℕ) → size_at g d ≤ 128 = λ d. size_high (sized_at w.accepted d) in
    let one : g.size1 ≤ 128 = high 0 in
    let two : g.size2 ≤ 128 = high 1 in
    let three : g.size3 ≤ 128 = high 2 in
    record {
      r0 = omega (arith, s.one, s.one_fits);
      r1 = omega (arith, s.one_fits);
      g0 = omega (arith, s.two, s.two_fits);
      g1 = omega (arith, s.two_fits);
      b0 = omega (arith, s.three, s.three_fits);
      b1 = omega (arith, s.three_fits);
    }
