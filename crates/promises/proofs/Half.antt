-- "For every non-empty box of more than one bin, the computed spread differs from the exact one by less than one half",
-- and "2^84 times a computed spread is always a whole number".
-- Assumes nothing.
use mathlib.Core.Path.{◌≡◌, refl, sym, ap, ap₂, ◌∙◌, subst}
use mathlib.Core.Bool.{Bool, true, false, not, cond}
use Prim.Native.Nat.{ℕ, zero, suc, ◌+◌, ◌-◌, ◌*◌, ◌^◌, ◌≤◌, ◌<◌}
use native.Mathlib.Nat.{mul_comm, mul_assoc, mul-add, mul-zero, add_comm, eq_of_mul-eq-mul_right}
use native.Mathlib.Omega.{arith}
use lib.Dec.{T, ltb, ltb→lt, nltb→le, lit<, lit≤}
use lib.IntN.{ℤ, pos, negsuc, neg_ℤ, sub_ℕ, nat_abs, ◌+ℤ◌, ◌-ℤ◌, ◌*ℤ◌, neg_ℤ-neg_ℤ, +ℤ_assoc, +ℤ_idl, +ℤ_invl, *ℤ_comm}
use lib.IntN.{pos-ne-negsuc}
use lib.Ieee.{Float, nan, inf, fin, up, down}
use lib.Ieee.Exact.{HasValue}
use Rattle.grid.specs.declared.place.Grid.{Grid}
use Rattle.grid.proofs.Places.{chose}
use Rattle.table.specs.Cell.{View}
use Rattle.boxes.specs.declared.sides.Bounds.{Bounds}
use Rattle.boxes.specs.Box.{Within, one_bin, whole_of}
use Rattle.boxes.proofs.Whole.{whole_within}
use Rattle.bins.specs.Sum.{box_sum}
use Rattle.spread.proofs.Bound.{Closely, Close, box_close}
use Rattle.promises.specs.Criterion.{sums_squared}
use Rattle.promises.specs.Half.{HasSpread, computed_spread, signed, Times, apart, WithinHalf, grid2, fine_table}
use Rattle.promises.specs.Half.{far_table}
use Rattle.promises.proofs.Worked.{grid2_accepted, fine_worked, far_worked}

-- ---- whole numbers with a sign
by_cond : (P : ℤ → Type 0) (t : Bool) (x y : ℤ) → (T t → P x) → (T (not t) → P y) → P (cond t x y)
by_cond P true x y f g = f tt
by_cond P false x y f g = g tt

times_signed : (a k : ℕ) (s : Bool) → pos a *ℤ signed s k ≡ signed s (a * k)
unfolding signed
times_signed a k false = refl
times_signed a zero true = ap pos (mul-zero a) ∙ sym (ap (λ (n : ℕ). neg_ℤ (pos n)) (mul-zero a))
times_signed a (suc k) true = refl

less_plus : (m q : ℕ) → neg_ℤ (pos m) +ℤ pos (m + q) ≡ pos q
less_plus m q =
    sym (+ℤ_assoc (neg_ℤ (pos m)) (pos m) (pos q)) ∙ ap (λ (z : ℤ). z +ℤ pos q) (+ℤ_invl (pos m)) ∙ +ℤ_idl (pos q)

-- a number that q brings up to p has the distance of p and q as its size
size_below : (z : ℤ) (p q b : ℕ) → z +ℤ pos q ≡ pos p → p < q + b → q < p + b → nat_abs z < b
size_below (pos m) p q b e h k = let f : m + q ≡ p = ap nat_abs e in omega arith
size_below (negsuc m) p q b e h k =
    by_cond (λ z. z ≡ pos p → nat_abs (negsuc m) < b) (ltb q (suc m)) (negsuc (suc m - suc q)) (pos (q - suc m))
    (λ t f. absurd (pos-ne-negsuc p (suc m - suc q) (sym f)))
    (λ t f. go (nltb→le q (suc m) t) (ap nat_abs f)) e
  where
    go : suc m ≤ q → q - suc m ≡ p → suc m < b
    go l f = omega arith

-- ---- m − c·(x − y), with either sign of m, as naturals
module _ (c x y : ℕ) where
  abbrev rest : ℤ
  rest = neg_ℤ (pos c *ℤ sub_ℕ x y)

  rest_up : rest +ℤ pos (c * x) ≡ pos (c * y)
  rest_up =
      by_cond (λ z. neg_ℤ (pos c *ℤ z) +ℤ pos (c * x) ≡ pos (c * y)) (ltb x y) (negsuc (y - suc x)) (pos (x - y))
      (λ t. ap (λ (z : ℤ). z +ℤ pos (c * x)) (neg_ℤ-neg_ℤ (pos (c * suc (y - suc x))))
      ∙ ap pos (sym (mul-add c (suc (y - suc x)) x) ∙ ap (λ (z : ℕ). c * z) (up_to x y (ltb→lt x y t))))
      (λ t. ap (λ (z : ℕ). neg_ℤ (pos (c * (x - y))) +ℤ pos (c * z)) (sym (back_to x y (nltb→le x y t)))
      ∙ ap (λ (z : ℕ). neg_ℤ (pos (c * (x - y))) +ℤ pos z) (mul-add c (x - y) y)
      ∙ less_plus (c * (x - y)) (c * y))
    where
      up_to : (x y : ℕ) → x < y → suc (y - suc x) + x ≡ y
      up_to x y h = omega arith

      back_to : (x y : ℕ) → y ≤ x → (x - y) + y ≡ x
      back_to x y h = omega arith

  plus_up : (m : ℕ) → (pos m +ℤ rest) +ℤ pos (c * x) ≡ pos (m + c * y)
  plus_up m = +ℤ_assoc (pos m) rest (pos (c * x)) ∙ ap (λ (z : ℤ). pos m +ℤ z) rest_up

  minus_up : (m : ℕ) → (neg_ℤ (pos m) +ℤ rest) +ℤ pos (c * x + m) ≡ pos (c * y)
  minus_up m =
      +ℤ_assoc (neg_ℤ (pos m)) rest (pos (c * x) +ℤ pos m)
      ∙ ap (λ (z : ℤ). neg_ℤ (pos m) +ℤ z)
      (sym (+ℤ_assoc rest (pos (c * x)) (pos m)) ∙ ap (λ (z : ℤ). z +ℤ pos m) rest_up ∙ ap pos (add_comm (c * y) m))
      ∙ less_plus m (c * y)

-- ---- from the law over naturals. 2 ^ 84 and 2 ^ 85 are variables here, since omega takes no products as large
module _ (L c n k v sq : ℕ) (double : 2 * L ≡ c) where
  both : (a : ℕ) → c * a ≡ 2 * (a * L)
  both a = ap (λ (z : ℕ). z * a) (sym double) ∙ mul_assoc 2 L a ∙ ap (λ (z : ℕ). 2 * z) (mul_comm L a)

  closely_apart : (s : Bool) → Closely L s k n v sq
      → nat_abs (pos (2 * n) *ℤ signed s k -ℤ pos c *ℤ sub_ℕ (n * sq) v) < n * L
  unfolding signed
  closely_apart false h =
      size_below (pos (2 * n * k) +ℤ rest c (n * sq) v) (2 * n * k + c * v) (c * (n * sq)) (n * L)
      (plus_up c (n * sq) v (2 * n * k))
      (omega (arith, h.0, mul_assoc 2 n k, both v, both (n * sq)))
      (omega (arith, h.1, mul_assoc 2 n k, both v, both (n * sq)))
  closely_apart true h =
      subst (λ (z : ℤ). nat_abs (z +ℤ rest c (n * sq) v) < n * L) (sym (times_signed (2 * n) k true))
      (size_below (neg_ℤ (pos (2 * n * k)) +ℤ rest c (n * sq) v) (c * v) (c * (n * sq) + 2 * n * k) (n * L)
      (minus_up c (n * sq) v (2 * n * k))
      (omega (arith, h.0, mul_assoc 2 n k, both v, both (n * sq)))
      (omega (arith, h.1, mul_assoc 2 n k, both v, both (n * sq))))

value_times : (x : Float) (s : Bool) (k c : ℕ) → HasValue x s k c → Times c x (signed s k)
unfolding Times
value_times nan s k c h = h
value_times (inf t) s k c h = h
value_times (fin t m e) s k c h =
    times_signed c (m * up e) t
    ∙ ap₂ signed h.0 (mul_comm c (m * up e) ∙ h.1 ∙ mul_comm k (down e))
    ∙ sym (times_signed (down e) k s) ∙ *ℤ_comm (pos (down e)) (signed s k)

close_within : {x : Float} {n v sq : ℕ} → Close x n v sq → WithinHalf x n sq v
unfolding apart
close_within {x} {n} {v} {sq} r =
    record {
      K = signed r.sign r.parts;
      whole = value_times x r.sign r.parts (2 ^ 84) r.value;
      near = closely_apart (2 ^ 84) (2 ^ 85) n r.parts v sq refl r.sign r.near;
    }

-- ---- the theorem
pub spread_half : (g : Grid) (v : View) (x : Bounds) → HasSpread g v x
    → WithinHalf (computed_spread g v x) (box_sum g v x 0) (box_sum g v x 4) (sums_squared g v x)
unfolding sums_squared
spread_half g v x c = close_within (box_close (record { holds = c.is_sound }) c.within c.some c.more)

-- ---- neither 2^83 nor an eighth would do
grid2_whole : Within grid2 (whole_of grid2)
grid2_whole = whole_within (chose 2 2 2 grid2 grid2_accepted).accepted

nat_abs_neg : (n : ℕ) → nat_abs (neg_ℤ (pos n)) ≡ n
nat_abs_neg zero = refl
nat_abs_neg (suc n) = refl

size_times : (K : ℤ) (d : ℕ) → nat_abs (K *ℤ pos d) ≡ nat_abs K * d
size_times (pos k) d = refl
size_times (negsuc k) d = nat_abs_neg (suc k * d)

-- 2^83 times a computed spread need not be a whole number
pub not_83 : HasSpread grid2 fine_table (whole_of grid2)
    × ((K : ℤ) → Times (2 ^ 83) (computed_spread grid2 fine_table (whole_of grid2)) K → ⊥)
unfolding Times signed one_bin whole_of
not_83 = (
  record {
    is_sound = fine_worked.0;
    within = grid2_whole;
    more = refl;
    some = subst (λ (n : ℕ). 1 ≤ n) (sym fine_worked.2) (lit≤ tt);
  },
  (λ K t.
      let e : pos (2 ^ 83) *ℤ neg_ℤ (pos (6004799503160661 * 1)) ≡ K *ℤ pos (2 ^ 84) =
      subst (λ (r : Float). Times (2 ^ 83) r K) fine_worked.1 t in
      odd (nat_abs K) (eq_of_mul-eq-mul_right (2 ^ 83) (lit< tt) 6004799503160661 (nat_abs K * 2)
      (ap nat_abs e ∙ size_times K (2 ^ 84) ∙ sym (mul_assoc (nat_abs K) 2 (2 ^ 83))))),
)
  where
    odd : (k : ℕ) → 6004799503160661 ≡ k * 2 → ⊥
    odd k e = omega arith

-- and a computed spread may lie an eighth or more from the exact one
pub not_an_eighth : HasSpread grid2 far_table (whole_of grid2)
    × ((K : ℤ) → Times (2 ^ 84) (computed_spread grid2 far_table (whole_of grid2)) K
    → box_sum grid2 far_table (whole_of grid2) 0 * 2 ^ 82
    ≤ apart K (box_sum grid2 far_table (whole_of grid2) 0) (box_sum grid2 far_table (whole_of grid2) 4)
    (sums_squared grid2 far_table (whole_of grid2)))
unfolding Times signed apart one_bin whole_of
not_an_eighth = (
  record {
    is_sound = far_worked.0;
    within = grid2_whole;
    more = refl;
    some = subst (λ (n : ℕ). 1 ≤ n) (sym far_worked.2) (lit≤ tt);
  },
  (λ K t. rw (far_worked.2, far_worked.3, far_worked.4)
      (far K (subst (λ (r : Float). Times (2 ^ 84) r K) far_worked.1 t))),
)
  where
    far : (K : ℤ) → pos (2 ^ 84) *ℤ neg_ℤ (pos (3 * 1)) ≡ K *ℤ pos 4
        → 3635542860 * 2 ^ 82 ≤ apart K 3635542860 694346204755331 2524325387066343710556102
    far (pos k) e = absurd (pos-ne-negsuc (k * 4) _ (sym e))
    far (negsuc k) e =
        subst (λ (j : ℕ). 3635542860 * 2 ^ 82 ≤ apart (neg_ℤ (pos j)) 3635542860 694346204755331
        2524325387066343710556102)
        (sym (eq_of_mul-eq-mul_right 4 (lit< tt) (suc k) (3 * 2 ^ 82)
        (sym (ap nat_abs e ∙ size_times (negsuc k) 4))))
        (lit≤ tt)
