-- Each operation on values that are not negative is `round` of the exact result: the operands stand as fractions.
-- Assumes nothing.
use mathlib.Core.Path.{◌≡◌, refl, sym, ap, ap₂, ◌∙◌, subst}
use Prim.Native.Nat.{ℕ, ◌+◌, ◌-◌, ◌*◌, ◌≤◌, ◌<◌, ◌^◌}
use native.Mathlib.Nat.{mul_assoc, mul_comm, mul_left_comm, mul-mul-mul_comm, mul-pos, zero-mul, mul-one, one-mul}
use native.Mathlib.Nat.{add-mul, mul-sub, mul-le-mul_right, le_of_mul-le-mul_right, le_trans, le_of_eq, not-le_of_lt}
use native.Mathlib.Omega.{arith}
use mathlib.Core.Bool.{Bool, true, false, not, cond, true≢false}
use lib.IntN.{ℤ, pos}
use lib.Dec.{T, ltb, eqb, eqb→eq, ltb→lt, nltb→le, lit<}
use lib.Ieee.{Float, nan, inf, fin, Format, prec, up, down, round, mul, sub, add, div, of_int}
use lib.Ieee.Fits.{up_pos, down_pos}
use lib.Ieee.Exact.{HasValue}
use lib.Ieee.Back.{round_whole}
use lib.Ieee.Scale.{round_same}

ruleset ac = (mul_assoc, mul_comm, mul_left_comm)

-- x is a / c, not negative
pub record Is (x : Float) (a c : ℕ) : Type 0 where
  pub mantissa : ℕ
  pub exponent : ℤ
  pub same : x ≡ fin false mantissa exponent
  pub below : 0 < c
  pub cross : mantissa * up exponent * c ≡ a * down exponent

pub is_of : (x : Float) (a c : ℕ) → 0 < c → HasValue x false a c → Is x a c
is_of nan a c C h = absurd h
is_of (inf s) a c C h = absurd h
is_of (fin true m e) a c C h = absurd (true≢false h.0)
is_of (fin false m e) a c C h = record { mantissa = m; exponent = e; same = refl; below = C; cross = h.1 }

pub value_of : {x : Float} {a c : ℕ} → Is x a c → HasValue x false a c
value_of {a = a} {c} p = subst (λ (z : Float). HasValue z false a c) (sym p.same) (refl, p.cross)

-- a whole number of no more digits than the format keeps
pub exact : (f : Format) {x : Float} (n : ℕ) → n ≤ 2 ^ prec f → x ≡ round f false n 1 → Is x n 1
exact f n h e =
    subst (λ (z : Float). Is z n 1) (sym e) (is_of (round f false n 1) n 1 (lit< tt) (round_whole f false n h))

pub whole_is : (f : Format) (n : ℕ) → of_int f (pos n) ≡ round f false n 1
unfolding of_int
whole_is f n = refl

pub of_whole : (f : Format) (n : ℕ) → n ≤ 2 ^ prec f → Is (of_int f (pos n)) n 1
of_whole f n h = exact f n h (whole_is f n)

pub sub_mul : (a b k : ℕ) → (a - b) * k ≡ a * k - b * k
sub_mul a b k = mul_comm (a - b) k ∙ mul-sub k a b ∙ ap₂ (λ (x y : ℕ). x - y) (mul_comm k a) (mul_comm k b)

-- which of two fractions is larger does not turn on how they are written
order_cross : (A B a b k l : ℕ) → 0 < k → A * k ≡ a * l → B * k ≡ b * l → b ≤ a → B ≤ A
order_cross A B a b k l K h g le =
    le_of_mul-le-mul_right (le_trans (le_of_eq g) (le_trans (mul-le-mul_right l le) (le_of_eq (sym h)))) K

-- ---- cross multiplication: A / p is a / c, and B / q is b / d
module _ (A p B q a c b d : ℕ) (h : A * c ≡ a * p) (k : B * d ≡ b * q) where
  prod_cross : A * B * (c * d) ≡ a * b * (p * q)
  prod_cross = mul-mul-mul_comm A B c d ∙ ap₂ (λ (x y : ℕ). x * y) h k ∙ mul-mul-mul_comm a p b q

  left_cross : A * q * (c * d) ≡ a * d * (p * q)
  left_cross = mul-mul-mul_comm A q c d ∙ ap (λ (x : ℕ). x * (q * d)) h ∙ simp ac

  right_cross : B * p * (c * d) ≡ b * c * (p * q)
  right_cross =
      ap (λ (x : ℕ). B * p * x) (mul_comm c d) ∙ mul-mul-mul_comm B p d c ∙ ap (λ (x : ℕ). x * (p * c)) k ∙ simp ac

  quot_cross : A * q * (b * c) ≡ a * d * (B * p)
  quot_cross =
      let x : A * c * (b * q) ≡ a * p * (B * d) = ap₂ (λ (x y : ℕ). x * y) h (sym k) in
      simp ac (simp ac at x)

  sum_cross : (A * q + B * p) * (c * d) ≡ (a * d + b * c) * (p * q)
  sum_cross =
      add-mul (A * q) (B * p) (c * d) ∙ ap₂ (λ (x y : ℕ). x + y) left_cross right_cross
      ∙ sym (add-mul (a * d) (b * c) (p * q))

  left_less : (A * q - B * p) * (c * d) ≡ (a * d - b * c) * (p * q)
  left_less =
      sub_mul (A * q) (B * p) (c * d) ∙ ap₂ (λ (x y : ℕ). x - y) left_cross right_cross
      ∙ sym (sub_mul (a * d) (b * c) (p * q))

  right_less : (B * p - A * q) * (c * d) ≡ (b * c - a * d) * (p * q)
  right_less =
      sub_mul (B * p) (A * q) (c * d) ∙ ap₂ (λ (x y : ℕ). x - y) right_cross left_cross
      ∙ sym (sub_mul (b * c) (a * d) (p * q))

-- ---- the operations
module _ (f : Format) {x y : Float} {a c b d : ℕ} (p : Is x a c) (q : Is y b d) where
  -- the operands' own numerators and denominators
  A : ℕ
  A = p.mantissa * up p.exponent

  P : ℕ
  P = down p.exponent

  B : ℕ
  B = q.mantissa * up q.exponent

  Q : ℕ
  Q = down q.exponent

  own_pos : 0 < P * Q
  unfolding P Q
  own_pos = mul-pos (down_pos p.exponent) (down_pos q.exponent)

  given_pos : 0 < c * d
  given_pos = mul-pos p.below q.below

  pub mul_of : mul f x y ≡ round f false (a * b) (c * d)
  unfolding mul A P B Q
  mul_of =
      ap₂ (mul f) p.same q.same
      ∙ round_same f false (A * B) (P * Q) (a * b) (c * d) own_pos given_pos
      (prod_cross A P B Q a c b d p.cross q.cross)

  pub add_of : add f x y ≡ round f false (a * d + b * c) (c * d)
  unfolding add A P B Q
  add_of =
      ap₂ (add f) p.same q.same
      ∙ round_same f false (A * Q + B * P) (P * Q) (a * d + b * c) (c * d) own_pos given_pos
      (sum_cross A P B Q a c b d p.cross q.cross)

  -- a divisor above zero
  pub div_of : 0 < b → div f x y ≡ round f false (a * d) (b * c)
  unfolding div A P B Q
  div_of N = ap₂ (div f) p.same q.same ∙ go (eqb q.mantissa 0) (eqb→eq q.mantissa 0)
    where
      some : (k u : ℕ) → k * u * d ≡ b * Q → k ≡ 0 → ⊥
      some k u e z =
          let h : 0 < b * Q = mul-pos N (down_pos q.exponent) in
          let l : 0 * u * d ≡ b * Q = subst (λ (i : ℕ). i * u * d ≡ b * Q) z e in
          omega (arith, simp zero-mul at l)

      above : (k : ℕ) → (k ≡ 0 → ⊥) → 0 < k
      above k h = omega arith

      none : q.mantissa ≡ 0 → ⊥
      none = some q.mantissa (up q.exponent) q.cross

      go : (t : Bool) → (T t → q.mantissa ≡ 0)
          → cond t (cond (eqb p.mantissa 0) nan (inf false)) (round f false (A * Q) (B * P))
          ≡ round f false (a * d) (b * c)
      go true z = absurd (none (z tt))
      go false z =
          round_same f false (A * Q) (B * P) (a * d) (b * c)
          (mul-pos (mul-pos (above q.mantissa none) (up_pos q.exponent)) (down_pos p.exponent))
          (mul-pos N p.below)
          (quot_cross A P B Q a c b d p.cross q.cross)

  -- a difference, by its sign
  pub sub_of : b * c ≤ a * d → sub f x y ≡ round f false (a * d - b * c) (c * d)
  unfolding sub A P B Q
  sub_of h = ap₂ (sub f) p.same q.same ∙ go (ltb (A * Q) (B * P)) (ltb→lt (A * Q) (B * P))
    where
      go : (t : Bool) → (T t → A * Q < B * P)
          → cond t (round f true (B * P - A * Q) (P * Q)) (round f false (A * Q - B * P) (P * Q))
          ≡ round f false (a * d - b * c) (c * d)
      go true z =
          absurd (not-le_of_lt (z tt) (order_cross (A * Q) (B * P) (a * d) (b * c) (c * d) (P * Q) given_pos
          (left_cross A P B Q a c b d p.cross q.cross) (right_cross A P B Q a c b d p.cross q.cross) h))
      go false z =
          round_same f false (A * Q - B * P) (P * Q) (a * d - b * c) (c * d) own_pos given_pos
          (left_less A P B Q a c b d p.cross q.cross)

  pub sub_under : a * d < b * c → sub f x y ≡ round f true (b * c - a * d) (c * d)
  unfolding sub A P B Q
  sub_under h = ap₂ (sub f) p.same q.same ∙ go (ltb (A * Q) (B * P)) (nltb→le (A * Q) (B * P))
    where
      go : (t : Bool) → (T (not t) → B * P ≤ A * Q)
          → cond t (round f true (B * P - A * Q) (P * Q)) (round f false (A * Q - B * P) (P * Q))
          ≡ round f true (b * c - a * d) (c * d)
      go true z =
          round_same f true (B * P - A * Q) (P * Q) (b * c - a * d) (c * d) own_pos given_pos
          (right_less A P B Q a c b d p.cross q.cross)
      go false z =
          absurd (not-le_of_lt h (order_cross (a * d) (b * c) (A * Q) (B * P) (P * Q) (c * d) own_pos
          (sym (left_cross A P B Q a c b d p.cross q.cross))
          (sym (right_cross A P B Q a c b d p.cross q.cross)) (z tt)))

-- ---- whole operands
module _ (f : Format) {x y : Float} {a b : ℕ} (p : Is x a 1) where
  pub add_whole : Is y b 1 → add f x y ≡ round f false (a + b) 1
  add_whole q = add_of f p q ∙ ap₂ (λ (i j : ℕ). round f false (i + j) 1) (mul-one a) (mul-one b)

  pub div_whole : Is y b 1 → 0 < b → div f x y ≡ round f false a b
  div_whole q N = div_of f p q N ∙ ap₂ (λ (i j : ℕ). round f false i j) (mul-one a) (mul-one b)

  -- less a fraction
  module _ {u : ℕ} (q : Is y b u) where
    pub less_of : b ≤ a * u → sub f x y ≡ round f false (a * u - b) u
    less_of h = sub_of f p q (rw mul-one h) ∙ ap₂ (λ (i j : ℕ). round f false (a * u - i) j) (mul-one b) (one-mul u)

    pub less_under : a * u < b → sub f x y ≡ round f true (b - a * u) u
    less_under h =
        sub_under f p q (rw mul-one h) ∙ ap₂ (λ (i j : ℕ). round f true (i - a * u) j) (mul-one b) (one-mul u)
