-- Positive colours: n * squares is Q and the weighted squared distances of all pairs. So where two colours differ, the
-- exact spread is one half or more, and the computed one is above 0.0.
-- Assumes nothing.
use mathlib.Core.Path.{◌≡◌, refl, sym, ap, ap₂, ◌∙◌, subst}
use mathlib.Core.Logic.{◌⊎◌, inl, inr}
use mathlib.Core.List.Memᴰ
use mathlib.Core.List.{List, [], ◌∷◌, Memᴰ}
use Prim.Native.Nat.{ℕ, zero, suc, ◌+◌, ◌-◌, ◌*◌, ◌≤◌, ◌<◌}
use native.Mathlib.Nat.{le_refl, le_trans, le_of_eq, le_of_lt, lt_of_not-le, not-le_of_lt, mul_comm, mul_assoc}
use native.Mathlib.Nat.{mul_left_comm, mul-add, add-mul, add_assoc, add_comm, add_left_comm, mul-pos, mul-le-mul_left}
use native.Mathlib.Nat.{mul-le-mul_right, zero-mul, mul-one, one-mul, zero-add, mul-suc, eq-zero-or-pos}
use native.Mathlib.Omega.{arith}
use native.Mathlib.Decide.{dec_le}
use Rattle.spread.specs.Spread.{exact_q}

-- the laws of a commutative semiring: simp sorts both sides of an equation by them
ruleset ring = (mul-add, add-mul, mul_assoc, mul_comm, mul_left_comm, add_assoc, add_comm, add_left_comm)

-- ---- colours with weights, and what they sum to
pub record Point : Type 0 where
  pub weight : ℕ
  pub one : ℕ
  pub two : ℕ
  pub three : ℕ

abbrev pub total : List Point → ℕ
total [] = 0
total (p ∷ l) = p.weight + total l

abbrev pub sum_by : (Point → ℕ) → List Point → ℕ
sum_by f [] = 0
sum_by f (p ∷ l) = p.weight * f p + sum_by f l

abbrev pub sum1 : List Point → ℕ
sum1 l = sum_by (λ p. p.one) l

abbrev pub sum2 : List Point → ℕ
sum2 l = sum_by (λ p. p.two) l

abbrev pub sum3 : List Point → ℕ
sum3 l = sum_by (λ p. p.three) l

abbrev pub squares : List Point → ℕ
squares l = sum_by (λ p. exact_q p.one p.two p.three) l

-- ---- squared distances
abbrev apart : ℕ → ℕ → ℕ
apart a b = (a - b) + (b - a)

abbrev sqd : ℕ → ℕ → ℕ
sqd a b = apart a b * apart a b

abbrev gap : Point → Point → ℕ
gap p q = sqd p.one q.one + sqd p.two q.two + sqd p.three q.three

-- of all of l to q, and of all pairs
abbrev dist : List Point → Point → ℕ
dist l q = sum_by (λ p. gap p q) l

abbrev pairs : List Point → ℕ
pairs [] = 0
pairs (p ∷ l) = p.weight * dist l p + pairs l

binomial : (a b : ℕ) → a * a + b * b ≡ sqd a b + (a * b + a * b)
binomial a b = elim (dec_le b a) [ yes h ↦ left h | no h ↦ right (le_of_lt (lt_of_not-le h)) ]
  where
    from : (b t : ℕ) → (b + t) * (b + t) + b * b ≡ t * t + ((b + t) * b + (b + t) * b)
    from b t = simp ring

    over : (a b : ℕ) → b ≤ a → a ≡ b + apart a b
    over a b h = omega arith

    under : (a b : ℕ) → a ≤ b → b ≡ a + apart a b
    under a b h = omega arith

    left : b ≤ a → a * a + b * b ≡ sqd a b + (a * b + a * b)
    left h = subst (λ (x : ℕ). x * x + b * b ≡ sqd a b + (x * b + x * b)) (sym (over a b h)) (from b (apart a b))

    right : a ≤ b → a * a + b * b ≡ sqd a b + (a * b + a * b)
    right h =
        subst (λ (x : ℕ). a * a + x * x ≡ sqd a b + (a * x + a * x)) (sym (under a b h))
        (simp ring (simp ring at (from a (apart a b))))

-- ---- the distances to one point: squares + n |x|² = dist + 2 (sums · x)
dist_step : (w a b c x y z q n d s t u : ℕ)
    → q + n * exact_q x y z ≡ d + ((s * x + t * y + u * z) + (s * x + t * y + u * z))
    → (w * exact_q a b c + q) + (w + n) * exact_q x y z
    ≡ (w * (sqd a x + sqd b y + sqd c z) + d)
    + (((w * a + s) * x + (w * b + t) * y + (w * c + u) * z)
    + ((w * a + s) * x + (w * b + t) * y + (w * c + u) * z))
dist_step w a b c x y z q n d s t u h =
    grouped w (exact_q a b c) (exact_q x y z) q n
    ∙ ap₂ (λ (i j : ℕ). w * i + j)
    (by_component a b c x y z
    ∙ ap₂ (λ (i j : ℕ). i + j) (binomial a x) (ap₂ (λ (i j : ℕ). i + j) (binomial b y) (binomial c z))) h
    ∙ collected w a b c x y z (sqd a x) (sqd b y) (sqd c z) d s t u
  where
    grouped : (w m k q n : ℕ) → (w * m + q) + (w + n) * k ≡ w * (m + k) + (q + n * k)
    grouped w m k q n = simp ring

    by_component : (a b c x y z : ℕ)
        → exact_q a b c + exact_q x y z ≡ (a * a + x * x) + ((b * b + y * y) + (c * c + z * z))
    by_component a b c x y z = omega arith

    collected : (w a b c x y z i j k d s t u : ℕ)
        → w * ((i + (a * x + a * x)) + ((j + (b * y + b * y)) + (k + (c * z + c * z))))
        + (d + ((s * x + t * y + u * z) + (s * x + t * y + u * z)))
        ≡ (w * (i + j + k) + d)
        + (((w * a + s) * x + (w * b + t) * y + (w * c + u) * z)
        + ((w * a + s) * x + (w * b + t) * y + (w * c + u) * z))
    collected w a b c x y z i j k d s t u = simp ring

dist_is : (l : List Point) (r : Point) → squares l + total l * exact_q r.one r.two r.three
    ≡ dist l r
    + ((sum1 l * r.one + sum2 l * r.two + sum3 l * r.three)
    + (sum1 l * r.one + sum2 l * r.two + sum3 l * r.three))
dist_is [] r = simp (zero-mul, zero-add)
dist_is (p ∷ l) r =
    dist_step p.weight p.one p.two p.three r.one r.two r.three (squares l) (total l) (dist l r)
    (sum1 l) (sum2 l) (sum3 l) (dist_is l r)

-- ---- all pairs: n * squares = Q + pairs
pairs_step : (w a b c n s t u q d e : ℕ) → n * q ≡ exact_q s t u + e
    → q + n * exact_q a b c ≡ d + ((s * a + t * b + u * c) + (s * a + t * b + u * c))
    → (w + n) * (w * exact_q a b c + q) ≡ exact_q (w * a + s) (w * b + t) (w * c + u) + (w * d + e)
pairs_step w a b c n s t u q d e h k =
    grouped w n q (exact_q a b c)
    ∙ ap₂ (λ (x y : ℕ). w * (w * exact_q a b c) + (w * x + y)) k h
    ∙ collected w a b c s t u d e
  where
    grouped : (w n q m : ℕ) → (w + n) * (w * m + q) ≡ w * (w * m) + (w * (q + n * m) + n * q)
    grouped w n q m = simp ring

    collected : (w a b c s t u d e : ℕ)
        → w * (w * exact_q a b c) + (w * (d + ((s * a + t * b + u * c) + (s * a + t * b + u * c))) + (exact_q s t u + e))
        ≡ exact_q (w * a + s) (w * b + t) (w * c + u) + (w * d + e)
    collected w a b c s t u d e = simp ring

pairs_is : (l : List Point) → total l * squares l ≡ exact_q (sum1 l) (sum2 l) (sum3 l) + pairs l
pairs_is [] = refl
pairs_is (p ∷ l) =
    pairs_step p.weight p.one p.two p.three (total l) (sum1 l) (sum2 l) (sum3 l) (squares l) (dist l p)
    (pairs l) (pairs_is l) (dist_is l p)

-- ---- one colour, or two that differ. Each point has some weight
abbrev pub Positive : List Point → Type 0
Positive [] = Unit {0}
Positive (p ∷ l) = (1 ≤ p.weight) × Positive l

pub record Alike (p q : Point) : Type 0 where
  pub one : p.one ≡ q.one
  pub two : p.two ≡ q.two
  pub three : p.three ≡ q.three

abbrev pub AllLike : List Point → Point → Type 0
AllLike [] q = Unit {0}
AllLike (p ∷ l) q = Alike p q × AllLike l q

abbrev pub OneColour : List Point → Type 0
OneColour l = (q : Point) × AllLike l q

-- a pair apart: no point is at distance zero of all, and the pairs' distances are half the weight or more
record Apart (l : List Point) : Type 0 where
  far : (r : Point) → 1 ≤ dist l r
  half : total l ≤ 2 * pairs l

gap_zero : (p q : Point) → gap p q ≡ 0 → Alike p q
gap_zero p q h =
    let z = parts (sqd p.one q.one) (sqd p.two q.two) (sqd p.three q.three) h in
    record {
      one = same p.one q.one z.0;
      two = same p.two q.two z.1;
      three =
          same p.three q.three z.2;
    }
  where
    parts : (i j k : ℕ) → i + j + k ≡ 0 → (i ≡ 0) × (j ≡ 0) × (k ≡ 0)
    parts i j k h = omega arith

    none : (a b : ℕ) → apart a b ≡ 0 → a ≡ b
    none a b e = omega arith

    clash : (k : ℕ) → k ≡ 0 → 0 < k → ⊥
    clash k e h = omega arith

    same : (a b : ℕ) → sqd a b ≡ 0 → a ≡ b
    same a b h =
        elim (eq-zero-or-pos (apart a b)) [ inl e ↦ none a b e | inr p ↦ absurd (clash (sqd a b) h (mul-pos p p)) ]

gap_comm : (p q : Point) → gap p q ≡ gap q p
gap_comm p q =
    ap₂ (λ (i j : ℕ). i + j) (ap₂ (λ (i j : ℕ). i + j) (go p.one q.one) (go p.two q.two))
    (go p.three q.three)
  where
    go : (a b : ℕ) → sqd a b ≡ sqd b a
    go a b = ap (λ (k : ℕ). k * k) (add_comm (a - b) (b - a))

gap_left : (p q r : Point) → Alike p q → gap p r ≡ gap q r
gap_left p q r e = λ i. sqd (e.one i) r.one + sqd (e.two i) r.two + sqd (e.three i) r.three

dist_right : (l : List Point) (p r : Point) → Alike p r → dist l p ≡ dist l r
dist_right l p r e = λ i. sum_by (λ s. sqd s.one (e.one i) + sqd s.two (e.two i) + sqd s.three (e.three i)) l

dist_alike : (l : List Point) (q r : Point) → AllLike l q → dist l r ≡ total l * gap q r
dist_alike [] q r h = sym (zero-mul (gap q r))
dist_alike (p ∷ l) q r h = ap₂ (λ (i j : ℕ). p.weight * i + j) (gap_left p q r h.0) (dist_alike l q r h.1)
    ∙ sym (add-mul p.weight (total l) (gap q r))

-- (w - 1) * (n - 1) is not negative
both_ones : (w n : ℕ) → 1 ≤ w → 1 ≤ n → w + n ≤ 2 * (w * n)
both_ones w zero p q = absurd (not-le_of_lt q (le_refl 0))
both_ones w (suc n) p q = let m : n ≤ w * n = le_trans (le_of_eq (sym (one-mul n))) (mul-le-mul_right n p) in
    omega (arith, mul-suc w n)

times_ge : (w d : ℕ) → 1 ≤ d → w ≤ w * d
times_ge w d h = le_trans (le_of_eq (sym (mul-one w))) (mul-le-mul_left w h)

add_left : (i j : ℕ) → 1 ≤ i → 1 ≤ i + j
add_left i j h = omega arith

add_right : (i j : ℕ) → 1 ≤ j → 1 ≤ i + j
add_right i j h = omega arith

-- another colour beside points of one colour
new : (p : Point) (l : List Point) (q : Point) → 1 ≤ p.weight → 1 ≤ total l → AllLike l q → 1 ≤ gap p q → Apart (p ∷ l)
new p l q W N same g =
    let away : total l ≤ dist l p =
    le_trans (times_ge (total l) (gap q p) (subst (λ (k : ℕ). 1 ≤ k) (gap_comm p q) g))
    (le_of_eq (sym (dist_alike l q p same))) in
    record {
      far = λ r. elim (eq-zero-or-pos (gap p r)) [
        | inl e ↦ add_right (p.weight * gap p r) (dist l r)
            (le_trans N (le_trans away (le_of_eq (dist_right l p r (gap_zero p r e)))))
        | inr h ↦ add_left (p.weight * gap p r) (dist l r) (mul-pos W h)
      ];
      half = big (p.weight + total l) (p.weight * total l) (p.weight * dist l p) (pairs l)
          (both_ones p.weight (total l) W N) (mul-le-mul_left p.weight away);
    }
  where
    big : (s m d e : ℕ) → s ≤ 2 * m → m ≤ d → s ≤ 2 * (d + e)
    big s m d e h k = omega arith

-- any colour beside colours that differ
more : (p : Point) (l : List Point) → 1 ≤ p.weight → Apart l → Apart (p ∷ l)
more p l W h =
    record {
      far = λ r. add_right (p.weight * gap p r) (dist l r) (h.far r);
      half = go p.weight (total l) (p.weight * dist l p) (pairs l) (times_ge p.weight (dist l p) (h.far p))
          h.half;
    }
  where
    go : (w t d e : ℕ) → w ≤ d → t ≤ 2 * e → w + t ≤ 2 * (d + e)
    go w t d e h k = omega arith

one_or_apart : (l : List Point) → Positive l → OneColour l ⊎ Apart l
one_or_apart [] h = inl (record { weight = 0; one = 0; two = 0; three = 0 }, tt)
one_or_apart (p ∷ []) h = inl (p, (record { one = refl; two = refl; three = refl }, tt))
one_or_apart (p ∷ (r ∷ l)) h =
    elim (one_or_apart (r ∷ l) h.1) [
      | inl o ↦ elim (eq-zero-or-pos (gap p o.0)) [
        | inl e ↦ inl (o.0, (gap_zero p o.0 e, o.1))
        | inr g ↦ inr (new p (r ∷ l) o.0 h.0 (add_left r.weight (total l) h.1.0) o.1 g)
      ]
      | inr k ↦ inr (more p (r ∷ l) h.0 k)
    ]

-- two that differ are not of one colour
pub two_colours : {l : List Point} {p r : Point} → Memᴰ p l → Memᴰ r l → (Alike p r → ⊥) → OneColour l → ⊥
two_colours {l} m k differ o =
    let a = like l o.0 o.1 m in
    let b = like l o.0 o.1 k in
    differ (record { one = a.one ∙ sym b.one; two = a.two ∙ sym b.two; three = a.three ∙ sym b.three })
  where
    like : (l : List Point) (q : Point) → AllLike l q → {p : Point} → Memᴰ p l → Alike p q
    like [] q h m = absurd (Memᴰ.not-nil m)
    like (s ∷ l) q h {p} m =
        elim (Memᴰ.cases_cons m)
        [ inl e ↦ subst (λ (z : Point). Alike z q) (sym e) h.0 | inr k ↦ like l q h.1 k ]

-- ---- the spread
module _ (l : List Point) (h : Positive l) (two : OneColour l → ⊥) where
  pub colours_half : 2 * exact_q (sum1 l) (sum2 l) (sum3 l) + total l ≤ 2 * (total l * squares l)
  colours_half =
      elim (one_or_apart l h) [
        | inl o ↦ absurd (two o)
        | inr k ↦ close (total l) (pairs l) (exact_q (sum1 l) (sum2 l) (sum3 l)) (total l * squares l) k.half
            (pairs_is l)
      ]
    where
      close : (n p v e : ℕ) → n ≤ 2 * p → e ≡ v + p → 2 * v + n ≤ 2 * e
      close n p v e h k = omega arith
