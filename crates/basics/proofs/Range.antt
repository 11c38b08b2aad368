-- Laws of lists, sums and tests over n numbers from i on.
-- Assumes nothing.
use mathlib.Core.Path.{◌≡◌, refl, sym, ap, ◌∙◌}
use mathlib.Core.Bool.{Bool, true, false, cond, ◌&&◌}
use mathlib.Core.List.{List}
use Prim.Native.Nat.{ℕ, zero, suc, ◌+◌, ◌-◌, ◌*◌, ◌≤◌, ◌<◌}
use native.Mathlib.Nat.{add-zero, zero-add, add_assoc, add-suc, suc-add, le_of_suc-le-suc, zero-mul, suc-mul, sub_self}
use native.Mathlib.Nat.{mul-zero, mul-add, add_comm}
use native.Mathlib.Omega.{arith}
use native.Mathlib.Decide.{ℕ_discrete}
use borrow.Author.Tests.{eq-eqb, ne_eqb}
use lib.Dec.{eqb}
use lib.ListN.{length, get_or, set}
use lib.Seq.{ext_get_or, get_or-set_same, get_or-set_other}
use Rattle.basics.specs.Range.{list_from, sum_from, all_from}

-- ---- lists
pub length_list : {A : Type 0} (i n : ℕ) (f : ℕ → A) → length (list_from i n f) ≡ n
unfolding list_from
length_list i zero f = refl
length_list i (suc n) f = ap suc (length_list (suc i) n f)

pub list_at : {A : Type 0} (i n : ℕ) (f : ℕ → A) (k : ℕ) (d : A) → k < n → get_or (list_from i n f) k d ≡ f (i + k)
unfolding list_from
list_at i zero f k d h = absurd (omega arith)
list_at i (suc n) f zero d h = ap f (sym (add-zero i))
list_at i (suc n) f (suc k) d h =
    list_at (suc i) n f k d (le_of_suc-le-suc h) ∙ ap f (suc-add i k ∙ sym (add-suc i k))

-- a list that has f k at each k of its n places
pub list_is : {A : Type 0} (n : ℕ) (f : ℕ → A) (l : List A) (d : A) → length l ≡ n
    → ((k : ℕ) → k < n → get_or l k d ≡ f k) → l ≡ list_from 0 n f
list_is n f l d e h =
    ext_get_or d l (list_from 0 n f) (e ∙ sym (length_list 0 n f))
    (λ k b. h k (rw e at b) ∙ ap f (sym (zero-add k)) ∙ sym (list_at 0 n f k d (rw e at b)))

-- a list that a loop fills from the front has f k at each place k below n
abbrev pub Filled : List ℕ → (ℕ → ℕ) → ℕ → Type 0
Filled l f n = (k : ℕ) → k < n → get_or l k 0 ≡ f k

pub filled_more : (l : List ℕ) (f : ℕ → ℕ) (n x : ℕ) → n < length l → x ≡ f n → Filled l f n
    → Filled (set l n x) f (n + 1)
filled_more l f n x h e old k b = go (ℕ_discrete k n)
  where
    go : Dec (k ≡ n) → get_or (set l n x) k 0 ≡ f k
    go (yes d) = rw d (get_or-set_same l n x 0 h ∙ e)
    go (no d) = get_or-set_other l n k x 0 d ∙ old k (omega arith)

-- ---- sums
pub sum_same : (i n : ℕ) (f g : ℕ → ℕ) → ((p : ℕ) → i ≤ p → p < i + n → f p ≡ g p) → sum_from i n f ≡ sum_from i n g
unfolding sum_from
sum_same i zero f g h = refl
sum_same i (suc n) f g h =
    λ k. h i (omega arith) (omega (arith, add-suc i n)) k
    + sum_same (suc i) n f g (λ p a b. h p (omega arith) (omega (arith, b, suc-add i n, add-suc i n))) k

pub sum_append : (i n m : ℕ) (f : ℕ → ℕ) → sum_from i (n + m) f ≡ sum_from i n f + sum_from (i + n) m f
unfolding sum_from
sum_append i zero m f = rw (zero-add m, add-zero i) (sym (zero-add (sum_from i m f)))
sum_append i (suc n) m f =
    ap (λ (k : ℕ). sum_from i k f) (suc-add n m)
    ∙ ap (λ (x : ℕ). f i + x)
    (sum_append (suc i) n m f
    ∙ ap (λ (k : ℕ). sum_from (suc i) n f + sum_from k m f) (suc-add i n ∙ sym (add-suc i n)))
    ∙ sym (add_assoc (f i) (sum_from (suc i) n f) (sum_from (i + suc n) m f))

pub sum_last : (i n : ℕ) (f : ℕ → ℕ) → sum_from i (n + 1) f ≡ sum_from i n f + f (i + n)
unfolding sum_from
sum_last i n f = sum_append i n 1 f ∙ ap (λ (x : ℕ). sum_from i n f + x) (add-zero (f (i + n)))

-- the sum up to k is that up to i and from there on
pub sum_split : (i k : ℕ) (f : ℕ → ℕ) → i ≤ k → sum_from 0 k f ≡ sum_from 0 i f + sum_from i (k - i) f
sum_split i k f h =
    ap (λ (n : ℕ). sum_from 0 n f) (parts i k h) ∙ sum_append 0 i (k - i) f
    ∙ ap (λ (n : ℕ). sum_from 0 i f + sum_from n (k - i) f) (zero-add i)
  where
    parts : (i k : ℕ) → i ≤ k → k ≡ i + (k - i)
    parts i k h = omega arith

-- the sum from i up to k, as a loop over k has it
pub run_none : (i : ℕ) (f : ℕ → ℕ) → sum_from i (i - i) f ≡ 0
unfolding sum_from
run_none i f = rw (sub_self i) refl

pub run_more : (i k : ℕ) (f : ℕ → ℕ) → i ≤ k → sum_from i ((k + 1) - i) f ≡ sum_from i (k - i) f + f k
run_more i k f h =
    ap (λ (n : ℕ). sum_from i n f) (longer i k h) ∙ sum_last i (k - i) f
    ∙ ap (λ (n : ℕ). sum_from i (k - i) f + f n) (there i k h)
  where
    longer : (i k : ℕ) → i ≤ k → (k + 1) - i ≡ (k - i) + 1
    longer i k h = omega arith

    there : (i k : ℕ) → i ≤ k → i + (k - i) ≡ k
    there i k h = omega arith

pub sum_plus : (i n : ℕ) (f g : ℕ → ℕ) → sum_from i n (λ p. f p + g p) ≡ sum_from i n f + sum_from i n g
unfolding sum_from
sum_plus i zero f g = refl
sum_plus i (suc n) f g = omega (arith, sum_plus (suc i) n f g)

pub sum_zero : (i n : ℕ) → sum_from i n (λ p. 0) ≡ 0
unfolding sum_from
sum_zero i zero = refl
sum_zero i (suc n) = omega (arith, sum_zero (suc i) n)

-- n equal terms
pub sum_equal : (i n x : ℕ) → sum_from i n (λ p. x) ≡ n * x
unfolding sum_from
sum_equal i zero x = sym (zero-mul x)
sum_equal i (suc n) x = omega (arith, sum_equal (suc i) n x, suc-mul n x)

pub sum_bounded : (i n x : ℕ) (f : ℕ → ℕ) → ((p : ℕ) → f p ≤ x) → sum_from i n f ≤ n * x
unfolding sum_from
sum_bounded i zero x f h = omega (arith, zero-mul x)
sum_bounded i (suc n) x f h = omega (arith, h i, sum_bounded (suc i) n x f h, suc-mul n x)

-- term by term
pub sum_le : (i n : ℕ) (f g : ℕ → ℕ) → ((p : ℕ) → i ≤ p → p < i + n → f p ≤ g p) → sum_from i n f ≤ sum_from i n g
unfolding sum_from
sum_le i zero f g h = omega arith
sum_le i (suc n) f g h =
    omega (
      arith,
      h i (omega arith) (omega (arith, add-suc i n)),
      sum_le (suc i) n f g (λ p a b. h p (omega arith) (omega (arith, b, suc-add i n, add-suc i n))),
    )

pub sum_scale : (k i n : ℕ) (f : ℕ → ℕ) → sum_from i n (λ p. k * f p) ≡ k * sum_from i n f
unfolding sum_from
sum_scale k i zero f = sym (mul-zero k)
sum_scale k i (suc n) f = ap (λ (x : ℕ). k * f i + x) (sum_scale k (suc i) n f)
    ∙ sym (mul-add k (f i) (sum_from (suc i) n f))

-- more terms
pub sum_grow : (i n m : ℕ) (f : ℕ → ℕ) → n ≤ m → sum_from i n f ≤ sum_from i m f
sum_grow i n m f h =
    rw (parts n m h, sum_append i n (m - n) f) (omega arith)
  where
    parts : (n m : ℕ) → n ≤ m → m ≡ n + (m - n)
    parts n m h = omega arith

-- n runs of m terms, one after the other
pub sum_blocks : (n m i : ℕ) (f : ℕ → ℕ) → sum_from (i * m) (n * m) f ≡ sum_from i n (λ k. sum_from (k * m) m f)
unfolding sum_from
sum_blocks zero m i f = ap (λ (x : ℕ). sum_from (i * m) x f) (zero-mul m)
sum_blocks (suc n) m i f =
    ap (λ (x : ℕ). sum_from (i * m) x f) (suc-mul n m ∙ add_comm (n * m) m)
    ∙ sum_append (i * m) m (n * m) f
    ∙ ap (λ (x : ℕ). sum_from (i * m) m f + sum_from x (n * m) f) (sym (suc-mul i m))
    ∙ ap (λ (x : ℕ). sum_from (i * m) m f + x) (sum_blocks n m (suc i) f)

-- the terms counted from another number
pub sum_shift : (a i n : ℕ) (f : ℕ → ℕ) → sum_from (a + i) n f ≡ sum_from i n (λ k. f (a + k))
unfolding sum_from
sum_shift a i zero f = refl
sum_shift a i (suc n) f =
    ap (λ (x : ℕ). f (a + i) + x) (ap (λ (x : ℕ). sum_from x n f) (sym (add-suc a i)) ∙ sum_shift a (suc i) n f)

-- no term is larger than the sum
pub term_le : (i n : ℕ) (f : ℕ → ℕ) (p : ℕ) → i ≤ p → p < i + n → f p ≤ sum_from i n f
unfolding sum_from
term_le i zero f p a b = absurd (omega arith)
term_le i (suc n) f p a b = go (ℕ_discrete p i) (λ l. term_le (suc i) n f p l (omega (arith, suc-add i n, add-suc i n)))
  where
    go : Dec (p ≡ i) → (suc i ≤ p → f p ≤ sum_from (suc i) n f) → f p ≤ f i + sum_from (suc i) n f
    go (yes e) later = rw e (omega arith)
    go (no d) later = omega (arith, later (omega arith))

-- x where p is q, else nothing
abbrev pub hit : ℕ → ℕ → ℕ → ℕ
hit q p x = cond (eqb q p) x 0

pub hit_yes : (q p x : ℕ) → q ≡ p → hit q p x ≡ x
hit_yes q p x e = ap (λ (b : Bool). cond b x 0) (eq-eqb q p e)

pub hit_no : (q p x : ℕ) → (q ≡ p → ⊥) → hit q p x ≡ 0
hit_no q p x n = ap (λ (b : Bool). cond b x 0) (ne_eqb q p n)

sum_miss : (i n q x : ℕ) → q < i → sum_from i n (λ p. hit q p x) ≡ 0
unfolding sum_from
sum_miss i zero q x h = refl
sum_miss i (suc n) q x h = omega (arith, hit_no q i x (omega arith), sum_miss (suc i) n q x (omega arith))

-- one place is hit, once
pub sum_hit : (i n q x : ℕ) → i ≤ q → q < i + n → sum_from i n (λ p. hit q p x) ≡ x
unfolding sum_from
sum_hit i zero q x a b = absurd (omega arith)
sum_hit i (suc n) q x a b = go (ℕ_discrete q i) (λ k. sum_hit (suc i) n q x k (omega (arith, suc-add i n, add-suc i n)))
  where
    go : Dec (q ≡ i) → (suc i ≤ q → sum_from (suc i) n (λ p. hit q p x) ≡ x)
        → hit q i x + sum_from (suc i) n (λ p. hit q p x) ≡ x
    go (yes e) ih = omega (arith, hit_yes q i x e, sum_miss (suc i) n q x (omega arith))
    go (no m) ih = omega (arith, hit_no q i x m, ih (omega arith))

-- ---- tests
pub and_left : (a b : Bool) → (a && b) ≡ true → a ≡ true
and_left true b e = refl
and_left false b e = e

pub and_right : (a b : Bool) → (a && b) ≡ true → b ≡ true
and_right true b e = e
and_right false b e = absurd (mathlib.Core.Bool.true≢false (sym e))

pub and_first : {a : Bool} (b : Bool) → a ≡ true → (a && b) ≡ b
and_first b p = ap (λ (x : Bool). x && b) p

pub and_stop : {a : Bool} (b : Bool) → a ≡ false → (a && b) ≡ false
and_stop b p = ap (λ (x : Bool). x && b) p

pub and_false : (a : Bool) → (a && false) ≡ false
and_false true = refl
and_false false = refl

and_true : (a : Bool) → (a && true) ≡ a
and_true true = refl
and_true false = refl

pub and_assoc : (a b c : Bool) → ((a && b) && c) ≡ (a && (b && c))
and_assoc true b c = refl
and_assoc false b c = refl

pub tests_same : (a b : Bool) → (a ≡ true → b ≡ true) → (b ≡ true → a ≡ true) → a ≡ b
tests_same true b f g = sym (f refl)
tests_same false true f g = g refl
tests_same false false f g = refl

-- what is never true is false
pub never_true : (a : Bool) → (a ≡ true → ⊥) → a ≡ false
never_true true n = absurd (n refl)
never_true false n = refl

pub all_true : (i n : ℕ) (f : ℕ → Bool) → ((p : ℕ) → i ≤ p → p < i + n → f p ≡ true) → all_from i n f ≡ true
unfolding all_from
all_true i zero f h = refl
all_true i (suc n) f h =
    rw (h i (omega arith) (omega (arith, add-suc i n)))
    (all_true (suc i) n f (λ p a b. h p (omega arith) (omega (arith, b, suc-add i n, add-suc i n))))

pub all_at : (i n : ℕ) (f : ℕ → Bool) → all_from i n f ≡ true → (p : ℕ) → i ≤ p → p < i + n → f p ≡ true
unfolding all_from
all_at i zero f e p a b = absurd (omega arith)
all_at i (suc n) f e p a b =
    go (ℕ_discrete p i)
    (λ l. all_at (suc i) n f (and_right (f i) (all_from (suc i) n f) e) p l (omega (arith, suc-add i n, add-suc i n)))
  where
    go : Dec (p ≡ i) → (suc i ≤ p → f p ≡ true) → f p ≡ true
    go (yes d) later = rw d (and_left (f i) (all_from (suc i) n f) e)
    go (no d) later = later (omega arith)

pub all_append : (i n m : ℕ) (f : ℕ → Bool) → all_from i (n + m) f ≡ (all_from i n f && all_from (i + n) m f)
unfolding all_from
all_append i zero m f = rw (zero-add m, add-zero i) refl
all_append i (suc n) m f =
    ap (λ (k : ℕ). all_from i k f) (suc-add n m)
    ∙ ap (λ (x : Bool). f i && x)
    (all_append (suc i) n m f
    ∙ ap (λ (k : ℕ). all_from (suc i) n f && all_from k m f) (suc-add i n ∙ sym (add-suc i n)))
    ∙ sym (and_assoc (f i) (all_from (suc i) n f) (all_from (i + suc n) m f))

pub all_last : (i n : ℕ) (f : ℕ → Bool) → all_from i (n + 1) f ≡ (all_from i n f && f (i + n))
unfolding all_from
all_last i n f = all_append i n 1 f ∙ ap (λ (b : Bool). all_from i n f && b) (and_true (f (i + n)))

pub all_same : (i n : ℕ) (f g : ℕ → Bool) → ((p : ℕ) → i ≤ p → p < i + n → f p ≡ g p) → all_from i n f ≡ all_from i n g
unfolding all_from
all_same i zero f g h = refl
all_same i (suc n) f g h =
    λ k. h i (omega arith) (omega (arith, add-suc i n)) k
    && all_same (suc i) n f g (λ p a b. h p (omega arith) (omega (arith, b, suc-add i n, add-suc i n))) k
