-- Laws of counting, among n numbers from i on, those for which a test holds, and of the first of them.
-- Assumes nothing.
use mathlib.Core.Path.{◌≡◌, refl, sym, ap, ◌∙◌}
use mathlib.Core.Bool.{Bool, true, false, cond}
use Prim.Native.Nat.{ℕ, zero, suc, ◌+◌, ◌≤◌, ◌<◌}
use native.Mathlib.Nat.{add-zero, add-suc, suc-add, zero-add}
use native.Mathlib.Decide.{ℕ_discrete}
use native.Mathlib.Omega.{arith}
use Rattle.basics.specs.Range.{sum_from}
use Rattle.basics.proofs.Range.{sum_last, sum_bounded}
use Rattle.compare.specs.Compare.{first_from}

-- 1 where the test holds
abbrev pub one : Bool → ℕ
one b = cond b 1 0

-- how many there are
abbrev pub count : ℕ → ℕ → (ℕ → Bool) → ℕ
count i n f = sum_from i n (λ p. one (f p))

pub one_at_most : (b : Bool) → one b ≤ 1
one_at_most true = omega arith
one_at_most false = omega arith

pub count_high : (n : ℕ) (f : ℕ → Bool) → count 0 n f ≤ n
count_high n f = omega (arith, sum_bounded 0 n 1 (λ p. one (f p)) (λ p. one_at_most (f p)))

-- ---- where none is found
pub first_none : (i n : ℕ) (f : ℕ → Bool) → count i n f ≡ 0 → first_from i n f ≡ i + n
unfolding first_from sum_from
first_none i zero f e = sym (add-zero i)
first_none i (suc n) f e = go (f i) refl (first_none (suc i) n f)
  where
    go : (b : Bool) → f i ≡ b → (count (suc i) n f ≡ 0 → first_from (suc i) n f ≡ suc i + n)
        → first_from i (suc n) f ≡ i + suc n
    go true q later = absurd (omega (arith, e, ap one q))
    go false q later =
        ap (λ (b : Bool). cond b i (first_from (suc i) n f)) q ∙ later (omega (arith, e, ap one q))
        ∙ (suc-add i n ∙ sym (add-suc i n))

-- ---- one number more
-- it is the first that is found
pub first_here : (i n : ℕ) (f : ℕ → Bool) → count i n f ≡ 0 → f (i + n) ≡ true → first_from i (n + 1) f ≡ i + n
unfolding first_from sum_from
first_here i zero f e h = rw (add-zero i) (ap (λ (b : Bool). cond b i (suc i)) (rw (add-zero i) at h))
first_here i (suc n) f e h = go (f i) refl (first_here (suc i) n f)
  where
    same : suc i + n ≡ i + suc n
    same = suc-add i n ∙ sym (add-suc i n)

    go : (b : Bool) → f i ≡ b
        → (count (suc i) n f ≡ 0 → f (suc i + n) ≡ true → first_from (suc i) (n + 1) f ≡ suc i + n)
        → first_from i (suc n + 1) f ≡ i + suc n
    go true q later = absurd (omega (arith, e, ap one q))
    go false q later =
        ap (λ (k : ℕ). first_from i k f) (suc-add n 1)
        ∙ ap (λ (b : Bool). cond b i (first_from (suc i) (n + 1) f)) q
        ∙ later (omega (arith, e, ap one q)) (ap f same ∙ h)
        ∙ same

-- one was found before
pub first_before : (i n : ℕ) (f : ℕ → Bool) → 0 < count i n f → first_from i (n + 1) f ≡ first_from i n f
unfolding first_from sum_from
first_before i zero f h = absurd (omega arith)
first_before i (suc n) f h =
    ap (λ (k : ℕ). first_from i k f) (suc-add n 1) ∙ go (f i) refl (first_before (suc i) n f)
  where
    go : (b : Bool) → f i ≡ b → (0 < count (suc i) n f → first_from (suc i) (n + 1) f ≡ first_from (suc i) n f)
        → first_from i (suc (n + 1)) f ≡ first_from i (suc n) f
    go true q later = rw q refl
    go false q later = rw q (later (omega (arith, h, ap one q)))

-- ---- what a loop has found below p of n numbers: how many, and the first, which is n as long as there is none
pub record Found (n : ℕ) (f : ℕ → Bool) (p differ at : ℕ) : Type 0 where
  pub many : differ ≡ count 0 p f
  pub none : differ ≡ 0 → at ≡ n
  pub some : 0 < differ → at ≡ first_from 0 p f

pub none_found : (n : ℕ) (f : ℕ → Bool) → Found n f 0 0 n
unfolding sum_from
none_found n f = record { many = refl; none = λ e. refl; some = λ h. absurd (omega arith) }

module _ {n : ℕ} {f : ℕ → Bool} {p differ at : ℕ} (h : Found n f p differ at) where
  there : f (0 + p) ≡ f p
  there = ap f (zero-add p)

  many : (y : Bool) → y ≡ f p → differ + one y ≡ count 0 (p + 1) f
  many y q =
      omega (
        arith,
        h.many,
        sum_last 0 p (λ k. one (f k)),
        ap one there,
        ap one q,
      )

  pub first_found : true ≡ f p → differ ≡ 0 → Found n f (p + 1) (differ + 1) p
  first_found q d =
      record {
        many = many true q;
        none = λ z. absurd (omega arith);
        some = λ z. sym (first_here 0 p f (sym h.many ∙ d) (there ∙ sym q) ∙ zero-add p);
      }

  pub another_found : true ≡ f p → (differ ≡ 0 → ⊥) → Found n f (p + 1) (differ + 1) at
  another_found q d =
      record {
        many = many true q;
        none = λ z. absurd (omega arith);
        some = λ z. h.some (omega arith) ∙ sym (first_before 0 p f (omega (arith, h.many)));
      }

  pub not_found : false ≡ f p → Found n f (p + 1) differ at
  not_found q =
      record {
        many = sym (add-zero differ) ∙ many false q;
        none = h.none;
        some = λ z. h.some z ∙ sym (first_before 0 p f (omega (arith, h.many, z)));
      }

-- all of them were looked at
pub all_found : {n : ℕ} {f : ℕ → Bool} {differ at : ℕ} → Found n f n differ at
    → (differ ≡ count 0 n f) × (at ≡ first_from 0 n f)
all_found {n} {f} {differ} {at} h = (h.many, go (ℕ_discrete differ 0))
  where
    go : Dec (differ ≡ 0) → at ≡ first_from 0 n f
    go (yes d) = h.none d ∙ sym (first_none 0 n f (sym h.many ∙ d) ∙ zero-add n)
    go (no d) = h.some (omega arith)
