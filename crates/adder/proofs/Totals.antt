-- Laws of a total that is held to a limit: the weights of a batch added to it, each multiplied by a scale.
-- Assumes nothing.
use Rattle.std.specs.Prelude.{None, Some}
use Rattle.std.proofs.Common.{◌≡◌, sym, ap, ◌∙◌, Bool, cond, List, ◌++◌, ℕ, ◌+◌, ◌-◌, ◌*◌, ◌/◌, ◌≤◌, ◌<◌, length, get_or}
use Rattle.std.proofs.Common.{take, drop, zero-add, add-zero, mul-add, mul_comm, arith, length-append}
use Rattle.std.proofs.lemmas.List.{get_or-take, get_or-drop, get_or-append-add, length-take, length-take-le}
use Rattle.std.proofs.lemmas.List.{length-drop}
use Rattle.std.proofs.Math.ListN.{get_or-append}
use native.Mathlib.Nat.{le-div_iff_mul-le, div-lt_iff_lt-mul}
use borrow.Author.Tests.{le-leb, lt-leb}
use Rattle.basics.specs.Range.{sum_from}
use Rattle.basics.proofs.Range.{sum_same, sum_append, sum_last, sum_shift}
use Rattle.adder.specs.Inner.{weights_from, all_weights, held_to}
use Rattle.adder.proofs.Loading.{times_high}

pub held_within : (most n : ℕ) → n ≤ most → held_to most n ≡ Some n
unfolding held_to
held_within most n h = ap (λ (b : Bool). cond b (Some n) None) (le-leb n most h)

pub held_past : (most n : ℕ) → most < n → held_to most n ≡ None
unfolding held_to
held_past most n h = ap (λ (b : Bool). cond b (Some n) None) (lt-leb n most h)

-- ---- without weights: n is compared with what is left, divided
module _ (most had scale n : ℕ) (h : had ≤ most) (s : 1 ≤ scale) where
  pub left_passed : (most - had) / scale < n → None ≡ held_to most (had + scale * n)
  left_passed l =
      let over : most - had < n * scale = (div-lt_iff_lt-mul {k = scale} (omega arith)).0 l in
      sym (held_past most _ (omega (arith, mul_comm n scale)))

  pub left_fits : n ≤ (most - had) / scale → had + scale * n ≤ most
  left_fits l =
      let under : n * scale ≤ most - had = (le-div_iff_mul-le {k = scale} (omega arith)).0 l in
      omega (arith, mul_comm n scale)

-- ---- the weights of lists
-- one more from the front
pub weights_more : (w : List ℕ) (n : ℕ) → weights_from w 0 (n + 1) ≡ weights_from w 0 n + get_or w n 0
weights_more w n =
    sum_last 0 n (λ k. get_or w k 0) ∙ ap (λ (k : ℕ). sum_from 0 n (λ k. get_or w k 0) + get_or w k 0) (zero-add n)

-- those of one list after another
pub all_append : (a b : List ℕ) → all_weights (a ++ b) ≡ all_weights a + all_weights b
all_append a b =
    ap (λ (n : ℕ). sum_from 0 n (λ k. get_or (a ++ b) k 0)) (length-append a b)
    ∙ sum_append 0 (length a) (length b) (λ k. get_or (a ++ b) k 0)
    ∙ (λ i. sum_same 0 (length a) (λ k. get_or (a ++ b) k 0) (λ k. get_or a k 0) first i + second i)
  where
    first : (k : ℕ) → 0 ≤ k → k < 0 + length a → get_or (a ++ b) k 0 ≡ get_or a k 0
    first k _ h = get_or-append a b 0 k (omega arith)

    second : sum_from (0 + length a) (length b) (λ k. get_or (a ++ b) k 0) ≡ all_weights b
    second =
        ap (λ (i : ℕ). sum_from i (length b) (λ k. get_or (a ++ b) k 0)) (zero-add (length a) ∙ sym (add-zero (length a)))
        ∙ sum_shift (length a) 0 (length b) (λ k. get_or (a ++ b) k 0)
        ∙ sum_same 0 (length b) (λ k. get_or (a ++ b) (length a + k) 0) (λ k. get_or b k 0)
        (λ k _ _. get_or-append-add a b k 0)

-- those of n from weight i on, as a slice of a slice has them
pub all_slice : (w : List ℕ) (i m n : ℕ) → i + n ≤ length w → n ≤ m
    → all_weights (take n (take m (drop i w))) ≡ weights_from w i n
all_slice w i m n h l =
    ap (λ (k : ℕ). sum_from 0 k (λ k. get_or (take n (take m (drop i w))) k 0)) (length-take-le n (take m (drop i w)) long)
    ∙ sum_same 0 n (λ k. get_or (take n (take m (drop i w))) k 0) (λ k. get_or w (i + k) 0) each
    ∙ sym (sum_shift i 0 n (λ k. get_or w k 0))
    ∙ ap (λ (k : ℕ). sum_from k n (λ k. get_or w k 0)) (add-zero i)
  where
    long : n ≤ length (take m (drop i w))
    long = omega (arith, length-take m (drop i w), length-drop i w)

    each : (k : ℕ) → 0 ≤ k → k < 0 + n → get_or (take n (take m (drop i w))) k 0 ≡ get_or w (i + k) 0
    each k _ b =
        get_or-take n (take m (drop i w)) k 0 (omega arith)
        ∙ get_or-take m (drop i w) k 0 (omega arith)
        ∙ get_or-drop i w k 0

-- at most 4,096 of them, multiplied
pub block_high : (scale sum : ℕ) → scale ≤ 4096 → sum ≤ 17592186040320 → scale * sum ≤ 72057594021150720
block_high scale sum h l = times_high 4096 17592186040320 scale sum h l

-- ---- the total of a batch, a block after another
-- the total with the weights that are left is that of all
pub block_more : (scale t f : ℕ) (all block rest : List ℕ) {sum : ℕ} → t + scale * all_weights all ≡ f
    → all ≡ block ++ rest → sum ≡ all_weights block → (t + scale * sum) + scale * all_weights rest ≡ f
block_more scale t f all block rest {sum} e q s =
    omega (
      arith,
      ap (λ (w : List ℕ). scale * all_weights w) q,
      ap (λ (x : ℕ). scale * x) (all_append block rest),
      mul-add scale (all_weights block) (all_weights rest),
      ap (λ (x : ℕ). scale * x) s,
    )
