-- A view that is 0 but at one place: a box sums it to what stands there, if it holds that bin.
-- Assumes nothing.
use mathlib.Core.Path.{◌≡◌, refl, sym, ap, ◌∙◌}
use mathlib.Core.Bool.{Bool, true, false, cond, ◌&&◌}
use Prim.Native.Nat.{ℕ, ◌+◌, ◌-◌, ◌≤◌, ◌<◌}
use native.Mathlib.Decide.{ℕ_discrete, dec_le}
use native.Mathlib.Nat.{lt_of_not-le, le_of_lt}
use native.Mathlib.Omega.{arith}
use borrow.Author.Tests.{le-leb, lt-leb, lt-ltb, le-ltb}
use Rattle.grid.specs.declared.place.Grid.{Grid}
use Rattle.basics.specs.Range.{sum_from}
use Rattle.basics.specs.Dimension.{choose}
use Rattle.grid.specs.Grid.{Inside, place_of}
use Rattle.basics.proofs.Range.{hit, hit_yes, hit_no, sum_hit, sum_zero, sum_same}
use Rattle.grid.proofs.Places.{place_once}
use Rattle.boxes.specs.declared.sides.Bounds.{Bounds}
use Rattle.boxes.specs.Box.{Within}
use Rattle.boxes.specs.Holds.{lies, holds}
use Rattle.boxes.proofs.Within.{sides}
use Rattle.bins.specs.Sum.{sum3, bin_sum, box_sum}
use Rattle.bins.proofs.Boxes.{sum3_same}

-- a run of numbers hits q once, or not at all
run_hit : (i e q y : ℕ) → i ≤ e → sum_from i (e - i) (λ p. hit q p y) ≡ cond (lies i e q) y 0
unfolding lies
run_hit i e q y h = go (dec_le i q) (dec_le e q)
  where
    miss : ((p : ℕ) → i ≤ p → p < i + (e - i) → q ≡ p → ⊥) → sum_from i (e - i) (λ p. hit q p y) ≡ 0
    miss n = sum_same i (e - i) (λ p. hit q p y) (λ p. 0) (λ p a b. hit_no q p y (n p a b)) ∙ sum_zero i (e - i)

    go : Dec (i ≤ q) → Dec (e ≤ q) → sum_from i (e - i) (λ p. hit q p y) ≡ cond (lies i e q) y 0
    go (no a) d = rw (lt-leb i q (lt_of_not-le a)) (miss (λ p k l s. omega (arith, lt_of_not-le a)))
    go (yes a) (yes b) = rw (le-leb i q a, le-ltb q e b) (miss (λ p k l s. omega arith))
    go (yes a) (no b) =
        rw (le-leb i q a, lt-ltb q e (lt_of_not-le b)) (sum_hit i (e - i) q y a (omega (arith, lt_of_not-le b)))

-- a hit elsewhere goes through a sum
hit_sum : (q s i n : ℕ) (f : ℕ → ℕ) → sum_from i n (λ p. hit q s (f p)) ≡ hit q s (sum_from i n f)
hit_sum q s i n f = go (ℕ_discrete q s)
  where
    go : Dec (q ≡ s) → sum_from i n (λ p. hit q s (f p)) ≡ hit q s (sum_from i n f)
    go (yes e) =
        sum_same i n (λ p. hit q s (f p)) f (λ p a b. hit_yes q s (f p) e) ∙ sym (hit_yes q s (sum_from i n f) e)
    go (no d) =
        sum_same i n (λ p. hit q s (f p)) (λ p. 0) (λ p a b. hit_no q s (f p) d) ∙ sum_zero i n
        ∙ sym (hit_no q s (sum_from i n f) d)

-- a place is hit where each of its bins is
hit_place : {g : Grid} {r gr b r' gr' b' : ℕ} → Inside g r gr b → Inside g r' gr' b' → (y : ℕ)
    → hit (place_of g r gr b) (place_of g r' gr' b') y ≡ hit r r' (hit gr gr' (hit b b' y))
unfolding choose
hit_place {g} {r} {gr} {b} {r'} {gr'} {b'} i k y = go (ℕ_discrete r r') (ℕ_discrete gr gr') (ℕ_discrete b b')
  where
    go : Dec (r ≡ r') → Dec (gr ≡ gr') → Dec (b ≡ b') → hit (place_of g r gr b) (place_of g r' gr' b') y
        ≡ hit r r' (hit gr gr' (hit b b' y))
    go (no d) e f =
        hit_no (place_of g r gr b) (place_of g r' gr' b') y (λ p. d (place_once i k p 0))
        ∙ sym (hit_no r r' (hit gr gr' (hit b b' y)) d)
    go (yes d) (no e) f =
        hit_no (place_of g r gr b) (place_of g r' gr' b') y (λ p. e (place_once i k p 1))
        ∙ sym (hit_yes r r' (hit gr gr' (hit b b' y)) d ∙ hit_no gr gr' (hit b b' y) e)
    go (yes d) (yes e) (no f) =
        hit_no (place_of g r gr b) (place_of g r' gr' b') y (λ p. f (place_once i k p 2))
        ∙ sym (hit_yes r r' (hit gr gr' (hit b b' y)) d ∙ hit_yes gr gr' (hit b b' y) e ∙ hit_no b b' y f)
    go (yes d) (yes e) (yes f) =
        hit_yes (place_of g r gr b) (place_of g r' gr' b') y (λ j. place_of g (d j) (e j) (f j))
        ∙ sym (hit_yes r r' (hit gr gr' (hit b b' y)) d ∙ hit_yes gr gr' (hit b b' y) e ∙ hit_yes b b' y f)

three : (a b c : Bool) (y : ℕ) → cond a (cond b (cond c y 0) 0) 0 ≡ cond (a && (b && c)) y 0
three true true c y = refl
three true false c y = refl
three false b c y = refl

-- a place that is hit once: by the bins of a box, if the place is among them
pub hit_box : {g : Grid} {x : Bounds} → Within g x → {R G Z : ℕ} → Inside g R G Z → (y j : ℕ)
    → box_sum g (λ p i. hit (place_of g R G Z) p y) x j ≡ cond (holds x R G Z) y 0
unfolding box_sum bin_sum sum3 holds
hit_box {g} {x} w {R} {G} {Z} i y j =
    let e = sides w in
    sum3_same x.r0 (x.r1 - x.r0) x.g0 (x.g1 - x.g0) x.b0 (x.b1 - x.b0)
    (λ r gr z. hit (place_of g R G Z) (place_of g r gr z) y) (λ r gr z. hit R r (hit G gr (hit Z z y)))
    (λ r gr z h k l.
    hit_place i (record {
      accepted = w.accepted;
      one = omega (arith, e.one, e.one_fits);
      two =
          omega (arith, e.two, e.two_fits);
      three = omega (arith, e.three, e.three_fits);
    }) y)
    ∙ sum_same x.r0 (x.r1 - x.r0) _ _
    (λ r h k.
    sum_same x.g0 (x.g1 - x.g0) _ _ (λ gr m n. hit_sum R r x.b0 (x.b1 - x.b0) (λ z. hit G gr (hit Z z y))
    ∙ ap (hit R r) (hit_sum G gr x.b0 (x.b1 - x.b0) (λ z. hit Z z y)))
    ∙ hit_sum R r x.g0 (x.g1 - x.g0) (λ gr. hit G gr (sum_from x.b0 (x.b1 - x.b0) (λ z. hit Z z y))))
    ∙ run_hit x.r0 x.r1 R (sum_from x.g0 (x.g1 - x.g0)
    (λ gr. hit G gr (sum_from x.b0 (x.b1 - x.b0) (λ z. hit Z z y)))) (le_of_lt e.one)
    ∙ ap (λ (n : ℕ). cond (lies x.r0 x.r1 R) n 0)
    (run_hit x.g0 x.g1 G (sum_from x.b0 (x.b1 - x.b0) (λ z. hit Z z y)) (le_of_lt e.two)
    ∙ ap (λ (n : ℕ). cond (lies x.g0 x.g1 G) n 0) (run_hit x.b0 x.b1 Z y (le_of_lt e.three)))
    ∙ three (lies x.r0 x.r1 R) (lies x.g0 x.g1 G) (lies x.b0 x.b1 Z) y
