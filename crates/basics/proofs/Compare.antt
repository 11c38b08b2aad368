-- `<` of floats where no NaN stands between: not less is transitive, less is asymmetric.
-- Assumes nothing.
use mathlib.Core.Path.{◌≡◌, refl, sym, subst, ◌∙◌}
use mathlib.Core.Bool.{Bool, true, false, ◌&&◌, ◌||◌, true≢false}
use mathlib.Core.Logic.{◌≢◌}
use Prim.Native.Nat.{ℕ, zero, suc, ◌+◌, ◌*◌, ◌≤◌, ◌<◌}
use native.Mathlib.Nat.{suc-mul, zero-mul}
use native.Mathlib.Omega.{arith}
use borrow.Author.Tests.{ltb-true, ltb-false, eqb-true, le-ltb}
use lib.Dec.{T, eqb}
use lib.Ieee.{Float, nan, inf, fin, up, down, below, level, lt, eq, le}
use lib.Ieee.Positive.{den_pos, through}
use lib.Ieee.Scale.{finite}

impossible : {P : Type 0} → true ≡ false → P
impossible e = absurd (true≢false e)

and_left : (a b : Bool) → (a && b) ≡ true → a ≡ true
and_left true b e = refl
and_left false b e = e

and_right : (a b : Bool) → (a && b) ≡ true → b ≡ true
and_right true b e = e
and_right false b e = impossible (sym e)

-- c·d is 0, and so is c·e
none_left : (c d e : ℕ) → 0 < d → c * d ≤ 0 → c * e ≤ 0
none_left zero d e l h = rw (zero-mul e) (omega arith)
none_left (suc c) d e l h = absurd (omega (arith, suc-mul c d))

-- ±a/e, ±b/d, ±c/f
below_through : (s t u : Bool) (a b c e d f : ℕ) → 0 < e → 0 < d → 0 < f
    → below s (a * d) t (b * e) ≡ false → below t (b * f) u (c * d) ≡ false → below s (a * f) u (c * e) ≡ false
below_through false false false a b c e d f E D F p q =
    le-ltb (a * f) (c * e) (through c b a f d e D (ltb-false (b * f) (c * d) q) (ltb-false (a * d) (b * e) p))
below_through false false true a b c e d f E D F p q = refl
below_through false true false a b c e d f E D F p q =
    let z = ltb-false 0 (b * f + c * d) q in
    let n = none_left c d e D (omega arith) in
    le-ltb (a * f) (c * e) (omega arith)
below_through false true true a b c e d f E D F p q = refl
below_through true false false a b c e d f E D F p q =
    let z = ltb-false 0 (a * d + b * e) p in
    let y = ltb-false (b * f) (c * d) q in
    let m = none_left b e f E (omega arith) in
    let n = none_left c d e D (omega arith) in
    let o = none_left a d f D (omega arith) in
    le-ltb 0 (a * f + c * e) (omega arith)
below_through true false true a b c e d f E D F p q =
    let z = ltb-false 0 (a * d + b * e) p in
    let o = none_left a d f D (omega arith) in
    le-ltb (c * e) (a * f) (omega arith)
below_through true true false a b c e d f E D F p q =
    let z = ltb-false 0 (b * f + c * d) q in
    let y = ltb-false (b * e) (a * d) p in
    let m = none_left b f e F (omega arith) in
    let n = none_left c d e D (omega arith) in
    let o = none_left a d f D (omega arith) in
    le-ltb 0 (a * f + c * e) (omega arith)
below_through true true true a b c e d f E D F p q =
    le-ltb (c * e) (a * f) (through a b c e d f D (ltb-false (b * e) (a * d) p) (ltb-false (c * d) (b * f) q))

pub not_less_trans : (x y z : Float) → y ≢ nan → lt x y ≡ false → lt y z ≡ false → lt x z ≡ false
unfolding lt
not_less_trans x nan z n p q = absurd (n refl)
not_less_trans nan (inf t) z n p q = refl
not_less_trans nan (fin t b d) z n p q = refl
not_less_trans (inf false) (inf t) nan n p q = refl
not_less_trans (inf false) (inf t) (inf u) n p q = refl
not_less_trans (inf false) (inf t) (fin u c f) n p q = refl
not_less_trans (inf true) (inf false) z n p q = impossible p
not_less_trans (inf true) (inf true) z n p q = q
not_less_trans (fin s a e) (inf false) z n p q = impossible p
not_less_trans (fin s a e) (inf true) nan n p q = refl
not_less_trans (fin s a e) (inf true) (inf false) n p q = impossible q
not_less_trans (fin s a e) (inf true) (inf true) n p q = refl
not_less_trans (fin s a e) (inf true) (fin u c f) n p q = impossible q
not_less_trans (inf false) (fin t b d) nan n p q = refl
not_less_trans (inf false) (fin t b d) (inf u) n p q = refl
not_less_trans (inf false) (fin t b d) (fin u c f) n p q = refl
not_less_trans (inf true) (fin t b d) z n p q = impossible p
not_less_trans (fin s a e) (fin t b d) nan n p q = refl
not_less_trans (fin s a e) (fin t b d) (inf u) n p q = q
not_less_trans (fin s a e) (fin t b d) (fin u c f) n p q =
    below_through s t u (a * up e) (b * up d) (c * up f) (down e) (down d) (down f) (den_pos (fin s a e))
    (den_pos (fin t b d)) (den_pos (fin u c f)) p q

below_asym : (s t : Bool) (a b : ℕ) → below s a t b ≡ true → below t b s a ≡ false
below_asym false false a b p = let l = ltb-true a b p in le-ltb b a (omega arith)
below_asym false true a b p = impossible (sym p)
below_asym true false a b p = refl
below_asym true true a b p = let l = ltb-true b a p in le-ltb a b (omega arith)

pub less_asym : (x y : Float) → lt x y ≡ true → lt y x ≡ false
unfolding lt
less_asym nan y p = impossible (sym p)
less_asym (inf s) nan p = refl
less_asym (inf false) (inf t) p = impossible (sym p)
less_asym (inf true) (inf false) p = refl
less_asym (inf true) (inf true) p = impossible (sym p)
less_asym (inf false) (fin t b d) p = impossible (sym p)
less_asym (inf true) (fin t b d) p = refl
less_asym (fin s a e) nan p = refl
less_asym (fin s a e) (inf false) p = refl
less_asym (fin s a e) (inf true) p = impossible (sym p)
less_asym (fin s a e) (fin t b d) p = below_asym s t (a * up e * down d) (b * up d * down e) p

pub not_less_itself : (x : Float) → lt x x ≡ false
not_less_itself x = go (lt x x) refl
  where
    go : (b : Bool) → lt x x ≡ b → lt x x ≡ false
    go true e = less_asym x x e
    go false e = e

below_level : (s t : Bool) (a b : ℕ) → level s a t b ≡ true → below t b s a ≡ false
below_level false false a b p = let e = eqb-true a b (and_left (eqb a b) true p) in le-ltb b a (omega arith)
below_level false true a b p =
    let e = eqb-true a b (and_left (eqb a b) (eqb a 0) p) in
    let z = eqb-true a 0 (and_right (eqb a b) (eqb a 0) p) in
    le-ltb 0 (b + a) (omega arith)
below_level true false a b p = refl
below_level true true a b p = let e = eqb-true a b (and_left (eqb a b) true p) in le-ltb a b (omega arith)

equal_not_less : (x y : Float) → eq x y ≡ true → lt y x ≡ false
unfolding lt eq
equal_not_less nan y p = impossible (sym p)
equal_not_less (inf s) nan p = refl
equal_not_less (inf false) (inf false) p = refl
equal_not_less (inf false) (inf true) p = impossible (sym p)
equal_not_less (inf true) (inf false) p = refl
equal_not_less (inf true) (inf true) p = refl
equal_not_less (inf s) (fin t b d) p = impossible (sym p)
equal_not_less (fin s a e) nan p = refl
equal_not_less (fin s a e) (inf t) p = impossible (sym p)
equal_not_less (fin s a e) (fin t b d) p = below_level s t (a * up e * down d) (b * up d * down e) p

-- ≤ says that the first is not greater, and not ≤ that it is not less
pub at_most : (x y : Float) → le x y ≡ true → lt y x ≡ false
unfolding le
at_most x y p = go (lt x y) refl p
  where
    go : (b : Bool) → lt x y ≡ b → (b || eq x y) ≡ true → lt y x ≡ false
    go true e q = less_asym x y e
    go false e q = equal_not_less x y q

pub not_at_most : (x y : Float) → le x y ≡ false → lt x y ≡ false
unfolding le
not_at_most x y p = go (lt x y) refl p
  where
    go : (b : Bool) → lt x y ≡ b → (b || eq x y) ≡ false → lt x y ≡ false
    go true e q = impossible q
    go false e q = e

-- less than one that a third is not less than
pub less_through : (x y z : Float) → z ≢ nan → lt x y ≡ true → lt z y ≡ false → lt x z ≡ true
less_through x y z n p q = go (lt x z) refl
  where
    go : (b : Bool) → lt x z ≡ b → lt x z ≡ true
    go true e = e
    go false e = impossible (sym p ∙ not_less_trans x z y n e q)

-- a finite float is a number
pub finite_number : (x : Float) → T (finite x) → x ≢ nan
finite_number x h e = subst (λ (y : Float). T (finite y)) e h
