-- An answer tells its refusal: two results with the same number are the same.
-- Assumes nothing.
use Rattle.std.specs.Prelude.{Result, Ok, Err, ℕ}
use Rattle.std.specs.Result.{IsErrAnd}
use Rattle.std.proofs.Common.{◌≡◌, refl, sym, ap, ◌∙◌, cond, eqb, false}
use mathlib.Core.Bool.{true≢false}
use Rattle.basics.specs.declared.refusal.Refusal.{Refusal}
use Rattle.basics.specs.declared.refusal.Refusal.TheVariants as refusal
use Rattle.basics.specs.Refusal.{number_of, answer_of}

-- the refusal of a number
abbrev refusal_at : ℕ → Refusal
refusal_at n =
    cond (eqb n 1) refusal.Grid
    (cond (eqb n 2) refusal.BoxCount
    (cond (eqb n 3) refusal.SplitColour
    (cond (eqb n 4) refusal.WeightCount
    (cond (eqb n 5) refusal.Length
    (cond (eqb n 6) refusal.Unsound
    (cond (eqb n 7) refusal.TooHeavy
    (cond (eqb n 8) refusal.NoWeight
    (cond (eqb n 9) refusal.MapEntry
    (cond (eqb n 10) refusal.Header
    (cond (eqb n 11) refusal.Maximum
    (cond (eqb n 12) refusal.PixelCount
    (cond (eqb n 13) refusal.Interval (cond (eqb n 14) refusal.NotInForce refusal.TooHeavyNarrow)))))))))))))

its_own : (r : Refusal) → refusal_at (number_of r) ≡ r
its_own refusal.Grid = refl
its_own refusal.BoxCount = refl
its_own refusal.SplitColour = refl
its_own refusal.WeightCount = refl
its_own refusal.Length = refl
its_own refusal.Unsound = refl
its_own refusal.TooHeavy = refl
its_own refusal.NoWeight = refl
its_own refusal.MapEntry = refl
its_own refusal.Header = refl
its_own refusal.Maximum = refl
its_own refusal.PixelCount = refl
its_own refusal.Interval = refl
its_own refusal.NotInForce = refl
its_own refusal.TooHeavyNarrow = refl

pub number_tells : (r s : Refusal) → number_of r ≡ number_of s → r ≡ s
number_tells r s e = sym (its_own r) ∙ ap refusal_at e ∙ its_own s

-- no refusal answers 0
pub not_done : (r : Refusal) → eqb (number_of r) 0 ≡ false
not_done refusal.Grid = refl
not_done refusal.BoxCount = refl
not_done refusal.SplitColour = refl
not_done refusal.WeightCount = refl
not_done refusal.Length = refl
not_done refusal.Unsound = refl
not_done refusal.TooHeavy = refl
not_done refusal.NoWeight = refl
not_done refusal.MapEntry = refl
not_done refusal.Header = refl
not_done refusal.Maximum = refl
not_done refusal.PixelCount = refl
not_done refusal.Interval = refl
not_done refusal.NotInForce = refl
not_done refusal.TooHeavyNarrow = refl

no_answer_0 : {A : Type 0} (r : Refusal) → 0 ≡ number_of r → A
no_answer_0 r e = absurd (true≢false (ap (λ (n : ℕ). eqb n 0) e ∙ not_done r))

pub answer_tells : (r s : Result (Unit {0}) Refusal) → answer_of r ≡ answer_of s → r ≡ s
answer_tells (Ok x) (Ok y) e = refl
answer_tells (Ok x) (Err s) e = no_answer_0 s e
answer_tells (Err r) (Ok y) e = no_answer_0 r (sym e)
answer_tells (Err r) (Err s) e = ap (λ (x : Refusal). Err x) (number_tells r s e)

-- what `?` hands on answers the same
pub handed_on : (r : Result (Unit {0}) Refusal) (e : Refusal) → IsErrAnd r (λ x. x ≡ e) → answer_of r ≡ number_of e
handed_on (Ok x) e h = absurd h
handed_on (Err x) e h = ap number_of h
