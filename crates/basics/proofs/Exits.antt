-- What a `?` shows of a value that is there or refused: that it is there, or what is answered where it is not.
-- Assumes nothing.
use Rattle.std.specs.Prelude.{Option, Some, None, Result, Ok, Err, ℕ}
use Rattle.std.specs.Option.{ok_or}
use Rattle.std.specs.Result.{IsErrAnd}
use Rattle.std.proofs.Common.{◌≡◌, refl, sym, ap, ◌∙◌, eqb}
use mathlib.Core.Bool.{true≢false}
use Rattle.std.proofs.lemmas.Result.{err_from_is_err_and}
use Rattle.basics.specs.declared.refusal.Refusal.{Refusal}
use Rattle.basics.specs.Refusal.{number_of, answer_of}
use Rattle.basics.proofs.Refusals.{not_done}

pub there : {A E : Type 0} (o : Option A) (e : E) {x : A} → Ok x ≡ ok_or o e → o ≡ Some x
there (Some y) e q = cc
there None e q = cc

missing : {A E : Type 0} (o : Option A) (e : E) {r : E} → Err r ≡ ok_or o e → (o ≡ None) × (r ≡ e)
missing (Some y) e q = cc
missing None e q = (refl, cc)

-- no refusal answers 0
pub not_0 : (r : Refusal) → number_of r ≡ 0 → ⊥
not_0 r e = true≢false (ap (λ (n : ℕ). eqb n 0) (sym e) ∙ not_done r)

-- the exit of a `?` hands on the refusal
pub handed : {A : Type 0} (d : Result A Refusal) (r : Refusal) → IsErrAnd d (λ (x : Refusal). x ≡ r) → d ≡ Err r
handed d r h =
    let p = err_from_is_err_and d h in
    p.1 ∙ ap (λ (x : Refusal). Err x) p.2

module _ {A B : Type 0} (o : Option A) (e : Refusal) (d : Result B Refusal) {r : Refusal} (q : Err r ≡ ok_or o e)
    (h : IsErrAnd d (λ (x : Refusal). x ≡ r)) where
  pub refused_with : (o ≡ None) × (d ≡ Err e)
  refused_with =
      let m = missing o e q in
      (m.0, handed d r h ∙ ap (λ (x : Refusal). Err x) m.1)

  pub not_there : (o ≡ None) × (answer_of d ≡ number_of e)
  not_there = (refused_with.0, ap answer_of refused_with.1)
