-- Laws of what the program says: the lower of two answers, and the text by the answer so far and that of the cut.
-- Assumes nothing.
use mathlib.Core.Path.{◌≡◌, refl, sym, ap, ◌∙◌}
use mathlib.Core.List.{List}
use Prim.Native.Nat.{ℕ, zero, suc, ◌*◌, ◌≤◌, ◌<◌}
use native.Mathlib.Omega.{arith}
use lib.ListN.{replicate}
use Rattle.basics.specs.Answer.{when_done}
use Rattle.table.proofs.Tables.{wide_empty}
use Rattle.cutter.specs.Record.{CutRecord}
use Rattle.sums.specs.declared.source.Source.TheVariants.{Moments}
use Rattle.cutter.specs.Cut.{Buffers, buffers, cut_record, cut_later}
use Rattle.std.specs.Prelude.{Result, Ok, Err}
use Rattle.lines.specs.declared.found.Found.{Found}
use Rattle.lines.specs.Text.{refused_of}
use Rattle.lines.specs.Listing.{lower_of, lent_zeros, cut_text, found_in, found_of, text_of}
use Rattle.lines.specs.Inner.{listing_found}

-- ---- the lower of two answers
pub lower_first : (n m : ℕ) → n ≡ 0 → m ≡ lower_of n m
unfolding lower_of
lower_first zero m e = refl
lower_first (suc n) m e = absurd (omega arith)

pub lower_second : (n m : ℕ) → m ≡ 0 → n ≡ lower_of n m
unfolding lower_of
lower_second zero m e = sym e
lower_second (suc n) zero e = refl
lower_second (suc n) (suc m) e = absurd (omega arith)

pub lower_other : (n m : ℕ) → (m ≡ 0 → ⊥) → m < n → m ≡ lower_of n m
unfolding lower_of
lower_other zero m h l = absurd (omega arith)
lower_other (suc n) zero h l = absurd (h refl)
lower_other (suc n) (suc m) h l = omega arith

pub lower_same : (n m : ℕ) → (n ≡ 0 → ⊥) → n ≤ m → n ≡ lower_of n m
unfolding lower_of
lower_same zero m h l = absurd (h refl)
lower_same (suc n) zero h l = absurd (omega arith)
lower_same (suc n) (suc m) h l = omega arith

-- ---- the text
pub when_refused : {A : Type 0} (n : ℕ) (x y : A) → (n ≡ 0 → ⊥) → when_done n x y ≡ y
unfolding when_done
when_refused zero x y h = absurd (h refl)
when_refused (suc n) x y h = refl

pub when_done_lem : {A : Type 0} (n : ℕ) (x y : A) → n ≡ 0 → when_done n x y ≡ x
unfolding when_done
when_done_lem zero x y e = refl
when_done_lem (suc n) x y e = absurd (omega arith)

-- where a load was refused
pub text_refused : (n : ℕ) (t : List ℕ) → (n ≡ 0 → ⊥) → text_of n t ≡ refused_of n
unfolding text_of
text_refused n t h = when_refused n _ _ h

pub text_cut : (n : ℕ) (t : List ℕ) → n ≡ 0 → text_of n t ≡ cut_text t
unfolding text_of
text_cut n t e = when_done_lem n _ _ e

-- what the code lends
pub lent_zeros_lem : buffers (replicate 2560 0) (replicate 48 0) (replicate 16 0) (replicate 48 0) (replicate 512 0) ≡ lent_zeros
unfolding lent_zeros
lent_zeros_lem =
    ap (λ (work : List ℕ). buffers work (replicate 48 0) (replicate 16 0) (replicate 48 0) (replicate 512 0))
    (sym (wide_empty (8 * 8 * 8)))

-- where the cut was refused
pub cut_refused : (t : List ℕ) {r : CutRecord} → r ≡ cut_record Moments 8 8 8 16 t lent_zeros → (r.number ≡ 0 → ⊥)
    → cut_text t ≡ refused_of r.number
unfolding cut_text
cut_refused t {r} e h = rw (← e) (when_refused r.number _ _ h)

-- ---- what there is to list
pub found_refused : (k n : ℕ) (t : List ℕ) → (n ≡ 0 → ⊥) → Err n ≡ found_in k n t
unfolding found_in
found_refused k n t h = sym (when_refused n _ _ h)

module _ (k n : ℕ) (t : List ℕ) (none : n ≡ 0) {r : CutRecord} (e : r ≡ cut_record Moments 8 8 8 k t lent_zeros) where
  pub found_cut_refused : (r.number ≡ 0 → ⊥) → Err r.number ≡ found_in k n t
  unfolding found_in
  found_cut_refused h = sym (when_done_lem n _ _ none ∙ rw (← e) (when_refused r.number _ _ h))

  pub found_cut : {later : Buffers} → later ≡ cut_later Moments 8 8 8 k t lent_zeros → r.number ≡ 0
      → Ok (record {
        boxes = r.boxes;
        rounds = r.rounds;
        palette = later.results.palette;
        counts = later.results.counts;
      })
      ≡ found_in k n t
  unfolding found_in
  found_cut l h = sym (when_done_lem n _ _ none ∙ rw (← e, ← l) (when_done_lem r.number _ _ h))

-- a text by what there is to list
abbrev pub said : (Found → List ℕ) → Result Found ℕ → List ℕ
said list (Ok f) = list f
said list (Err n) = refused_of n

pub when_done_through : {A B : Type 0} (f : A → B) (n : ℕ) (x y : A) → when_done n (f x) (f y) ≡ f (when_done n x y)
unfolding when_done
when_done_through f zero x y = refl
when_done_through f (suc n) x y = refl

pub text_said : (n : ℕ) (t : List ℕ) → text_of n t ≡ said listing_found (found_of n t)
unfolding text_of cut_text found_in
text_said n t =
    let say = said listing_found in
    ap (λ (x : List ℕ). when_done n x (refused_of n)) (when_done_through say (cut_record Moments 8 8 8 16 t lent_zeros).number (Ok _) (Err _))
    ∙ when_done_through say n _ (Err n)
