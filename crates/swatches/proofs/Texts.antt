-- Laws of the text with swatches, by the answer so far and that of the cut.
-- Assumes nothing.
use mathlib.Core.Path.{◌≡◌, ap, ◌∙◌}
use mathlib.Core.List.{List}
use Prim.Native.Nat.{ℕ}
use Rattle.cutter.specs.Record.{CutRecord}
use Rattle.sums.specs.declared.source.Source.TheVariants.{Moments}
use Rattle.cutter.specs.Cut.{cut_record}
use Rattle.lines.specs.Text.{refused_of}
use Rattle.std.specs.Prelude.{Ok, Err}
use Rattle.basics.specs.Answer.{when_done}
use Rattle.lines.specs.declared.found.Found.{Found}
use Rattle.lines.specs.Listing.{lent_zeros, found_in, found_of}
use Rattle.lines.proofs.Texts.{when_refused, when_done_lem, when_done_through, said}
use Rattle.swatches.specs.Inner.{swatches_found}
use Rattle.swatches.specs.Swatches.{numbers_of, cut_swatches, swatch_text}

-- where a load was refused
pub text_refused : (n : ℕ) (t : List ℕ) → (n ≡ 0 → ⊥) → swatch_text n t ≡ refused_of n
unfolding swatch_text
text_refused n t h = when_refused n _ _ h

pub text_cut : (n : ℕ) (t : List ℕ) → n ≡ 0 → swatch_text n t ≡ cut_swatches t
unfolding swatch_text
text_cut n t e = when_done_lem n _ _ e

-- where the cut was refused
pub cut_refused : (t : List ℕ) {r : CutRecord} → r ≡ cut_record Moments 8 8 8 16 t lent_zeros → (r.number ≡ 0 → ⊥)
    → cut_swatches t ≡ refused_of r.number
unfolding cut_swatches
cut_refused t {r} e h = rw (← e) (when_refused r.number _ _ h)

-- the text by what there is to list
abbrev pub listed : Found → List ℕ
listed f = swatches_found f (numbers_of f.palette)

pub text_said : (n : ℕ) (t : List ℕ) → swatch_text n t ≡ said listed (found_of n t)
unfolding swatch_text cut_swatches found_in
text_said n t =
    let say = said listed in
    ap (λ (x : List ℕ). when_done n x (refused_of n)) (when_done_through say (cut_record Moments 8 8 8 16 t lent_zeros).number (Ok _) (Err _))
    ∙ when_done_through say n _ (Err n)
