-- `swatches::text::swatch_text` meets its contract: the listing of what was found, or the line of the refusal.
-- Assumes nothing.
use mathlib.Core.Path.{◌≡◌, sym, ap, ◌∙◌}
use mathlib.Core.List.{List}
use Prim.Native.Nat.{ℕ}
use native.Mathlib.Omega.{arith}
use Rattle.std.specs.Prelude.{Result}
use Rattle.lines.specs.declared.found.Found.{Found}
use Rattle.lines.specs.Listing.{found_of}
use Rattle.lines.proofs.Texts.{said}
use Rattle.swatches.specs.Swatches.{numbers_of, swatch_text}
use Rattle.swatches.proofs.Texts.{listed, text_said}
use Rattle.swatches.proofs.text.swatch_text.Goals as goal

-- the text by what was found with the same refusal of the loads
text_found : (n : ℕ) (t : List ℕ) {m : ℕ} {r : Result Found ℕ} → r ≡ found_of m t → n ≡ m
    → swatch_text n t ≡ said listed r
text_found n t is e = text_said n t ∙ ap (said listed) (ap (λ (n : ℕ). found_of n t) e ∙ sym is)

pub returns-in-Ok : goal.returns-in-Ok
unfolding numbers_of
returns-in-Ok c =
    let e = text_found c.args.lowest c.args.table.now c.in-Ok.ensures.is (omega arith) in
    rw (e, ← c.nearest.ensures.later) c.swatch_lines.ensures

pub returns-in-Err : goal.returns-in-Err
returns-in-Err c = rw (text_found c.args.lowest c.args.table.now c.in-Err.ensures.is (omega arith)) c.refused.ensures
