-- `lines::listing::total` meets its contract: the first counts are summed.
-- Assumes nothing.
use mathlib.Core.Path.{◌≡◌, refl, sym, ap, ◌∙◌}
use mathlib.Core.List.{List}
use Prim.Native.Nat.{ℕ, zero, suc, ◌+◌, ◌≤◌}
use native.Mathlib.Nat.{zero-add}
use native.Mathlib.Omega.{arith}
use native.Mathlib.Numerals.{add-one}
use lib.ListN.{length, get_or, take}
use Rattle.std.specs.List.{sum}
use Rattle.std.proofs.lemmas.List.Sums.{fold_more}
use Rattle.basics.specs.Range.{sum_from}
use Rattle.basics.proofs.Range.{sum_last}
use Rattle.lines.specs.Text.{total_of}
use Rattle.lines.proofs.listing.total.Goals as goal

-- the total, count by count
total_sum : (counts : List ℕ) (n : ℕ) → n ≤ length counts → sum (take n counts) ≡ total_of counts n
unfolding total_of sum_from
total_sum counts zero h = refl
total_sum counts (suc n) h =
    (ap (λ (k : ℕ). sum (take k counts)) (sym (add-one n))
    ∙ fold_more ◌+◌ 0 counts n 0 (omega arith)
    ∙ ap (λ (s : ℕ). s + get_or counts n 0) (total_sum counts n (omega arith))
    ∙ sym (sum_last 0 n _ ∙ ap (λ (k : ℕ). total_of counts n + get_or counts k 0) (zero-add n))
    ∙ ap (total_of counts) (add-one n))

pub returns : goal.returns
returns c = omega (arith, c.sum.ensures, total_sum c.args.counts.now c.args.boxes c.requires.1)
