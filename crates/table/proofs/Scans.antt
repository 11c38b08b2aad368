-- How a total goes on from one run of bins to the next.
-- Assumes nothing.
use Rattle.std.specs.Prelude.{None, Option, Some}
use Rattle.std.proofs.Common.{◌≡◌, ℕ, ◌+◌, ◌-◌, ◌*◌, ◌<◌, ◌≤◌, Bool, true, false, ◌&&◌, leb, sym, refl, ap, ◌∙◌, true≢false, add-zero, add_assoc, add-mul, one-mul, zero-add, arith, le-leb, leb-false, leb-true}
use borrow.Author.Tests.{lt-leb}
use Rattle.grid.specs.declared.place.Grid.{Grid}
use Rattle.basics.specs.Range.{sum_from, all_from}
use Rattle.grid.specs.Size.{span_of}
use Rattle.grid.specs.Grid.{Accepted, Inside, shift_at, bin_at, bins_of, place_of}
use Rattle.basics.proofs.Range.{sum_append, all_append, all_at, term_le, and_left, and_right, and_false}
use Rattle.grid.proofs.Places.{place_lt, bin_of_place, place_along}
use Rattle.table.specs.declared.cell.Cell.{Cell}
use Rattle.table.specs.Cell.{View, cell_of, number_of}
use Rattle.table.specs.Layouts.{Layout}
use Rattle.table.specs.Layout.{TableIn, CellIn}
use Rattle.table.specs.Sound.{limit, in_bounds, span_at, bin_sound, total, sound, sound_total, Row}
use Rattle.table.specs.Spans.{spans_of}
use Rattle.table.specs.Inner.{scanned}
use Rattle.table.proofs.Cells.{number_cell}
use Rattle.table.proofs.Soundness.{bounds_same}
use Rattle.table.proofs.Layouts.{cell_of_lem}
use Rattle.table.proofs.Total.{cond_total, cond_unsound}

module _ (most : ℕ) (g : Grid) (v : View) where
  abbrev weights : ℕ → ℕ → ℕ
  weights p n = sum_from p n (λ q. v q 0)

  -- what a total says of the bins that it was made of
  pub record Scanned (p n had x : ℕ) : Type 0 where
    pub bounds : all_from p n (bin_sound g v) ≡ true
    pub is : x ≡ had + weights p n
    pub under : had + weights p n ≤ most

  pub scan_says : (p n had x : ℕ) → scanned most g v p n had ≡ Some x → Scanned p n had x
  unfolding scanned
  scan_says p n had x e =
      let b = cond_total (all_from p n (bin_sound g v) && leb (had + weights p n) most) (had + weights p n) x e in
      record {
        bounds = and_left (all_from p n (bin_sound g v)) (leb (had + weights p n) most) b.0;
        is = b.1;
        under =
            leb-true (had + weights p n) most
            (and_right (all_from p n (bin_sound g v)) (leb (had + weights p n) most) b.0);
      }

  pub scan_total : (p n had : ℕ) → all_from p n (bin_sound g v) ≡ true → had + weights p n ≤ most
      → scanned most g v p n had ≡ Some (had + weights p n)
  unfolding scanned
  scan_total p n had b l = rw (b, le-leb (had + weights p n) most l) refl

  pub scan_none : (p had : ℕ) → had ≤ most → scanned most g v p 0 had ≡ Some had
  unfolding all_from sum_from
  scan_none p had l = scan_total p 0 had refl (omega arith) ∙ ap Some (add-zero had)

  -- the total passes the limit
  pub scan_over : (p n had : ℕ) → most < had + weights p n → scanned most g v p n had ≡ None
  unfolding scanned
  scan_over p n had l = rw (lt-leb (had + weights p n) most l, and_false (all_from p n (bin_sound g v))) refl

  -- a bin breaks its bounds, or its weight alone passes the limit
  pub scan_bad : (p n had q : ℕ) → p ≤ q → q < p + n → (leb (v q 0) most && bin_sound g v q) ≡ false
      → scanned most g v p n had ≡ None
  unfolding scanned
  scan_bad p n had q a b e = go (leb (v q 0) most) refl (all_from p n (bin_sound g v)) refl e
    where
      go : (w : Bool) → leb (v q 0) most ≡ w → (x : Bool) → all_from p n (bin_sound g v) ≡ x
          → (w && bin_sound g v q) ≡ false → scanned most g v p n had ≡ None
      go false l x r d =
          scan_over p n had (omega (arith, leb-false (v q 0) most l, term_le p n (λ k. v k 0) q a b))
      go true l true r d = absurd (true≢false (sym (all_at p n (bin_sound g v) r q a b) ∙ d))
      go true l false r d = rw r refl

  -- which is so where it passes a larger one
  pub scan_worse : {larger : ℕ} → most ≤ larger → (p n had q : ℕ) → p ≤ q → q < p + n
      → (leb (v q 0) larger && bin_sound g v q) ≡ false → scanned most g v p n had ≡ None
  scan_worse {larger} h p n had q a b e = scan_bad p n had q a b (go (leb (v q 0) larger) refl e)
    where
      go : (w : Bool) → leb (v q 0) larger ≡ w → (w && bin_sound g v q) ≡ false
          → (leb (v q 0) most && bin_sound g v q) ≡ false
      go false l d = rw (lt-leb (v q 0) most (omega (arith, leb-false (v q 0) larger l))) refl
      go true l d = rw (d, and_false (leb (v q 0) most)) refl

  -- from a run of bins to the next
  pub scan_more : (p n m had x : ℕ) → scanned most g v p n had ≡ Some x
      → scanned most g v p (n + m) had ≡ scanned most g v (p + n) m x
  unfolding scanned
  scan_more p n m had x e =
      let s = scan_says p n had x e in
      rw (
        all_append p n m (bin_sound g v),
        s.bounds,
        sum_append p n m (λ q. v q 0),
        s.is,
        ← add_assoc had (weights p n) (weights (p + n) m),
      ) refl

  pub scan_stop : (p n m had : ℕ) → scanned most g v p n had ≡ None → scanned most g v p (n + m) had ≡ None
  unfolding scanned
  scan_stop p n m had e =
      go (all_from p n (bin_sound g v)) refl
      (cond_unsound (all_from p n (bin_sound g v) && leb (had + weights p n) most) (had + weights p n) e)
    where
      go : (x : Bool) → all_from p n (bin_sound g v) ≡ x → (x && leb (had + weights p n) most) ≡ false
          → scanned most g v p (n + m) had ≡ None
      go true r l =
          scan_over p (n + m) had (omega (arith, leb-false (had + weights p n) most l, sum_append p n m (λ q. v q 0)))
      go false r l = rw (all_append p n m (bin_sound g v), r) refl

  -- block after block of bins, each of one size: rows of a plane, planes of a table
  pub block_more : (p size k had x : ℕ) (w : Option ℕ) → scanned most g v p (k * size) had ≡ Some x → {q : ℕ}
      → q ≡ p + k * size → w ≡ scanned most g v q size x → scanned most g v p ((k + 1) * size) had ≡ w
  block_more p size k had x w e {q} at r =
      ap (λ (n : ℕ). scanned most g v p n had) (add-mul k 1 size ∙ ap (λ (n : ℕ). k * size + n) (one-mul size))
      ∙ scan_more p (k * size) size had x e
      ∙ ap (λ (n : ℕ). scanned most g v n size x) (sym at)
      ∙ sym r

  pub block_stop : (p size k count had : ℕ) → k < count → scanned most g v p ((k + 1) * size) had ≡ None
      → scanned most g v p (count * size) had ≡ None
  block_stop p size k count had h e =
      ap (λ (n : ℕ). scanned most g v p n had)
      (ap (λ (n : ℕ). n * size) (rest k count h) ∙ add-mul (k + 1) (count - (k + 1)) size)
      ∙ scan_stop p ((k + 1) * size) ((count - (k + 1)) * size) had e
    where
      rest : (k count : ℕ) → k < count → count ≡ (k + 1) + (count - (k + 1))
      rest k count h = omega arith

  pub scan_under : (p n had x : ℕ) → scanned most g v p n had ≡ Some x → x ≤ most
  scan_under p n had x e = let s = scan_says p n had x e in omega (arith, s.is, s.under)

  -- a table is sound_total by all of its bins
  pub scan_all : sound_total most g v ≡ scanned most g v 0 (bins_of g) 0
  unfolding sound_total sound total scanned
  scan_all = rw (zero-add (weights 0 (bins_of g))) refl

-- ---- a row of bins
module _ {l : Layout} {g : Grid} {t : TableIn l} {r gr had : ℕ} (row : Row l g t r gr had) where
  sizes : Accepted g
  sizes = row.table.accepted

  pub inside : (b : ℕ) → b < g.size3 → Inside g r gr b
  inside b h = record { accepted = sizes; one = row.inside.one; two = row.inside.two; three = h }

  pub row_place : (b : ℕ) → b < g.size3 → {from : ℕ} → from ≡ place_of g r gr 0 → from + b < bins_of g
  row_place b h e = rw (e, place_along g r gr b) (place_lt (inside b h))

  pub row_cell : (b : ℕ) → b < g.size3 → {from : ℕ} → from ≡ place_of g r gr 0 → CellIn l t (from + b)
  row_cell b h {from} e = cell_of_lem row.table (from + b) (row_place b h e)

  row_span : (b : ℕ) → b < g.size3 → (d : ℕ) → spans_of g r gr b d ≡ span_at g (place_of g r gr 0 + b) d
  unfolding spans_of span_at
  row_span b h d =
      sym
      (ap (λ (p : ℕ). span_of (shift_at g d) (bin_at g d p)) (place_along g r gr b)
      ∙ ap (span_of (shift_at g d)) (bin_of_place g d r gr b row.inside.two h))

  -- the test of a cell of the row is that of its bin
  pub row_bin : (v : View) (b : ℕ) → b < g.size3 → {from : ℕ} → from ≡ place_of g r gr 0
      → {c : Cell} → c ≡ cell_of (v (from + b))
      → {x : Bool} → x ≡ (leb c.weight limit && in_bounds (spans_of g r gr b) (number_of c))
      → (leb (v (from + b) 0) limit && bin_sound g v (from + b)) ≡ x
  unfolding bin_sound cell_of
  row_bin v b h {from} e ec ex =
      let p = from + b in
      sym
      (ex
      ∙ (λ i. leb (ec i).weight limit && in_bounds (spans_of g r gr b) (number_of (ec i)))
      ∙ ap (λ (y : Bool). leb (v p 0) limit && y)
      ((λ i. in_bounds (λ d. (row_span b h d ∙ ap (λ (q : ℕ). span_at g (q + b) d) (sym e)) i) (number_of (cell_of (v p))))
      ∙ bounds_same (span_at g p) (number_of (cell_of (v p))) (v p) (λ j k. number_cell (v p) j k)))
