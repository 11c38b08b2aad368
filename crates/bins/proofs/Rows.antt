-- Bins, rows and planes added up one after the other: what the sum is after each, and that it fits.
-- Assumes nothing.
use mathlib.Core.Path.{◌≡◌, sym, ap, ◌∙◌}
use Prim.Native.Nat.{ℕ, ◌+◌, ◌-◌, ◌^◌, ◌≤◌, ◌<◌}
use native.Mathlib.Omega.{arith}
use Rattle.grid.specs.declared.place.Grid.{Grid}
use Rattle.basics.specs.Range.{sum_from}
use Rattle.grid.specs.Grid.{Inside, place_of}
use Rattle.basics.proofs.Range.{run_none, run_more, sum_grow, term_le}
use Rattle.table.specs.declared.cell.Cell.{Cell}
use Rattle.table.specs.Cell.{number_of, cell_of, plus_cell, SumsFit}
use Rattle.table.specs.Layouts.{Layout}
use Rattle.table.specs.Layout.{TableIn, view_in}
use Rattle.table.specs.Sound.{limit}
use Rattle.table.proofs.Cells.{number_cell, number_plus, cell_by, zero_cell, zeros_cell}
use Rattle.boxes.specs.declared.sides.Bounds.{Bounds}
use Rattle.boxes.proofs.Within.{sides}
use Rattle.bins.specs.Sum.{sum3, bin_sum, box_sum, CanAdd}
use Rattle.bins.specs.Inner.{InPlane, InRow, row_sum, plane_sum, planes_sum}
use Rattle.bins.proofs.Laws.{box_small}

-- ---- cells added from the first to an end, each with the numbers of f
module _ (f : ℕ → ℕ → ℕ) (first : ℕ) where
  abbrev pub up_to : ℕ → ℕ → ℕ
  up_to end j = sum_from first (end - first) (λ z. f z j)

  pub none_added : {i : ℕ} → i ≡ first → zero_cell ≡ cell_of (up_to i)
  none_added {i} e =
      zeros_cell (up_to i)
      (λ j. ap (λ (n : ℕ). sum_from first (n - first) (λ z. f z j)) e ∙ run_none first (λ z. f z j))

  module _ {i : ℕ} (from : first ≤ i) {c d : Cell} (had : c ≡ cell_of (up_to i)) (more : d ≡ cell_of (f i)) where
    both : (j : ℕ) → j < 5 → number_of c j + number_of d j ≡ up_to (i + 1) j
    both j h =
        (λ k. (ap (λ (x : Cell). number_of x j) had ∙ number_cell (up_to i) j h) k
        + (ap (λ (x : Cell). number_of x j) more ∙ number_cell (f i) j h) k)
        ∙ sym (run_more first i (λ z. f z j) from)

    pub next_fits : ((j : ℕ) → j < 5 → up_to (i + 1) j < 2 ^ 50) → SumsFit c d
    next_fits small = record { fits = λ j h. omega (arith, both j h, small j h) }

    pub next_added : {s : Cell} → s ≡ plus_cell c d → s ≡ cell_of (up_to (i + 1))
    next_added {s} e =
        cell_by s (cell_of (up_to (i + 1)))
        (λ j h.
        ap (λ (x : Cell). number_of x j) e
        ∙ number_plus c d j h
        ∙ both j h
        ∙ sym (number_cell (up_to (i + 1)) j h))

-- ---- a part of a box has no more than the box
module _ {layout : Layout} {g : Grid} {t : TableIn layout} {x : Bounds} (c : CanAdd layout limit g t x) where
  pub planes_small : (end : ℕ) → end ≤ x.r1 → (j : ℕ) → j < 5
      → planes_sum g (view_in layout t) x x.r0 (end - x.r0) j < 2 ^ 50
  unfolding box_sum bin_sum sum3 planes_sum plane_sum row_sum
  planes_small end h j l =
      omega (
        arith,
        sum_grow x.r0 (end - x.r0) (x.r1 - x.r0) (λ y. plane_sum g (view_in layout t) x y x.g0 (x.g1 - x.g0) j)
            (omega arith),
        box_small (record { holds = c.is_sound }) c.within j l,
      )

module _ {layout : Layout} {g : Grid} {t : TableIn layout} {x : Bounds} {r : ℕ} (p : InPlane layout limit g t x r) where
  pub rows_small : (end : ℕ) → end ≤ x.g1 → (j : ℕ) → j < 5
      → plane_sum g (view_in layout t) x r x.g0 (end - x.g0) j < 2 ^ 50
  unfolding planes_sum plane_sum
  rows_small end h j l =
      omega (
        arith,
        sum_grow x.g0 (end - x.g0) (x.g1 - x.g0) (λ y. row_sum g (view_in layout t) r y x.b0 (x.b1 - x.b0) j)
            (omega arith),
        term_le x.r0 (x.r1 - x.r0) (λ y. plane_sum g (view_in layout t) x y x.g0 (x.g1 - x.g0) j) r p.from
            (omega (arith, p.from, p.before)),
        planes_small p.can_add x.r1 (omega arith) j l,
      )

module _ {layout : Layout} {g : Grid} {t : TableIn layout} {x : Bounds} {r gr : ℕ} (p : InRow layout limit g t x r gr) where
  pub bins_small : (end : ℕ) → end ≤ x.b1 → (j : ℕ) → j < 5
      → row_sum g (view_in layout t) r gr x.b0 (end - x.b0) j < 2 ^ 50
  unfolding plane_sum row_sum
  bins_small end h j l =
      omega (
        arith,
        sum_grow x.b0 (end - x.b0) (x.b1 - x.b0) (λ z. view_in layout t (place_of g r gr z) j) (omega arith),
        term_le x.g0 (x.g1 - x.g0) (λ y. row_sum g (view_in layout t) r y x.b0 (x.b1 - x.b0) j) gr p.from
            (omega (arith, p.from, p.before)),
        rows_small p.in_plane x.g1 (omega arith) j l,
      )

  -- a bin of it
  pub row_inside : {b : ℕ} → b < x.b1 → Inside g r gr b
  row_inside h =
      let e = sides p.in_plane.can_add.within in
      record {
        accepted = p.in_plane.can_add.within.accepted;
        one = omega (arith, p.in_plane.before, e.one_fits);
        two = omega (arith, p.before, e.two_fits);
        three = omega (arith, e.three_fits);
      }
