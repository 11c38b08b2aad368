-- `grid::place::grid_of` meets its contract: each refused size refuses the grid, and three shifts make it.
-- Assumes nothing.
-- the grid of three sizes whose shifts are known
use Rattle.std.specs.Prelude.{None, Option, Some}
use mathlib.Core.Path.{◌≡◌, refl, sym, ◌∙◌}
use Prim.Native.Nat.{ℕ}
use Rattle.grid.specs.Grid.{grid_of, grid_with}
use Rattle.grid.specs.Size.{shift_of}
use Rattle.grid.proofs.place.grid_of.Goals as goal

of_shifts : (b1 b2 b3 : ℕ) (s t u : Option ℕ) → shift_of b1 ≡ s → shift_of b2 ≡ t → shift_of b3 ≡ u
    → grid_of b1 b2 b3 ≡ grid_with b1 b2 b3 s t u
unfolding grid_of
of_shifts b1 b2 b3 s t u p q r i = grid_with b1 b2 b3 (p i) (q i) (r i)

pub returns-in_err-shift1 : goal.returns-in_err-shift1
unfolding grid_with
returns-in_err-shift1 c =
    let a = c.args in
    c.from_residual.ensures
    ∙ sym (of_shifts a.size1 a.size2 a.size3 None (shift_of a.size2) (shift_of a.size3)
    (sym c.in_err-shift1.ensures) refl refl)

pub returns-in_err-shift2 : goal.returns-in_err-shift2
unfolding grid_with
returns-in_err-shift2 c =
    let a = c.args in
    c.from_residual-in_err-shift2.ensures
    ∙ sym (of_shifts a.size1 a.size2 a.size3 (Some c.in_ok-shift1.shift1) None (shift_of a.size3)
    (sym c.in_ok-shift1.ensures) (sym c.in_err-shift2.ensures) refl)

pub returns-in_err-shift3 : goal.returns-in_err-shift3
unfolding grid_with
returns-in_err-shift3 c =
    let a = c.args in
    c.from_residual-in_err-shift3.ensures
    ∙ sym (of_shifts a.size1 a.size2 a.size3 (Some c.in_ok-shift1.shift1) (Some c.in_ok-shift2.shift2) None
    (sym c.in_ok-shift1.ensures) (sym c.in_ok-shift2.ensures) (sym c.in_err-shift3.ensures))

pub returns : goal.returns
unfolding grid_with
returns c =
    let a = c.args in
    sym (of_shifts a.size1 a.size2 a.size3 (Some c.in_ok-shift1.shift1) (Some c.in_ok-shift2.shift2)
    (Some c.in_ok-shift3.shift3)
    (sym c.in_ok-shift1.ensures) (sym c.in_ok-shift2.ensures) (sym c.in_ok-shift3.ensures))
