-- Laws of cells.
-- Assumes nothing.
use Rattle.std.proofs.Common.{◌≡◌, ℕ, zero, suc, ◌+◌, ◌-◌, ◌<◌, sym, refl, ap, ◌∙◌, arith, lit<}
use Rattle.table.specs.declared.cell.Cell.{Cell}
use Rattle.table.specs.Cell.{number_of, cell_of, plus_cell, minus_cell, AtLeast}

pub number_cell : (f : ℕ → ℕ) (j : ℕ) → j < 5 → number_of (cell_of f) j ≡ f j
unfolding number_of cell_of
number_cell f zero h = refl
number_cell f (suc zero) h = refl
number_cell f (suc (suc zero)) h = refl
number_cell f (suc (suc (suc zero))) h = refl
number_cell f (suc (suc (suc (suc zero)))) h = refl
number_cell f (suc (suc (suc (suc (suc j))))) h = absurd (omega arith)

-- the five numbers of a cell
pub cell_is : (f : ℕ → ℕ) → cell_of f ≡ record { weight = f 0; sum1 = f 1; sum2 = f 2; sum3 = f 3; squares = f 4 }
unfolding cell_of
cell_is f = refl

pub number_plus : (c d : Cell) (j : ℕ) → j < 5 → number_of (plus_cell c d) j ≡ number_of c j + number_of d j
unfolding plus_cell
number_plus c d j h = number_cell (λ k. number_of c k + number_of d k) j h

pub number_minus : (c d : Cell) (j : ℕ) → j < 5 → number_of (minus_cell c d) j ≡ number_of c j - number_of d j
unfolding minus_cell
number_minus c d j h = number_cell (λ k. number_of c k - number_of d k) j h

-- cells with the same numbers
pub cell_by : (c d : Cell) → ((j : ℕ) → j < 5 → number_of c j ≡ number_of d j) → c ≡ d
unfolding number_of
cell_by c d e =
    λ i.
    record {
      weight = e 0 (lit< tt) i;
      sum1 = e 1 (lit< tt) i;
      sum2 = e 2 (lit< tt) i;
      sum3 = e 3 (lit< tt) i;
      squares = e 4 (lit< tt) i;
    }

-- the fields of five numbers as a cell
pub record Fields (f : ℕ → ℕ) (c : Cell) : Type 0 where
  pub weight : c.weight ≡ f 0
  pub sum1 : c.sum1 ≡ f 1
  pub sum2 : c.sum2 ≡ f 2
  pub sum3 : c.sum3 ≡ f 3
  pub squares : c.squares ≡ f 4

pub cell_fields : (f : ℕ → ℕ) {c : Cell} → c ≡ cell_of f → Fields f c
unfolding cell_of
cell_fields f e =
    record {
      weight = ap (λ (c : Cell). c.weight) e;
      sum1 = ap (λ (c : Cell). c.sum1) e;
      sum2 = ap (λ (c : Cell). c.sum2) e;
      sum3 = ap (λ (c : Cell). c.sum3) e;
      squares = ap (λ (c : Cell). c.squares) e;
    }

-- cells of numbers, taken from each other
pub minus_least : (f h k : ℕ → ℕ) → ((j : ℕ) → f j ≡ h j + k j) → {c d : Cell} → c ≡ cell_of f → d ≡ cell_of h
    → AtLeast c d
minus_least f h k e {c} {d} p q =
    record {
      least = λ j l.
          omega (
            arith,
            ap (λ (x : Cell). number_of x j) p,
            ap (λ (x : Cell). number_of x j) q,
            number_cell f j l,
            number_cell h j l,
            e j,
          );
    }

pub minus_is : (f h k : ℕ → ℕ) → ((j : ℕ) → f j ≡ h j + k j) → {c d : Cell} → c ≡ cell_of f → d ≡ cell_of h → {x : Cell}
    → x ≡ minus_cell c d → x ≡ cell_of k
minus_is f h k e {c} {d} p q {x} r =
    cell_by x (cell_of k)
    (λ j l.
    omega (
      arith,
      ap (λ (y : Cell). number_of y j) r,
      number_minus c d j l,
      ap (λ (y : Cell). number_of y j) p,
      ap (λ (y : Cell). number_of y j) q,
      number_cell f j l,
      number_cell h j l,
      number_cell k j l,
      e j,
    ))

-- ---- a cell of zeros
abbrev pub zero_cell : Cell
zero_cell = record { weight = 0; sum1 = 0; sum2 = 0; sum3 = 0; squares = 0 }

pub zero_cell_lem : zero_cell ≡ cell_of (λ j. 0)
unfolding cell_of
zero_cell_lem = refl

pub zeros_cell : (f : ℕ → ℕ) → ((j : ℕ) → f j ≡ 0) → zero_cell ≡ cell_of f
zeros_cell f e =
    zero_cell_lem ∙ cell_by (cell_of (λ j. 0)) (cell_of f) (λ j h. number_cell (λ i. 0) j h ∙ sym (number_cell f j h ∙ e j))
