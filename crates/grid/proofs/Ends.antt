-- How a call ends: it gives the answer of a chain over the grid, and leaves what was there unless it is done.
-- Assumes nothing.
use Rattle.std.specs.Prelude.{None, Option, Some}
use mathlib.Core.Path.{◌≡◌, refl}
use Prim.Native.Nat.{ℕ, suc}
use native.Mathlib.Omega.{arith}
use Rattle.grid.specs.declared.place.Grid.{Grid}
use Rattle.basics.specs.Answer.{when_done}
use Rattle.grid.specs.Grid.{grid_answer, on_grid, number_on}

-- ---- what the code shows of a call
module _ {A : Type 0} (c : Option Grid) (f : Grid → ℕ) (done : Grid → A) (kept : A) where
  pub grid_refused : c ≡ None
      → (1 ≡ number_on c f) × (kept ≡ on_grid c kept (λ g. when_done (f g) (done g) kept))
  unfolding number_on on_grid grid_answer
  grid_refused e = (rw e refl, rw e refl)

  pub ends : {g : Grid} → c ≡ Some g → {n : ℕ} → f g ≡ n → {e : A} → e ≡ when_done n (done g) kept
      → (n ≡ number_on c f) × (e ≡ on_grid c kept (λ g. when_done (f g) (done g) kept))
  unfolding number_on on_grid
  ends p q r = (rw (p, q) refl, rw (p, q, r) refl)

-- ---- what its answer tells
left_alone : {A : Type 0} (m : ℕ) (x t : A) {n : ℕ} → m ≡ suc n → when_done m x t ≡ t
unfolding when_done
left_alone m x t e = rw e refl

done_leaves : {A : Type 0} (m : ℕ) (x t : A) → m ≡ 0 → when_done m x t ≡ x
unfolding when_done
done_leaves m x t e = rw e refl

pub call_refused : {A : Type 0} (c : Option Grid) (f : Grid → ℕ) (done : Grid → A) (t : A) {n : ℕ} → number_on c f ≡ suc n
    → on_grid c t (λ g. when_done (f g) (done g) t) ≡ t
unfolding number_on on_grid
call_refused (Some g) f done t e = left_alone (f g) (done g) t e
call_refused None f done t e = refl

pub record OnGrid {A : Type 0} (c : Option Grid) (f : Grid → ℕ) (done : Grid → A) (t : A) : Type 0 where
  pub g : Grid
  pub is : c ≡ Some g
  pub number : f g ≡ 0
  pub later : on_grid c t (λ h. when_done (f h) (done h) t) ≡ done g

pub call_done : {A : Type 0} (c : Option Grid) (f : Grid → ℕ) (done : Grid → A) (t : A) → number_on c f ≡ 0
    → OnGrid c f done t
unfolding number_on on_grid grid_answer
call_done (Some g) f done t e =
    record { g = g; is = refl; number = e; later = done_leaves (f g) (done g) t e }
call_done None f done t e = absurd (never e)
  where
    never : ◌≡◌ {A = ℕ} 1 0 → ⊥
    never q = omega arith
