-- Laws of a list of f at n numbers from i on.
-- Assumes nothing.
use mathlib.Core.Path.{◌≡◌, refl, sym, ap, ◌∙◌}
use mathlib.Core.List.{List, [], ◌∷◌, ◌++◌, map}
use Prim.Native.Nat.{ℕ, zero, suc, ◌+◌, ◌≤◌, ◌<◌}
use native.Mathlib.Nat.{zero-add, add-zero, add-suc, suc-add}
use native.Mathlib.Omega.{arith}
use Rattle.basics.specs.Range.{list_from}

pub map_list : {A B : Type 0} (f : A → B) (i n : ℕ) (h : ℕ → A) → map f (list_from i n h) ≡ list_from i n (λ k. f (h k))
unfolding list_from
map_list f i zero h = refl
map_list f i (suc n) h = λ k. f (h i) ∷ map_list f (suc i) n h k

module _ {A : Type 0} where
  pub list_append : (i n m : ℕ) (f : ℕ → A) → list_from i (n + m) f ≡ list_from i n f ++ list_from (i + n) m f
  unfolding list_from
  list_append i zero m f = λ k. list_from (sym (add-zero i) k) (zero-add m k) f
  list_append i (suc n) m f =
      ap (λ (k : ℕ). list_from i k f) (suc-add n m)
      ∙ ap (λ (x : List A). f i ∷ x)
      (list_append (suc i) n m f
      ∙ ap (λ (k : ℕ). list_from (suc i) n f ++ list_from k m f) (suc-add i n ∙ sym (add-suc i n)))

  -- the same where f is
  pub list_same : (i n : ℕ) (f h : ℕ → A) → ((p : ℕ) → i ≤ p → p < i + n → f p ≡ h p)
      → list_from i n f ≡ list_from i n h
  unfolding list_from
  list_same i zero f h e = refl
  list_same i (suc n) f h e =
      λ k. e i (omega arith) (omega (arith, add-suc i n)) k
      ∷ list_same (suc i) n f h (λ p a b. e p (omega arith) (omega (arith, b, suc-add i n, add-suc i n))) k

  pub list_shift : (a i n : ℕ) (f : ℕ → A) → list_from (a + i) n f ≡ list_from i n (λ k. f (a + k))
  unfolding list_from
  list_shift a i zero f = refl
  list_shift a i (suc n) f =
      ap (λ (x : List A). f (a + i) ∷ x)
      (ap (λ (k : ℕ). list_from k n f) (sym (add-suc a i)) ∙ list_shift a (suc i) n f)

  -- one more at the end
  pub list_last : (n : ℕ) (f : ℕ → A) → list_from 0 (suc n) f ≡ list_from 0 n f ++ (f n ∷ [])
  unfolding list_from
  list_last n f =
      ap (λ (k : ℕ). list_from 0 k f) (next n) ∙ list_append 0 n 1 f
      ∙ ap (λ (k : ℕ). list_from 0 n f ++ (f k ∷ [])) (zero-add n)
    where
      next : (n : ℕ) → suc n ≡ n + 1
      next n = omega arith
