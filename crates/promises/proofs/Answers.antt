-- "Where what is handed back is an enum, a definition sets out the answer and the values for each of its cases. The
-- promises use that definition.": what a caller is told of a size, of three sizes, of a table, of a batch added to one
-- and of the best position of a box.
-- Assumes nothing.
use Rattle.std.specs.Prelude.{None, Option, Some}
use mathlib.Core.Path.{◌≡◌, refl, ap, ◌∙◌}
use mathlib.Core.Logic.{◌⊎◌, inl, inr}
use mathlib.Core.Bool.{Bool, true, false, cond}
use mathlib.Core.List.{List, [], ◌∷◌, Memᴰ}
use Prim.Native.Nat.{ℕ}
use borrow.Author.Tests.{eqb-true}
use lib.Dec.{eqb}
use Rattle.grid.specs.declared.place.Grid.{Grid}
use Rattle.grid.specs.Size.{choices, shift_in, shift_of, shift_answer}
use Rattle.grid.specs.Grid.{grid_with, grid_of, grid_answer}
use Rattle.table.specs.Cell.{View}
use Rattle.table.specs.Sound.{limit, total, sound, sound_total, sound_answer}
use Rattle.table.proofs.Total.{total_told, unsound_told}
use Rattle.adder.specs.Batch.{Weighted, weight_of}
use Rattle.adder.specs.Add.{added_to, added_answer}
use Rattle.adder.proofs.Adding.{added_fits, added_passes}
use Rattle.boxes.specs.declared.sides.Bounds.{Bounds}
use Rattle.boxes.specs.Box.{Within}
use Rattle.spread.specs.Cut.{position_answer, best_cut}
use Rattle.spread.specs.Best.{Candidate, Tells}
use Rattle.spread.proofs.Least.{best_told}
use Rattle.promises.specs.Answers.{Among, NotAmong, ShiftTold, GridTold, SoundTold, AddedTold}
use Rattle.promises.proofs.Each.{each}

-- ---- a size
among_shift : {size s : ℕ} → Among size s → shift_of size ≡ Some s
unfolding shift_of shift_in choices
among_shift m = each (λ (c : ℕ × ℕ). shift_of c.0) (λ c. Some c.1) choices refl m

none_in : (cs : List (ℕ × ℕ)) (size : ℕ) → ((s : ℕ) → Memᴰ (size, s) cs → ⊥) → shift_in cs size ≡ None
unfolding shift_in
none_in [] size n = refl
none_in (c ∷ cs) size n = go (eqb size c.0) refl (none_in cs size (λ s m. n s (Memᴰ.tail m)))
  where
    go : (b : Bool) → eqb size c.0 ≡ b → shift_in cs size ≡ None
        → cond b (Some c.1) (shift_in cs size) ≡ None
    go true e rest = absurd (n c.1 (Memᴰ.head (λ i. (eqb-true size c.0 e i, c.1))))
    go false e rest = rest

not_among : (size : ℕ) → NotAmong size → shift_of size ≡ None
unfolding shift_of
not_among size n = none_in choices size n

pub shift_told : (size : ℕ) → ShiftTold size (shift_answer (shift_of size))
unfolding shift_answer
shift_told size =
    record {
      done = λ s m. ap shift_answer (among_shift m);
      refused = λ n. ap shift_answer (not_among size n);
    }

-- ---- three sizes
second_refused : (b1 b2 b3 : ℕ) (x z : Option ℕ) → grid_with b1 b2 b3 x None z ≡ None
unfolding grid_with
second_refused b1 b2 b3 (Some s) z = refl
second_refused b1 b2 b3 None z = refl

third_refused : (b1 b2 b3 : ℕ) (x y : Option ℕ) → grid_with b1 b2 b3 x y None ≡ None
unfolding grid_with
third_refused b1 b2 b3 (Some s) (Some u) = refl
third_refused b1 b2 b3 (Some s) None = refl
third_refused b1 b2 b3 None y = refl

no_grid_lem : (b1 b2 b3 : ℕ) → NotAmong b1 ⊎ (NotAmong b2 ⊎ NotAmong b3) → grid_of b1 b2 b3 ≡ None
unfolding grid_of grid_with
no_grid_lem b1 b2 b3 (inl n) = ap (λ (x : Option ℕ). grid_with b1 b2 b3 x (shift_of b2) (shift_of b3)) (not_among b1 n)
no_grid_lem b1 b2 b3 (inr (inl n)) = ap (λ (x : Option ℕ). grid_with b1 b2 b3 (shift_of b1) x (shift_of b3)) (not_among b2 n)
    ∙ second_refused b1 b2 b3 (shift_of b1) (shift_of b3)
no_grid_lem b1 b2 b3 (inr (inr n)) = ap (λ (x : Option ℕ). grid_with b1 b2 b3 (shift_of b1) (shift_of b2) x) (not_among b3 n)
    ∙ third_refused b1 b2 b3 (shift_of b1) (shift_of b2)

pub grid_told : (b1 b2 b3 : ℕ) → GridTold b1 b2 b3 (grid_answer (grid_of b1 b2 b3))
unfolding grid_answer grid_of grid_with
grid_told b1 b2 b3 =
    record {
      done = λ s1 s2 s3 l m n i. grid_answer (grid_with b1 b2 b3 (among_shift l i) (among_shift m i) (among_shift n i));
      refused = λ n. ap grid_answer (no_grid_lem b1 b2 b3 n);
    }

-- ---- a table
pub sound_told : (g : Grid) (v : View)
    → SoundTold (sound limit g v) (total g v) (sound_answer (sound_total limit g v))
sound_told g v =
    record {
      done = λ e. ap sound_answer (total_told limit g v e);
      refused = λ e. ap sound_answer (unsound_told limit g v e);
    }

-- ---- a batch added to a table
pub added_told : (had : ℕ) (cs : List Weighted) → AddedTold had (weight_of cs) (added_answer (added_to limit had cs))
added_told had cs =
    record {
      done = λ h. ap added_answer (added_fits limit had cs h);
      refused = λ h. ap added_answer (added_passes limit had cs h);
    }

-- ---- the best position of a box: "either a position with its float score, or that no position exists; the second
-- exactly when no position has weight on both sides", and "The smallest score wins; on a tie the lowest dimension, in
-- it the lowest bin."
pub position_told : (g : Grid) (v : View) (x : Bounds) → sound limit g v ≡ true → Within g x
    → Tells (Candidate g v x) (position_answer (best_cut g v x))
position_told g v x e w = best_told (record { holds = e }) w
