-- The answer to a call, test by test, and the list that it leaves.
-- Assumes nothing.
use mathlib.Core.Path.{◌≡◌, refl, sym, ap, ◌∙◌}
use mathlib.Core.Bool.{false}
use mathlib.Core.List.{List, ◌++◌}
use Prim.Native.Nat.{ℕ, suc, ◌+◌, ◌%◌, ◌≤◌, ◌<◌}
use native.Mathlib.Omega.{arith}
use native.Mathlib.Nat.{zero-add}
use borrow.Author.Tests.{eqb-true, eqb-false, leb-true, ltb-false, not-false, le-ltb, le-leb, eq-eqb}
use lib.Dec.{leb, eqb}
use lib.ListN.{length, get_or, set, take, drop, length-set, length-append, length-drop}
use lib.ListN.{take-append-drop, get_or-append}
use lib.Seq.{length-take-le, get_or-take, drop_at, drop-set-lt, drop-drop}
use Rattle.basics.specs.Answer.{refuse, when_done}
use Rattle.basics.specs.Range.{list_from}
use Rattle.basics.proofs.Range.{Filled, filled_more, length_list, list_at, list_is, and_left, and_right}
use Rattle.basics.proofs.Ends.{passed, refused_keeps}
use Rattle.terminal.specs.Nearest.{entries_in, nearest_at, nearest_number, numbers_for, nearest_later, CanNearest}

-- ---- the answer
module _ (palette answers : List ℕ) where
  pub number_passed : nearest_number palette answers ≡ 0 → CanNearest palette answers
  unfolding nearest_number
  number_passed e =
      let size = passed _ 4 _ e in
      let threes = passed _ 4 _ size.1 in
      let room = passed _ 4 0 threes.1 in
      let both = not-false _ size.0 in
      record {
        some = leb-true 3 (length palette) (and_left (leb 3 (length palette)) (leb (length palette) 768) both);
        few = leb-true (length palette) 768 (and_right (leb 3 (length palette)) (leb (length palette) 768) both);
        threes = eqb-true (length palette % 3) 0 (not-false _ threes.0);
        room = ltb-false (length answers) (entries_in palette) room.0;
      }

  -- and the other way round: "where none applies, the answer is 0"
  pub number_accepted : CanNearest palette answers → nearest_number palette answers ≡ 0
  unfolding nearest_number refuse
  number_accepted p = simp (le-leb _ _ p.some, le-leb _ _ p.few, eq-eqb _ _ p.threes, le-ltb _ _ p.room)

-- ---- the list
-- a list whose first i places have f, and what follows is as it was
pub record Written (f : ℕ → ℕ) (old : List ℕ) (i : ℕ) (new : List ℕ) : Type 0 where
  pub front : Filled new f i
  pub rest : drop i new ≡ drop i old
  pub long : length new ≡ length old

module _ (f : ℕ → ℕ) (old : List ℕ) where
  pub written_more : (i x : ℕ) (l : List ℕ) → Written f old i l → i < length old → x ≡ f i
      → Written f old (i + 1) (set l i x)
  written_more i x l w h e =
      record {
        front = filled_more l f i x (omega (arith, w.long)) e w.front;
        rest = drop-set-lt (i + 1) l i x (omega arith)
            ∙ sym (drop-drop 1 i l) ∙ ap (drop 1) w.rest ∙ drop-drop 1 i old;
        long = length-set l i x ∙ w.long;
      }

  -- it is the list of f with the rest behind it
  pub written_all : (n : ℕ) (l : List ℕ) → Written f old n l → n ≤ length old → l ≡ list_from 0 n f ++ drop n old
  written_all n l w h =
      sym (take-append-drop n l)
      ∙ (λ i. list_is n f (take n l) 0 (length-take-le n l (omega (arith, w.long)))
      (λ k b. get_or-take n l k 0 b ∙ w.front k b) i ++ w.rest i)

module _ (palette answers : List ℕ) (p : CanNearest palette answers) where
  abbrev numbers : List ℕ
  numbers = list_from 0 (entries_in palette) (nearest_at palette)

  size : length numbers ≡ entries_in palette
  size = length_list 0 (entries_in palette) (nearest_at palette)

  pub numbers_at : (i : ℕ) → i < entries_in palette → get_or (numbers_for palette answers) i 0 ≡ nearest_at palette i
  unfolding numbers_for
  numbers_at i h =
      get_or-append numbers (drop (entries_in palette) answers) 0 i (omega (arith, h, size))
      ∙ list_at 0 (entries_in palette) (nearest_at palette) i 0 h ∙ ap (nearest_at palette) (zero-add i)

  pub numbers_rest : drop (entries_in palette) (numbers_for palette answers) ≡ drop (entries_in palette) answers
  unfolding numbers_for
  numbers_rest = drop_at numbers (drop (entries_in palette) answers) (entries_in palette) size

  pub numbers_length : length (numbers_for palette answers) ≡ length answers
  unfolding numbers_for
  numbers_length =
      omega (
        arith,
        length-append numbers (drop (entries_in palette) answers),
        size,
        length-drop (entries_in palette) answers,
        p.room,
      )

-- a call that is not refused has room for every number
pub nearest_room : (palette answers : List ℕ) → nearest_number palette answers ≡ 0 → entries_in palette ≤ length answers
nearest_room palette answers e = (number_passed palette answers e).room

pub nearest_done : (palette answers : List ℕ) → nearest_number palette answers ≡ 0
    → nearest_later palette answers ≡ numbers_for palette answers
unfolding nearest_later when_done
nearest_done palette answers e = rw e refl

-- a refusal leaves the list as it was
pub nearest_kept : (palette answers : List ℕ) → eqb (nearest_number palette answers) 0 ≡ false
    → nearest_later palette answers ≡ answers
unfolding nearest_later
nearest_kept palette answers e = sym (refused_keeps _ (eqb-false _ 0 e) answers (numbers_for palette answers))

pub nearest_refused : {n : ℕ} (palette answers : List ℕ) → nearest_number palette answers ≡ suc n
    → nearest_later palette answers ≡ answers
unfolding nearest_later when_done
nearest_refused palette answers e = rw e refl
