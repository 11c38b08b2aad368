-- Laws of entries: how a recording stands after some, one after the other, and their answers; and what lists that fit
-- say of each entry.
-- Assumes nothing.
use mathlib.Core.Path.{◌≡◌, refl, sym, ap, ◌∙◌}
use mathlib.Core.Logic.{◌⊎◌, inl, inr}
use mathlib.Core.Bool.{Bool, true, false, ◌&&◌, ◌||◌}
use mathlib.Core.List.{List, [], ◌∷◌, ◌++◌}
use Prim.Native.Nat.{ℕ, zero, suc, ◌+◌, ◌*◌, ◌≤◌, ◌<◌}
use native.Mathlib.Nat.{zero-add, add-zero, add-suc, suc-add, lt_of_not-le}
use native.Mathlib.Decide.{dec_le}
use native.Mathlib.Omega.{arith}
use borrow.Author.Tests.{eqb-true}
use lib.Dec.{eqb}
use lib.ListN.{length, get_or, take, drop, length-drop, get_or-eq_default}
use lib.Seq.{length-take-le, get_or-take, get_or-drop}
use Rattle.basics.specs.Range.{list_from}
use Rattle.basics.proofs.Lists.{list_last}
use Rattle.recorder.specs.Replay.{kind_at, count_at, entries_in, colours_before, is_entry, Entry, entry_at}
use Rattle.recorder.specs.Replay.{Standing, entry_number, entry_later, stands_after, answers_to, Recorded, lent_fits}
use Rattle.recorder.proofs.Fitting.{more_before, before_grows, Fits, fits_test, test_fits}

-- ---- entries one after the other
module _ (b1 b2 b3 : ℕ) where
  pub stands_append : (s : Standing) (es fs : List Entry)
      → stands_after b1 b2 b3 s (es ++ fs) ≡ stands_after b1 b2 b3 (stands_after b1 b2 b3 s es) fs
  unfolding stands_after
  stands_append s [] fs = refl
  stands_append s (e ∷ es) fs = stands_append (entry_later b1 b2 b3 s e) es fs

  pub answers_append : (s : Standing) (es fs : List Entry)
      → answers_to b1 b2 b3 s (es ++ fs) ≡ answers_to b1 b2 b3 s es ++ answers_to b1 b2 b3 (stands_after b1 b2 b3 s es) fs
  unfolding stands_after answers_to
  answers_append s [] fs = refl
  answers_append s (e ∷ es) fs =
      ap (λ (x : List ℕ). entry_number b1 b2 b3 s e ∷ x) (answers_append (entry_later b1 b2 b3 s e) es fs)

  -- one answer an entry
  pub answers_length : (s : Standing) (es : List Entry) → length (answers_to b1 b2 b3 s es) ≡ length es
  unfolding answers_to
  answers_length s [] = refl
  answers_length s (e ∷ es) = ap suc (answers_length (entry_later b1 b2 b3 s e) es)

  -- after one entry more
  pub stands_none : (s : Standing) (f : ℕ → Entry) → stands_after b1 b2 b3 s (list_from 0 0 f) ≡ s
  unfolding stands_after list_from
  stands_none s f = refl

  pub stands_next : (s : Standing) (f : ℕ → Entry) (i : ℕ)
      → stands_after b1 b2 b3 s (list_from 0 (suc i) f)
      ≡ entry_later b1 b2 b3 (stands_after b1 b2 b3 s (list_from 0 i f)) (f i)
  unfolding stands_after list_from
  stands_next s f i =
      ap (stands_after b1 b2 b3 s) (list_last i f) ∙ stands_append s (list_from 0 i f) (f i ∷ [])

  -- the answer to entry i
  answer_from : (j n i : ℕ) (s : Standing) (f : ℕ → Entry) → i < n
      → get_or (answers_to b1 b2 b3 s (list_from j n f)) i 0
      ≡ entry_number b1 b2 b3 (stands_after b1 b2 b3 s (list_from j i f)) (f (j + i))
  unfolding answers_to stands_after list_from
  answer_from j zero i s f h = absurd (omega arith)
  answer_from j (suc n) zero s f h = ap (λ (k : ℕ). entry_number b1 b2 b3 s (f k)) (sym (add-zero j))
  answer_from j (suc n) (suc i) s f h =
      answer_from (suc j) n i (entry_later b1 b2 b3 s (f j)) f (omega arith)
      ∙ ap
      (λ (k : ℕ).
      entry_number b1 b2 b3 (stands_after b1 b2 b3 (entry_later b1 b2 b3 s (f j)) (list_from (suc j) i f)) (f k))
      (suc-add j i ∙ sym (add-suc j i))

  pub answer_at : (s : Standing) (f : ℕ → Entry) (n i : ℕ) → i < n
      → get_or (answers_to b1 b2 b3 s (list_from 0 n f)) i 0
      ≡ entry_number b1 b2 b3 (stands_after b1 b2 b3 s (list_from 0 i f)) (f i)
  answer_at s f n i h =
      answer_from 0 n i s f h
      ∙ ap (λ (k : ℕ). entry_number b1 b2 b3 (stands_after b1 b2 b3 s (list_from 0 i f)) (f k)) (zero-add i)

-- ---- a list that fits
-- of an entry: a reload without colours, or a batch
pub entry_says : (entries : List ℕ) (i : ℕ) → is_entry entries i ≡ true
    → ((kind_at entries i ≡ 0) × (count_at entries i ≡ 0)) ⊎ (kind_at entries i ≡ 1)
unfolding is_entry
entry_says entries i = go (eqb kind 0) (eqb count 0) refl refl
  where
    kind : ℕ
    kind = kind_at entries i

    count : ℕ
    count = count_at entries i

    go : (a b : Bool) → eqb kind 0 ≡ a → eqb count 0 ≡ b → ((a && b) || eqb kind 1) ≡ true
        → ((kind ≡ 0) × (count ≡ 0)) ⊎ (kind ≡ 1)
    go true true p q e = inl (eqb-true kind 0 p, eqb-true count 0 q)
    go true false p q e = inr (eqb-true kind 1 e)
    go false b p q e = inr (eqb-true kind 1 e)

-- all that is lent fits
abbrev pub AllFits : Recorded → Type 0
AllFits r = Fits r.entries (length r.colours) (length r.weights) (length r.answers)

pub fits_says : (r : Recorded) → lent_fits r ≡ true → AllFits r
unfolding lent_fits
fits_says r e = test_fits r.entries (length r.colours) (length r.weights) (length r.answers) e

pub fits_by : (r : Recorded) → AllFits r → lent_fits r ≡ true
unfolding lent_fits
fits_by r f = fits_test r.entries (length r.colours) (length r.weights) (length r.answers) f

-- the colours and weights of each entry lie in what is lent
module _ (r : Recorded) (f : AllFits r) (i : ℕ) (h : i < entries_in r.entries) where
  abbrev es : List ℕ
  es = r.entries

  pub within : colours_before r.entries i + count_at r.entries i
      ≤ colours_before r.entries (entries_in r.entries)
  within = omega (arith, more_before es i, before_grows es (i + 1) (entries_in es) (omega arith))

  pub colours_length : length (entry_at es r.colours r.weights i).colours ≡ 3 * count_at es i
  unfolding entry_at
  colours_length =
      length-take-le (3 * count_at es i) (drop (3 * colours_before es i) r.colours)
      (omega (arith, within, f.bytes, length-drop (3 * colours_before es i) r.colours))

  pub weights_length : length (entry_at es r.colours r.weights i).weights ≡ count_at es i
  unfolding entry_at
  weights_length =
      length-take-le (count_at es i) (drop (colours_before es i) r.weights)
      (omega (arith, within, f.pairs, length-drop (colours_before es i) r.weights))

  pub entry_bytes : ((k : ℕ) → get_or r.colours k 0 < 256)
      → (k : ℕ) → get_or (entry_at es r.colours r.weights i).colours k 0 < 256
  unfolding entry_at
  entry_bytes bytes k = go (dec_le (3 * count_at es i) k)
    where
      mine : List ℕ
      mine = drop (3 * colours_before es i) r.colours

      go : Dec (3 * count_at es i ≤ k) → get_or (take (3 * count_at es i) mine) k 0 < 256
      go (yes l) =
          rw (get_or-eq_default (take (3 * count_at es i) mine) 0 {n = k} (omega (arith, colours_length, l)))
          (omega arith)
      go (no l) =
          rw (get_or-take (3 * count_at es i) mine k 0 (lt_of_not-le l)
          ∙ get_or-drop (3 * colours_before es i) r.colours k 0)
          (bytes (3 * colours_before es i + k))
