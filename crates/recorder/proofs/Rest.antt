-- A replay between two entries: how it stands, what is told so far, and that the entries that are left lead to the end.
-- Assumes nothing.
use mathlib.Core.Path.{◌≡◌, refl, sym, ap, ◌∙◌}
use mathlib.Core.Bool.{true}
use mathlib.Core.List.{List, [], ◌∷◌, ◌++◌, append-nil}
use Prim.Native.Nat.{ℕ, suc, ◌+◌, ◌-◌, ◌*◌, ◌≤◌, ◌<◌}
use native.Mathlib.Omega.{arith}
use lib.ListN.{length, set, take, drop, length-set, take-append-drop}
use lib.Seq.{take-suc-set, drop-set-lt, append_snoc, drop-drop}
use borrow.Rule.Slice.PartMut.{mid_len}
use Rattle.basics.specs.Range.{list_from}
use Rattle.grid.specs.declared.place.Grid.{Grid}
use Rattle.table.specs.Table.{Table}
use Rattle.table.specs.Sound.{limit}
use Rattle.adder.specs.Add.{Known, Whole}
use Rattle.recorder.specs.declared.session.Session.{Session}
use Rattle.recorder.specs.Replay.{kind_at, interval_at, count_at, entries_in, colours_before, Entry, Standing}
use Rattle.recorder.specs.Replay.{entry_at, entries_of, stands_after, answers_to}
use Rattle.recorder.specs.Inner.{stand, entry, number_on, later_on, stands_on, answers_on}
use Rattle.recorder.proofs.Fitting.{none_before, more_before}

-- ---- an entry as the code hands it on: parts of the two lists
module _ (entries colours weights : List ℕ) (i : ℕ) {at : ℕ} (e : at ≡ colours_before entries i) where
  abbrev count : ℕ
  count = count_at entries i

  abbrev its_colours : List ℕ
  its_colours = take (3 * (at + count) - 3 * at) (drop (3 * at) colours)

  abbrev its_weights : List ℕ
  its_weights = take ((at + count) - at) (drop at weights)

  pub entry_is : entry (kind_at entries i) (interval_at entries i) its_colours its_weights
      ≡ entry_at entries colours weights i
  unfolding entry_at
  entry_is =
      λ j. record {
        kind = kind_at entries i;
        interval = interval_at entries i;
        colours = take (bytes at (count) j) (drop (3 * e j) colours);
        weights = take (many at (count) j) (drop (e j) weights);
      }
    where
      bytes : (a n : ℕ) → 3 * (a + n) - 3 * a ≡ 3 * n
      bytes a n = omega arith

      many : (a n : ℕ) → (a + n) - a ≡ n
      many a n = omega arith

  pub entry_whole : 3 * (at + count) ≤ length colours → at + count ≤ length weights → Whole its_colours true its_weights
  entry_whole h l =
      let bytes = mid_len (3 * at) (3 * (at + count)) colours h in
      let many = mid_len at (at + count) weights l in
      record { threes = omega (arith, bytes); paired = λ given. omega (arith, bytes, many) }

-- ---- between two entries
one_more : (i : ℕ) → i + 1 ≡ suc i
one_more i = omega arith

module _ (g : Grid) (entries colours weights : List ℕ) where
  abbrev one : ℕ → Entry
  one = entry_at entries colours weights

  abbrev n : ℕ
  n = entries_in entries

  abbrev rest : ℕ → List Entry
  rest i = list_from i (n - i) one

  -- begun at one standing and one list of answer bytes, before entry i
  pub record Reached (first : Standing) (old : List ℕ) (i at : ℕ) (s : Session) (t : Table) (sum : ℕ)
      (answers : List ℕ) : Type 0 where
    pub below : i ≤ n
    pub place : at ≡ colours_before entries i
    pub known : Known limit g t sum
    pub stands : stands_on g (stand s t) (rest i) ≡ stands_on g first (entries_of entries colours weights)
    pub told : take i answers ++ answers_on g (stand s t) (rest i)
        ≡ answers_on g first (entries_of entries colours weights)
    pub kept : drop i answers ≡ drop i old
    pub long : length answers ≡ length old

  from_first : rest 0 ≡ entries_of entries colours weights
  unfolding entries_of
  from_first = ap (λ (k : ℕ). list_from 0 k one) (none_passed n)
    where
      none_passed : (m : ℕ) → m - 0 ≡ m
      none_passed m = omega arith

  pub reached_first : (s : Session) {t : Table} {had : ℕ} → Known limit g t had → (old : List ℕ)
      → Reached (stand s t) old 0 0 s t had old
  reached_first s {t} k old =
      record {
        below = omega arith;
        place = sym (none_before entries);
        known = k;
        stands = ap (stands_on g (stand s t)) from_first;
        told = ap (answers_on g (stand s t)) from_first;
        kept = refl;
        long = refl;
      }

  next : (i : ℕ) → i < n → rest i ≡ one i ∷ rest (i + 1)
  unfolding list_from
  next i h =
      ap (λ (k : ℕ). list_from i k one) (less i n h)
      ∙ ap (λ (k : ℕ). one i ∷ list_from k (n - (i + 1)) one) (sym (one_more i))
    where
      less : (i m : ℕ) → i < m → m - i ≡ suc (m - (i + 1))
      less i m h = omega arith

  module _ {first : Standing} {old : List ℕ} {i at : ℕ} {s : Session} {t : Table} {sum : ℕ} {answers : List ℕ}
      (r : Reached first old i at s t sum answers) where
    pub reached_next : i < n → n ≤ length old → {k : ℕ} → k ≡ number_on g (stand s t) (one i) → {u : Session} {e : Table}
        → stand u e ≡ later_on g (stand s t) (one i) → {more : ℕ} → Known limit g e more
        → Reached first old (i + 1) (at + count_at entries i) u e more (set answers i k)
    unfolding stands_after answers_to
    reached_next h room {k} number {u} {e} later known =
        record {
          below = omega arith;
          place = ap (λ (m : ℕ). m + count_at entries i) r.place ∙ sym (more_before entries i);
          known = known;
          stands =
              ap (λ (x : Standing). stands_on g x (rest (i + 1))) later
              ∙ sym (ap (stands_on g (stand s t)) (next i h)) ∙ r.stands;
          told =
              (λ j. written j ++ answers_on g (later j) (rest (i + 1)))
              ∙ append_snoc (take i answers) (number_on g (stand s t) (one i)) _
              ∙ sym (ap (λ (es : List Entry). take i answers ++ answers_on g (stand s t) es) (next i h)) ∙ r.told;
          kept =
              drop-set-lt (i + 1) answers i k (omega arith)
              ∙ sym (drop-drop 1 i answers) ∙ ap (drop 1) r.kept ∙ drop-drop 1 i old;
          long = length-set answers i k ∙ r.long;
        }
      where
        written : take (i + 1) (set answers i k) ≡ take i answers ++ (number_on g (stand s t) (one i) ∷ [])
        written =
            ap (λ (m : ℕ). take m (set answers i k)) (one_more i)
            ∙ take-suc-set answers i k (omega (arith, r.long))
            ∙ ap (λ (x : ℕ). take i answers ++ (x ∷ [])) number

    pub reached_last : i ≡ n → (stand s t ≡ stands_on g first (entries_of entries colours weights))
        × (answers ≡ answers_on g first (entries_of entries colours weights) ++ drop n old)
    unfolding stands_after answers_to list_from
    reached_last e = (
      sym (ap (stands_on g (stand s t)) none_left) ∙ r.stands,
      sym (take-append-drop i answers) ∙ (λ j. told_all j ++ (r.kept ∙ ap (λ (m : ℕ). drop m old) e) j),
    )
      where
        none_left : rest i ≡ []
        none_left = ap (λ (k : ℕ). list_from i k one) (passed i n e)
          where
            passed : (a b : ℕ) → a ≡ b → b - a ≡ 0
            passed a b q = omega arith

        told_all : take i answers ≡ answers_on g first (entries_of entries colours weights)
        told_all =
            sym (append-nil (take i answers))
            ∙ sym (ap (λ (es : List Entry). take i answers ++ answers_on g (stand s t) es) none_left)
            ∙ r.told
