-- When each answer applies to a call of the recorder, and what such a call is given that nothing refuses (Rules,
-- Record; Rules, Replay; Rules, Answers). Definitions only.
use Rattle.std.specs.Prelude.{Option}
use Rattle.std.specs.Prelude.{◌≡◌, ◌⊎◌, Bool, true, not, ◌&&◌, ◌||◌, cond, List, [], ◌∷◌, ℕ, ◌+◌, ◌*◌, ◌/◌, ◌%◌, ◌≤◌, ◌<◌, eqb, ltb, length, get_or}
use Rattle.basics.specs.Range.{sum_from, all_from}
use Rattle.grid.specs.declared.place.Grid.{Grid}
use Rattle.grid.specs.Grid.{grid_of, bins_of}
use Rattle.table.specs.Table.{Table, Sized, is_sized, view_of}
use Rattle.table.specs.Sound.{limit, total, sound}
use Rattle.recorder.specs.declared.session.Session.{Session}
use Rattle.recorder.specs.Session.{is_interval}
use Rattle.recorder.specs.Replay.{kind_at, count_at, entries_in, colours_before, Recorded}
use Rattle.promises.specs.Numbers.{Tests, applies, no_grid, on_bins}

-- ---- which answers apply
-- "begin and reload 13"
unfoldable pub interval_tests : ℕ → Tests
interval_tests i = (13, not (is_interval i)) ∷ []

unfoldable pub interval_applies : ℕ → ℕ → Bool
interval_applies i = applies (interval_tests i)

-- what a batch weighs: its interval times all its weights, or "Without weights each colour weighs the interval"
unfoldable pub batch_weighs : ℕ → List ℕ → Bool → List ℕ → ℕ
batch_weighs i colours weighted weights =
    i * cond weighted (sum_from 0 (length colours / 3) (λ k. get_or weights k 0)) (length colours / 3)

-- "batch 13, 14, 1, 3, 4, 5, 6, 7"
unfoldable pub scaled_tests : Option Grid → ℕ → Table → List ℕ → Bool → List ℕ → Tests
scaled_tests c i t colours weighted weights =
    (1, no_grid c)
    ∷ (3, not (eqb (length colours % 3) 0))
    ∷ (4, weighted && not (eqb (length weights) (length colours / 3)))
    ∷ (5, on_bins c (λ g. not (is_sized t (bins_of g))))
    ∷ (6, on_bins c (λ g. not (sound limit g (view_of t))))
    ∷ (7, on_bins c (λ g. ltb limit (total g (view_of t) + batch_weighs i colours weighted weights)))
    ∷ []

unfoldable pub batch_tests : Option Grid → Session → ℕ → Table → List ℕ → Bool → List ℕ → Tests
batch_tests c s i t colours weighted weights =
    (13, not (is_interval i)) ∷ (14, not (eqb i s.interval)) ∷ scaled_tests c i t colours weighted weights

unfoldable pub batch_applies : Session → ℕ → ℕ → ℕ → ℕ → Table → List ℕ → Bool → List ℕ → ℕ → Bool
batch_applies s i b1 b2 b3 t colours weighted weights =
    applies (batch_tests (grid_of b1 b2 b3) s i t colours weighted weights)

-- "replay 13, 1, 5, 6": 5 also where entries are not in threes, another kind, a reload with colours, colours or weights
-- that do not fit the entries exactly, and fewer answer bytes than entries
unfoldable pub list_tests : Option Grid → Table → Recorded → Tests
list_tests c t r =
    (1, no_grid c)
    ∷ (5, on_bins c (λ g. not (is_sized t (bins_of g))))
    ∷ (5, not (eqb (length r.entries % 3) 0))
    ∷ (
      5,
      not (all_from 0 (entries_in r.entries)
          (λ i. eqb (kind_at r.entries i) 0 || eqb (kind_at r.entries i) 1)),
    )
    ∷ (
      5,
      not (all_from 0 (entries_in r.entries)
          (λ i. not (eqb (kind_at r.entries i) 0) || eqb (count_at r.entries i) 0)),
    )
    ∷ (5, not (eqb (length r.colours) (3 * colours_before r.entries (entries_in r.entries))))
    ∷ (5, not (eqb (length r.weights) (colours_before r.entries (entries_in r.entries))))
    ∷ (5, ltb (length r.answers) (entries_in r.entries))
    ∷ (6, on_bins c (λ g. not (sound limit g (view_of t))))
    ∷ []

unfoldable pub replay_tests : Option Grid → ℕ → Table → Recorded → Tests
replay_tests c first t r = (13, not (is_interval first)) ∷ list_tests c t r

unfoldable pub replay_applies : ℕ → ℕ → ℕ → ℕ → Table → Recorded → ℕ → Bool
replay_applies first b1 b2 b3 t r = applies (replay_tests (grid_of b1 b2 b3) first t r)

-- ---- what a call is given that nothing refuses
-- of begin and reload, no 13
pub record InRange (i : ℕ) : Type 0 where
  pub least : 1 ≤ i
  pub most : i ≤ 4096

-- of a batch, no 13, 14, 3, 4, 5, 6, 7
pub record CanBatch (s : Session) (i : ℕ) (t : Table) (colours : List ℕ) (weighted : Bool) (weights : List ℕ)
    (g : Grid) : Type 0 where
  pub range : InRange i
  pub in_force_lem : i ≡ s.interval
  pub threes : length colours % 3 ≡ 0
  pub paired : weighted ≡ true → length weights ≡ length colours / 3
  pub lent : Sized t (bins_of g)
  pub is_sound : sound limit g (view_of t) ≡ true
  pub fits : total g (view_of t) + batch_weighs i colours weighted weights ≤ limit

-- of a replay, no 13, 5, 6
pub record CanReplay (first : ℕ) (t : Table) (r : Recorded) (g : Grid) : Type 0 where
  pub range : InRange first
  pub lent : Sized t (bins_of g)
  pub threes : length r.entries % 3 ≡ 0
  pub kinds : (i : ℕ) → i < entries_in r.entries → (kind_at r.entries i ≡ 0) ⊎ (kind_at r.entries i ≡ 1)
  pub reloads : (i : ℕ) → i < entries_in r.entries → kind_at r.entries i ≡ 0 → count_at r.entries i ≡ 0
  pub all_colours : length r.colours ≡ 3 * colours_before r.entries (entries_in r.entries)
  pub all_weights_lem : length r.weights ≡ colours_before r.entries (entries_in r.entries)
  pub room : entries_in r.entries ≤ length r.answers
  pub is_sound : sound limit g (view_of t) ≡ true
