-- Loading without weights, batch by batch: the colours of a list that is taken apart where a pixel ends, and how a load
-- into the table of some colours ends.
-- Assumes nothing.
use Rattle.std.specs.Prelude.{Some}
use mathlib.Core.Path.{◌≡◌, refl, sym, ap, ◌∙◌}
use mathlib.Core.Bool.{false, true≢false}
use mathlib.Core.List.{List, [], ◌++◌}
use Prim.Native.Nat.{ℕ, ◌+◌, ◌-◌, ◌*◌, ◌/◌, ◌%◌, ◌≤◌, ◌<◌}
use native.Mathlib.Nat.{div-add-mod', lt_of_not-le}
use native.Mathlib.Decide.{dec_le}
use native.Mathlib.Omega.{arith}
use lib.ListN.{length, get_or, length-append, get_or-append}
use lib.Seq.{get_or-append-add}
use Rattle.grid.specs.declared.place.Grid.{Grid}
use Rattle.basics.specs.Range.{list_from}
use Rattle.grid.specs.Grid.{grid_of, Accepted}
use Rattle.pixels.specs.Colour.{colour_at}
use Rattle.basics.proofs.Range.{length_list, list_at, list_is}
use Rattle.grid.proofs.Places.{chose}
use Rattle.table.specs.Layouts.{Layout}
use Rattle.table.specs.Layouts.{Wide}
use Rattle.table.specs.Sound.{limit, limit_of}
use Rattle.adder.specs.Batch.{Weighted, weight_of, weighted_at, batch_of}
use Rattle.table.specs.Sound.{passed_number}
use Rattle.loader.specs.Load.{load_number_in, load_later_in, load_number, load_later, table_in, table_of}
use Rattle.adder.proofs.Loading.{AllBytes}
use Rattle.adder.proofs.Parts.{batch_weight}
use Rattle.loader.proofs.Calls.{load_not_threes, load_over, load_done_in}
use Rattle.loader.proofs.Order.{table_holds_in, table_total_in, table_sound_in, load_table_in}

-- ---- colours
pub batch_none : (weights : List ℕ) → batch_of [] false weights ≡ []
unfolding batch_of list_from
batch_none weights = refl

module _ (xs ys weights : List ℕ) (whole : length xs % 3 ≡ 0) where
  abbrev here : ℕ
  here = length xs / 3

  three : 3 * here ≡ length xs
  three = omega (arith, div-add-mod' (length xs) 3)

  abbrev at : ℕ → Weighted
  at k = weighted_at (xs ++ ys) false weights k

  at_first_lem : (k : ℕ) → k < here → weighted_at xs false weights k ≡ at k
  unfolding weighted_at colour_at
  at_first_lem k h =
      λ i. record {
        colour =
            record {
              c1 = byte (3 * k) (omega (arith, three)) i;
              c2 = byte (3 * k + 1) (omega (arith, three)) i;
              c3 =
                  byte (3 * k + 2) (omega (arith, three)) i;
            };
        weight = 1;
      }
    where
      byte : (n : ℕ) → n < length xs → get_or xs n 0 ≡ get_or (xs ++ ys) n 0
      byte n l = sym (get_or-append xs ys 0 n l)

  at_later : (k : ℕ) → weighted_at ys false weights k ≡ at (here + k)
  unfolding weighted_at colour_at
  at_later k =
      λ i. record {
        colour =
            record {
              c1 = byte (3 * (here + k)) (3 * k) (omega (arith, three)) i;
              c2 =
                  byte (3 * (here + k) + 1) (3 * k + 1) (omega (arith, three)) i;
              c3 =
                  byte (3 * (here + k) + 2) (3 * k + 2) (omega (arith, three)) i;
            };
        weight = 1;
      }
    where
      byte : (n m : ℕ) → n ≡ length xs + m → get_or ys m 0 ≡ get_or (xs ++ ys) n 0
      byte n m e = sym (get_or-append-add xs ys m 0) ∙ ap (λ (k : ℕ). get_or (xs ++ ys) k 0) (sym e)

  abbrev first : List Weighted
  first = batch_of xs false weights

  abbrev later : List Weighted
  later = batch_of ys false weights

  size_first : length first ≡ here
  unfolding batch_of
  size_first = length_list 0 here _

  size_later : length later ≡ length ys / 3
  unfolding batch_of
  size_later = length_list 0 (length ys / 3) _

  item : (k : ℕ) → k < here + length ys / 3 → get_or (first ++ later) k (at 0) ≡ at k
  unfolding batch_of
  item k h = go (dec_le here k)
    where
      go : Dec (here ≤ k) → get_or (first ++ later) k (at 0) ≡ at k
      go (yes l) =
          let behind : length first + (k - here) ≡ k = omega (arith, size_first) in
          let there : here + (k - here) ≡ k = omega arith in
          ap (λ (n : ℕ). get_or (first ++ later) n (at 0)) (sym behind)
          ∙ get_or-append-add first later (k - here) (at 0)
          ∙ list_at 0 (length ys / 3) (weighted_at ys false weights) (k - here) (at 0) (omega arith)
          ∙ ap (weighted_at ys false weights) (omega arith)
          ∙ at_later (k - here)
          ∙ ap at there
      go (no l) =
          let below : k < here = lt_of_not-le l in
          get_or-append first later (at 0) k (omega (arith, size_first))
          ∙ list_at 0 here (weighted_at xs false weights) k (at 0) below
          ∙ ap (weighted_at xs false weights) (omega arith)
          ∙ at_first_lem k below

  pub batch_append : batch_of (xs ++ ys) false weights ≡ batch_of xs false weights ++ batch_of ys false weights
  unfolding batch_of
  batch_append =
      ap (λ (n : ℕ). list_from 0 n at) pixels
      ∙ sym (list_is (here + length ys / 3) at (first ++ later) (at 0)
      (length-append first later ∙ (λ i. size_first i + size_later i)) item)
    where
      pixels : length (xs ++ ys) / 3 ≡ here + length ys / 3
      pixels = omega (arith, length-append xs ys, three)

-- ---- a load into the table of some colours
module _ (l : Layout) (b1 b2 b3 : ℕ) {g : Grid} (e : grid_of b1 b2 b3 ≡ Some g) (cs : List Weighted)
    (y : AllBytes cs) (few : weight_of cs ≤ limit_of l) (bytes weights : List ℕ) where
  -- its answer, and the colours of the table that it leaves
  abbrev Loads : ℕ → List Weighted → Type 0
  Loads n ds =
      (load_number_in l b1 b2 b3 (table_in l g cs) bytes false weights ≡ n)
      × (load_later_in l b1 b2 b3 (table_in l g cs) bytes false weights ≡ table_in l g ds)

  a : Accepted g
  a = (chose b1 b2 b3 g e).accepted

  weighs : weight_of (batch_of bytes false weights) ≡ length bytes / 3
  weighs = batch_weight bytes false weights (λ t. absurd (true≢false (sym t)))

  pub load_stray_in : (length bytes % 3 ≡ 0 → ⊥) → Loads 3 cs
  load_stray_in n =
      let q = load_not_threes l b1 b2 b3 (table_in l g cs) bytes false weights e n in (sym q.0, sym q.1)

  module _ (whole : length bytes % 3 ≡ 0) where
    pub load_fits_in : weight_of cs + length bytes / 3 ≤ limit_of l → Loads 0 (cs ++ batch_of bytes false weights)
    load_fits_in h =
        let q = load_done_in l b1 b2 b3 (table_in l g cs) bytes false weights e whole refl (table_holds_in l g cs).lent
        (table_sound_in l g a cs y few) (omega (arith, table_total_in l g a cs y, weighs))
        (sym (load_table_in l g cs (batch_of bytes false weights))) in
        (sym q.0, sym q.1)

    pub load_passes_in : limit_of l < weight_of cs + length bytes / 3 → Loads (passed_number l) cs
    load_passes_in h =
        let q = load_over l b1 b2 b3 (table_in l g cs) bytes false weights e whole refl (table_holds_in l g cs).lent
        (table_sound_in l g a cs y few) (omega (arith, table_total_in l g a cs y, weighs)) in
        (sym q.0, sym q.1)

-- in the wide layout
module _ (b1 b2 b3 : ℕ) {g : Grid} (e : grid_of b1 b2 b3 ≡ Some g) (cs : List Weighted) (y : AllBytes cs)
    (few : weight_of cs ≤ limit) (bytes weights : List ℕ) where
  abbrev WideLoads : ℕ → List Weighted → Type 0
  WideLoads n ds =
      (load_number b1 b2 b3 (table_of g cs) bytes false weights ≡ n)
      × (load_later b1 b2 b3 (table_of g cs) bytes false weights ≡ table_of g ds)

  pub load_stray : (length bytes % 3 ≡ 0 → ⊥) → WideLoads 3 cs
  load_stray = load_stray_in Wide b1 b2 b3 e cs y few bytes weights

  pub load_fits : length bytes % 3 ≡ 0 → weight_of cs + length bytes / 3 ≤ limit
      → WideLoads 0 (cs ++ batch_of bytes false weights)
  load_fits = load_fits_in Wide b1 b2 b3 e cs y few bytes weights

  pub load_passes : length bytes % 3 ≡ 0 → limit < weight_of cs + length bytes / 3 → WideLoads 7 cs
  load_passes = load_passes_in Wide b1 b2 b3 e cs y few bytes weights
