-- What a caller of map may use: how it ends, that a refusal leaves all as it was and that lengths stay, and where the
-- answer is 0 that the band has its indices, each below the palette's length.
-- Assumes nothing.
use Rattle.std.specs.Prelude.{None, Option, Some}
use mathlib.Core.Path.{◌≡◌, refl, sym, ap, ◌∙◌}
use mathlib.Core.Bool.{Bool, true, false}
use mathlib.Core.List.{List}
use Prim.Native.Nat.{ℕ, zero, suc, ◌+◌, ◌/◌, ◌≤◌, ◌<◌}
use native.Mathlib.Omega.{arith}
use borrow.Author.Tests.{eqb-true, eq-eqb}
use lib.Dec.{eqb}
use lib.ListN.{length, get_or}
use Rattle.grid.specs.declared.place.Grid.{Grid}
use Rattle.basics.specs.Answer.{when_done}
use Rattle.grid.specs.Grid.{grid_of, grid_answer, on_grid, number_on}
use Rattle.grid.proofs.Ends.{grid_refused, ends, call_refused, call_done}
use Rattle.basics.proofs.Ends.{same_length}
use Rattle.band.specs.Band.{index_at, among, write_band, all_below}
use Rattle.band.proofs.Band.{band_length, band_within, band_kept}
use Rattle.band.proofs.Below.{entry_below}
use Rattle.band.proofs.Numbers.{band_passed, band_accepted, band_not_9}
use Rattle.mapper.specs.Map.{map_number_on, map_number, map_later, CanMap}

-- ---- on an accepted grid the answer is 0 exactly where nothing refuses
module _ (g : Grid) (map : List ℕ) (palette_colours : ℕ) (frame indices : List ℕ) (first pixels : ℕ) where
  abbrev fits : Bool
  fits = eqb (length indices) (length frame / 3)

  pub can_map : map_number_on g map palette_colours frame indices first pixels ≡ 0
      → CanMap g map palette_colours frame indices first pixels
  unfolding map_number_on
  can_map e =
      let p = band_passed g map palette_colours fits (length frame) first pixels e in
      record {
        threes = p.threes;
        lent = p.lent;
        some = p.some;
        few = p.few;
        one_each = eqb-true (length indices) (length frame / 3) p.is_fit;
        inside = p.inside;
        below = p.below;
      }

  pub nothing_refuses : CanMap g map palette_colours frame indices first pixels
      → map_number_on g map palette_colours frame indices first pixels ≡ 0
  unfolding map_number_on
  nothing_refuses c =
      band_accepted g map palette_colours fits (length frame) first pixels
      (record {
        threes = c.threes;
        lent = c.lent;
        some = c.some;
        few = c.few;
        is_fit = eq-eqb _ _ c.one_each;
        inside = c.inside;
        below = c.below;
      })

-- ---- the call
module _ (b1 b2 b3 : ℕ) (map : List ℕ) (palette_colours : ℕ) (frame indices : List ℕ) (first pixels : ℕ) where
  abbrev number : ℕ
  number = map_number b1 b2 b3 map palette_colours frame indices first pixels

  abbrev later : List ℕ
  later = map_later b1 b2 b3 map palette_colours frame indices first pixels

  -- on an accepted grid: its answer, what nothing refuses, and the index buffer with the band written
  abbrev on : Grid → ℕ
  on g = map_number_on g map palette_colours frame indices first pixels

  abbrev Can : Grid → Type 0
  Can g = CanMap g map palette_colours frame indices first pixels

  abbrev written : Grid → List ℕ
  written g = write_band first pixels (index_at g map frame) indices

  -- how the call ends: which answer it gives and what it leaves
  abbrev Ends : ℕ → List ℕ → Type 0
  Ends n l = (n ≡ number) × (l ≡ later)

  pub map_no_grid : grid_of b1 b2 b3 ≡ None → Ends 1 indices
  unfolding map_number map_later
  map_no_grid e = grid_refused (grid_of b1 b2 b3) on written indices e

  pub map_ends : {g : Grid} → grid_of b1 b2 b3 ≡ Some g → {n : ℕ} → on g ≡ n
      → {l : List ℕ} → l ≡ when_done n (written g) indices → Ends n l
  unfolding map_number map_later
  map_ends e q r = ends (grid_of b1 b2 b3) on written indices e q r

  pub map_refused : {n : ℕ} → number ≡ suc n → later ≡ indices
  unfolding map_number map_later
  map_refused e = call_refused (grid_of b1 b2 b3) on written indices e

  -- what a mapping that is done tells
  pub record MapDone : Type 0 where
    pub g : Grid
    pub chosen : grid_of b1 b2 b3 ≡ Some g
    pub can : Can g
    pub writes : later ≡ written g

  pub map_says : number ≡ 0 → MapDone
  unfolding map_number map_later
  map_says e =
      let c = call_done (grid_of b1 b2 b3) on written indices e in
      record {
        g = c.g;
        chosen = c.is;
        can = can_map c.g map palette_colours frame indices first pixels c.number;
        writes = c.later;
      }

  -- and the other way round, on a grid that is known: by its answer
  pub map_done : {g : Grid} → grid_of b1 b2 b3 ≡ Some g → on g ≡ 0 → (number ≡ 0) × (later ≡ written g)
  unfolding when_done
  map_done e q = let ends = map_ends e q refl in (sym ends.0, sym ends.1)

  -- by its tests: "where none applies, the answer is 0"
  pub map_accepts : {g : Grid} → grid_of b1 b2 b3 ≡ Some g → Can g → (number ≡ 0) × (later ≡ written g)
  map_accepts e c = map_done e (nothing_refuses _ map palette_colours frame indices first pixels c)

  -- 9 is given for an entry that is not below the palette's length, and for nothing else
  pub map_not_9 : all_below palette_colours map ≡ true → number ≡ 9 → ⊥
  unfolding map_number map_number_on number_on on_grid grid_answer
  map_not_9 below =
      let one_each = eqb (length indices) (length frame / 3) in
      go (grid_of b1 b2 b3) (λ g. band_not_9 g map palette_colours one_each (length frame) first pixels below)
    where
      go : (c : Option Grid) → ((g : Grid) → on g ≡ 9 → ⊥) → number_on c on ≡ 9 → ⊥
      go (Some g) not_on e = not_on g e
      go None not_on e = omega arith

  pub map_length : length later ≡ length indices
  map_length =
      same_length number indices later (λ m e. map_refused e)
      (λ e. let d = map_says e in ap length d.writes ∙ band_length first pixels (index_at d.g map frame) indices)

  module _ (e : number ≡ 0) where
    -- "A pixel's index is the map's byte at its bin."
    pub index_is : (i : ℕ) → first ≤ i → i < first + pixels → get_or later i 0 ≡ index_at (map_says e).g map frame i
    index_is i a b =
        let d = map_says e in
        ap (λ (l : List ℕ). get_or l i 0) d.writes
        ∙ band_within first pixels (index_at d.g map frame) indices i
        (omega (arith, d.can.one_each, d.can.inside)) a b

    -- every index is below the palette's length
    pub index_below : (i : ℕ) → first ≤ i → i < first + pixels → get_or later i 0 < palette_colours
    unfolding index_at
    index_below i a b =
        let c = (map_says e).can in rw (index_is i a b) (entry_below palette_colours map c.some c.below _)

  -- "writes only that band"
  pub index_kept : (i : ℕ) → among first pixels i ≡ false → get_or later i 0 ≡ get_or indices i 0
  index_kept i out = go number refl
    where
      go : (n : ℕ) → number ≡ n → get_or later i 0 ≡ get_or indices i 0
      go zero e =
          let d = map_says e in
          ap (λ (l : List ℕ). get_or l i 0) d.writes
          ∙ band_kept first pixels (index_at d.g map frame) indices i out
      go (suc n) e = ap (λ (l : List ℕ). get_or l i 0) (map_refused e)
