-- The answer to a band, test by test.
-- Assumes nothing.
use mathlib.Core.Path.{◌≡◌, refl, sym}
use mathlib.Core.Bool.{Bool, true, false, not, true≢false}
use mathlib.Core.List.{List}
use Prim.Native.Nat.{ℕ, ◌+◌, ◌/◌, ◌%◌, ◌≤◌}
use native.Mathlib.Omega.{arith}
use borrow.Author.Tests.{eqb-true, eqb-false, leb-true, ltb-false, not-false, eq-eqb, le-leb, le-ltb}
use lib.Dec.{eqb, leb}
use lib.ListN.{length}
use Rattle.grid.specs.declared.place.Grid.{Grid}
use Rattle.basics.specs.Answer.{refuse}
use Rattle.grid.specs.Grid.{bins_of}
use Rattle.basics.proofs.Range.{and_left, and_right}
use Rattle.basics.proofs.Ends.{passed}
use Rattle.band.specs.Band.{all_below, band_number}

-- what a band that nothing refuses is given
pub record Passed (g : Grid) (map : List ℕ) (palette_colours : ℕ) (fits : Bool) (bytes first pixels : ℕ) : Type 0 where
  pub threes : bytes % 3 ≡ 0
  pub lent : length map ≡ bins_of g
  pub some : 1 ≤ palette_colours
  pub few : palette_colours ≤ 256
  pub is_fit : fits ≡ true
  pub inside : first + pixels ≤ bytes / 3
  pub below : all_below palette_colours map ≡ true

-- a test that gives another answer than 9, and a last one that does not refuse
past : (b : Bool) (n rest : ℕ) → refuse b n rest ≡ 9 → eqb n 9 ≡ false → rest ≡ 9
unfolding refuse
past true n rest e other = absurd (eqb-false n 9 other e)
past false n rest e other = e

no_9 : (b : Bool) → b ≡ true → refuse (not b) 9 0 ≡ 9 → ⊥
unfolding refuse
no_9 true below e = omega arith
no_9 false below e = true≢false (sym below)

module _ (g : Grid) (map : List ℕ) (palette_colours : ℕ) (fits : Bool) (bytes first pixels : ℕ) where
  pub band_passed : band_number g map palette_colours fits bytes first pixels ≡ 0
      → Passed g map palette_colours fits bytes first pixels
  unfolding band_number
  band_passed e =
      let threes = passed _ 2 _ e in
      let lent = passed _ 4 _ threes.1 in
      let few = passed _ 4 _ lent.1 in
      let own = passed _ 4 _ few.1 in
      let inside = passed _ 4 _ own.1 in
      let last = passed _ 8 0 inside.1 in
      record {
        threes = eqb-true (bytes % 3) 0 (not-false _ threes.0);
        lent = eqb-true (length map) (bins_of g) (not-false _ lent.0);
        some = leb-true 1 palette_colours
            (and_left (leb 1 palette_colours) (leb palette_colours 256) (not-false _ few.0));
        few = leb-true palette_colours 256
            (and_right (leb 1 palette_colours) (leb palette_colours 256) (not-false _ few.0));
        is_fit = not-false _ own.0;
        inside = ltb-false (bytes / 3) (first + pixels) inside.0;
        below = not-false _ last.0;
      }

  -- and the other way round: "where none applies, the answer is 0"
  pub band_accepted : Passed g map palette_colours fits bytes first pixels
      → band_number g map palette_colours fits bytes first pixels ≡ 0
  unfolding band_number refuse
  band_accepted p =
      simp (
        eq-eqb _ _ p.threes,
        eq-eqb _ _ p.lent,
        le-leb _ _ p.some,
        le-leb _ _ p.few,
        p.is_fit,
        le-ltb _ _ p.inside,
        p.below,
      )

  -- 9 is given for an entry that is not below the palette's length, and for nothing else
  pub band_not_9 : all_below palette_colours map ≡ true → band_number g map palette_colours fits bytes first pixels ≡ 9 → ⊥
  unfolding band_number
  band_not_9 below e =
      no_9 (all_below palette_colours map) below
      (past _ 5 _ (past _ 5 _ (past _ 5 _ (past _ 5 _ (past _ 3 _ e refl) refl) refl) refl) refl)
