-- What a caller of paint may use: how it ends, that a refusal leaves all as it was and that lengths stay, and where the
-- answer is 0 that the band has the palette's colours at its indices.
-- Assumes nothing.
use Rattle.std.specs.Prelude.{None, Option, Some}
use mathlib.Core.Path.{◌≡◌, refl, sym, ap, ◌∙◌}
use mathlib.Core.Bool.{Bool, true, false}
use mathlib.Core.List.{List}
use Prim.Native.Nat.{ℕ, zero, suc, ◌+◌, ◌*◌, ◌/◌, ◌%◌, ◌≤◌, ◌<◌}
use native.Mathlib.Omega.{arith}
use borrow.Author.Tests.{eqb-true, eq-eqb}
use lib.Dec.{eqb}
use lib.ListN.{length, get_or}
use Rattle.grid.specs.declared.place.Grid.{Grid}
use Rattle.basics.specs.Answer.{when_done}
use Rattle.grid.specs.Grid.{grid_of, grid_answer, on_grid, number_on}
use Rattle.grid.proofs.Ends.{grid_refused, ends, call_refused, call_done}
use Rattle.basics.proofs.Ends.{same_length}
use Rattle.band.specs.Band.{index_at, among, write_band, all_below}
use Rattle.band.proofs.Band.{band_length, band_within, band_kept}
use Rattle.band.proofs.Numbers.{band_passed, band_accepted, band_not_9}
use Rattle.painter.specs.Paint.{paint_at, paint_number_on, paint_number, paint_later, CanPaint}
use Rattle.painter.proofs.Bytes.{paint_byte}

-- ---- on an accepted grid the answer is 0 exactly where nothing refuses
module _ (g : Grid) (map palette frame : List ℕ) (first pixels : ℕ) where
  abbrev fits : Bool
  fits = eqb (length palette % 3) 0

  pub can_paint : paint_number_on g map palette frame first pixels ≡ 0 → CanPaint g map palette frame first pixels
  unfolding paint_number_on
  can_paint e =
      let p = band_passed g map (length palette / 3) fits (length frame) first pixels e in
      let whole : length palette % 3 ≡ 0 = eqb-true (length palette % 3) 0 p.is_fit in
      record {
        threes = p.threes;
        lent = p.lent;
        some = omega (arith, p.some);
        few = omega (arith, p.few, whole);
        whole = whole;
        inside = p.inside;
        below = p.below;
      }

  pub nothing_refuses : CanPaint g map palette frame first pixels → paint_number_on g map palette frame first pixels ≡ 0
  unfolding paint_number_on
  nothing_refuses c =
      band_accepted g map (length palette / 3) fits (length frame) first pixels
      (record {
        threes = c.threes;
        lent = c.lent;
        some = omega (arith, c.some);
        few = omega (arith, c.few);
        is_fit = eq-eqb _ _ c.whole;
        inside = c.inside;
        below = c.below;
      })

-- ---- the call
module _ (b1 b2 b3 : ℕ) (map palette frame : List ℕ) (first pixels : ℕ) where
  abbrev number : ℕ
  number = paint_number b1 b2 b3 map palette frame first pixels

  abbrev later : List ℕ
  later = paint_later b1 b2 b3 map palette frame first pixels

  -- on an accepted grid: its answer, what nothing refuses, and the frame with the band painted
  abbrev on : Grid → ℕ
  on g = paint_number_on g map palette frame first pixels

  abbrev Can : Grid → Type 0
  Can g = CanPaint g map palette frame first pixels

  abbrev written : Grid → List ℕ
  written g = write_band (3 * first) (3 * pixels) (paint_at g map palette frame) frame

  -- how the call ends: which answer it gives and what it leaves
  abbrev Ends : ℕ → List ℕ → Type 0
  Ends n l = (n ≡ number) × (l ≡ later)

  pub paint_no_grid : grid_of b1 b2 b3 ≡ None → Ends 1 frame
  unfolding paint_number paint_later
  paint_no_grid e = grid_refused (grid_of b1 b2 b3) on written frame e

  pub paint_ends : {g : Grid} → grid_of b1 b2 b3 ≡ Some g → {n : ℕ} → on g ≡ n
      → {l : List ℕ} → l ≡ when_done n (written g) frame → Ends n l
  unfolding paint_number paint_later
  paint_ends e q r = ends (grid_of b1 b2 b3) on written frame e q r

  pub paint_refused : {n : ℕ} → number ≡ suc n → later ≡ frame
  unfolding paint_number paint_later
  paint_refused e = call_refused (grid_of b1 b2 b3) on written frame e

  -- what a painting that is done tells
  pub record PaintDone : Type 0 where
    pub g : Grid
    pub chosen : grid_of b1 b2 b3 ≡ Some g
    pub can : Can g
    pub writes : later ≡ written g

  pub paint_says : number ≡ 0 → PaintDone
  unfolding paint_number paint_later
  paint_says e =
      let c = call_done (grid_of b1 b2 b3) on written frame e in
      record {
        g = c.g;
        chosen = c.is;
        can = can_paint c.g map palette frame first pixels c.number;
        writes = c.later;
      }

  -- and the other way round: "where none applies, the answer is 0"
  pub paint_accepts : {g : Grid} → grid_of b1 b2 b3 ≡ Some g → Can g → (number ≡ 0) × (later ≡ written g)
  unfolding when_done
  paint_accepts e c =
      let ends = paint_ends e {n = 0} (nothing_refuses _ map palette frame first pixels c) refl in
      (sym ends.0, sym ends.1)

  -- 9 is given for an entry that is not below the palette's length, and for nothing else
  pub paint_not_9 : all_below (length palette / 3) map ≡ true → number ≡ 9 → ⊥
  unfolding paint_number paint_number_on number_on on_grid grid_answer
  paint_not_9 below =
      let whole = eqb (length palette % 3) 0 in
      go (grid_of b1 b2 b3) (λ g. band_not_9 g map (length palette / 3) whole (length frame) first pixels below)
    where
      go : (c : Option Grid) → ((g : Grid) → on g ≡ 9 → ⊥) → number_on c on ≡ 9 → ⊥
      go (Some g) not_on e = not_on g e
      go None not_on e = omega arith

  pub paint_length : length later ≡ length frame
  paint_length =
      same_length number frame later (λ m e. paint_refused e)
      (λ e. let d = paint_says e in
      ap length d.writes ∙ band_length (3 * first) (3 * pixels) (paint_at d.g map palette frame) frame)

  -- byte c of pixel i of the band is that byte of the palette's colour at the pixel's index
  pub paint_is : (e : number ≡ 0) (i c : ℕ) → first ≤ i → i < first + pixels → c < 3
      → get_or later (3 * i + c) 0 ≡ get_or palette (3 * index_at (paint_says e).g map frame i + c) 0
  paint_is e i c a b h =
      let d = paint_says e in
      ap (λ (l : List ℕ). get_or l (3 * i + c) 0) d.writes
      ∙ band_within (3 * first) (3 * pixels) (paint_at d.g map palette frame) frame (3 * i + c)
      (omega (arith, d.can.inside)) (omega arith) (omega arith)
      ∙ paint_byte d.g map palette frame i c h

  -- "in place for a band": the bytes of every other pixel are as they were
  pub paint_kept : (j : ℕ) → among (3 * first) (3 * pixels) j ≡ false → get_or later j 0 ≡ get_or frame j 0
  paint_kept j out = go number refl
    where
      go : (n : ℕ) → number ≡ n → get_or later j 0 ≡ get_or frame j 0
      go zero e =
          let d = paint_says e in
          ap (λ (l : List ℕ). get_or l j 0) d.writes
          ∙ band_kept (3 * first) (3 * pixels) (paint_at d.g map palette frame) frame j out
      go (suc n) e = ap (λ (l : List ℕ). get_or l j 0) (paint_refused e)
