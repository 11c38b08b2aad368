-- Loading a PPM (Rules, Frames): a file that none of 10, 11 and 12 refuses is loaded as its bare triples; the earliest
-- answer that applies is given, never 3 or 4; what is given where none applies; and a refusal writes nothing.
-- Assumes nothing.
use Rattle.std.specs.Prelude.{None, Option, Some}
use Rattle.grid.specs.declared.place.Grid.{Grid}
use mathlib.Core.Path.{◌≡◌, refl, sym, ap, ◌∙◌}
use mathlib.Core.Logic.{◌↔◌}
use mathlib.Core.Bool.{Bool, true, false, true≢false, not, ◌&&◌, ◌||◌}
use mathlib.Core.List.{List, [], ◌∷◌}
use Prim.Native.Nat.{ℕ, zero, suc, ◌+◌, ◌*◌, ◌/◌, ◌%◌}
use native.Mathlib.Omega.{arith}
use borrow.Author.Tests.{eq-eqb}
use lib.Dec.{eqb, ltb}
use lib.ListN.{length}
use Rattle.basics.specs.Answer.{refuse, when_done}
use Rattle.grid.specs.Grid.{grid_of, grid_answer, on_grid, bins_of}
use Rattle.table.specs.Table.{Table, is_sized, view_of}
use Rattle.table.specs.Sound.{limit, total, sound}
use Rattle.adder.specs.Batch.{weight_of, batch_of}
use Rattle.loader.specs.Load.{load_number, load_later}
use Rattle.adder.proofs.Parts.{batch_weight}
use Rattle.loader.proofs.Calls.{load_no_grid}
use Rattle.loader.proofs.Laws.{load_tests_lem, load_says, load_accepts}
use Rattle.ppm.specs.declared.header.Frame.{Frame}
use Rattle.ppm.specs.declared.header.Header.TheVariants.{Image}
use Rattle.ppm.specs.Header.{header_of}
use Rattle.ppm.specs.Load.{pixels_of, as_image, ppm_number, ppm_later}
use Rattle.ppm.proofs.Laws.{Whole, file_then, file_whole, image_pixels, whole_passes, ppm_loads, ppm_refused, ppm_whole}
use Rattle.promises.specs.Numbers.{Tests, applies, chain, ascends, earliest_of, no_grid, on_bins, OnGrid}
use Rattle.promises.specs.Frames.{file_tests, pixel_tests, ppm_tests, ppm_applies, CanLoadPpm}
use Rattle.promises.proofs.Earliest.{early}

-- ---- the answer that is given applies
given_applies : (xs : Tests) {n : ℕ} → chain xs ≡ suc n → applies xs (suc n) ≡ true
unfolding chain applies refuse
given_applies [] e = absurd (omega (arith, e))
given_applies (x ∷ xs) {n} e = go x.1 e (given_applies xs)
  where
    go : (b : Bool) → refuse b x.0 (chain xs) ≡ suc n → (chain xs ≡ suc n → applies xs (suc n) ≡ true)
        → ((eqb x.0 (suc n) && b) || applies xs (suc n)) ≡ true
    go true p later = rw (eq-eqb x.0 (suc n) p) refl
    go false p later = rw (later p) (any (eqb x.0 (suc n)))
      where
        any : (b : Bool) → ((b && false) || true) ≡ true
        any true = refl
        any false = refl

module _ (b1 b2 b3 : ℕ) (t : Table) (file : List ℕ) where
  -- "loaded as its bare triples are"
  pub as_triples : as_image file 0 ≡ 0
      → (ppm_number b1 b2 b3 t file ≡ load_number b1 b2 b3 t (pixels_of file) false [])
      × (ppm_later b1 b2 b3 t file ≡ load_later b1 b2 b3 t (pixels_of file) false [])
  as_triples e = ppm_loads file b1 b2 b3 t e

  whole_threes : as_image file 0 ≡ 0 → length (pixels_of file) % 3 ≡ 0
  whole_threes e = let w = file_whole file e in omega (arith, w.pixels)

  -- and they are in threes, as many as the header says
  pub in_threes : as_image file 0 ≡ 0 → (f : Frame) → header_of file ≡ Image f
      → (length (pixels_of file) % 3 ≡ 0) × (length (pixels_of file) / 3 ≡ f.width * f.height)
  in_threes e f q =
      let n = image_pixels file e q in (whole_threes e, omega (arith, n))

  -- ---- the earliest answer
  weighs : weight_of (batch_of (pixels_of file) false []) ≡ length (pixels_of file) / 3
  weighs = batch_weight (pixels_of file) false [] (λ y. absurd (true≢false (sym y)))

  load_chain : length (pixels_of file) % 3 ≡ 0
      → load_number b1 b2 b3 t (pixels_of file) false []
      ≡ chain (pixel_tests (grid_of b1 b2 b3) t (length (pixels_of file) / 3))
  unfolding pixel_tests chain no_grid on_bins on_grid grid_answer refuse
  load_chain threes = go (grid_of b1 b2 b3) refl
    where
      go : (c : Option Grid) → grid_of b1 b2 b3 ≡ c
          → load_number b1 b2 b3 t (pixels_of file) false []
          ≡ chain (pixel_tests (grid_of b1 b2 b3) t (length (pixels_of file) / 3))
      go (Some g) e =
          load_tests_lem b1 b2 b3 t (pixels_of file) false [] e
          ∙ (λ j.
          refuse (not (eq-eqb (length (pixels_of file) % 3) 0 threes j)) 3
          (refuse (not (is_sized t (bins_of g))) 5
          (refuse (not (sound limit g (view_of t))) 6 (refuse (ltb limit (total g (view_of t) + weighs j)) 7 0))))
          ∙ rw e refl
      go None e = sym (load_no_grid b1 b2 b3 t (pixels_of file) false [] e).0 ∙ rw e refl

  ppm_chain : ppm_number b1 b2 b3 t file ≡ chain (ppm_tests (grid_of b1 b2 b3) t file)
  unfolding ppm_number ppm_tests file_tests as_image chain when_done
  ppm_chain = go (as_image file 0) refl
    where
      rest : ℕ
      rest = chain (pixel_tests (grid_of b1 b2 b3) t (length (pixels_of file) / 3))

      go : (n : ℕ) → as_image file 0 ≡ n → as_image file (load_number b1 b2 b3 t (pixels_of file) false []) ≡ as_image file rest
      go zero e = ap (as_image file) (load_chain (whole_threes e))
      go (suc n) e = file_then file _ ∙ same (as_image file 0) e ∙ sym (file_then file rest)
        where
          same : (m : ℕ) → m ≡ suc n
              → when_done m (load_number b1 b2 b3 t (pixels_of file) false []) m ≡ when_done m rest m
          same m q = rw q refl

  pub ppm_earliest : ppm_number b1 b2 b3 t file ≡ earliest_of (ppm_applies b1 b2 b3 t file)
  unfolding ppm_applies ppm_tests file_tests pixel_tests ascends
  ppm_earliest =
      ppm_chain ∙ early (file_tests file) (pixel_tests (grid_of b1 b2 b3) t (length (pixels_of file) / 3)) refl refl

  -- 3 and 4 do not occur
  pub never_3 : ppm_number b1 b2 b3 t file ≡ 3 → ⊥
  unfolding ppm_tests file_tests pixel_tests applies
  never_3 e = true≢false (sym (given_applies (ppm_tests (grid_of b1 b2 b3) t file) (sym ppm_chain ∙ e)))

  pub never_4 : ppm_number b1 b2 b3 t file ≡ 4 → ⊥
  unfolding ppm_tests file_tests pixel_tests applies
  never_4 e = true≢false (sym (given_applies (ppm_tests (grid_of b1 b2 b3) t file) (sym ppm_chain ∙ e)))

  -- ---- done exactly where it is given this
  pub ppm_exactly : (ppm_number b1 b2 b3 t file ≡ 0) ↔ OnGrid b1 b2 b3 (CanLoadPpm t file)
  ppm_exactly = (
    λ e.
        let passes = ppm_whole file b1 b2 b3 t e in
        let w = file_whole file passes in
        let d = load_says b1 b2 b3 t (pixels_of file) false [] (sym (ppm_loads file b1 b2 b3 t passes).0 ∙ e) in
        record {
          g = d.g;
          chosen = d.chosen;
          can = record {
            frame = w.frame;
            reads = w.reads;
            pixels = w.pixels;
            lent = d.lent;
            is_sound = d.sound_before.holds;
            fits = omega (arith, d.under, weighs, w.pixels);
          };
        },
    λ o. let c = o.can in
        let w : Whole file = record { frame = c.frame; reads = c.reads; pixels = c.pixels } in
        (ppm_loads file b1 b2 b3 t (whole_passes file w)).0
        ∙ load_accepts b1 b2 b3 t (pixels_of file) false [] o.chosen (omega (arith, c.pixels))
        (λ y. absurd (true≢false (sym y))) c.lent c.is_sound (omega (arith, c.fits, weighs, c.pixels)),
  )

  -- ---- a refusal writes nothing
  pub refused_ppm : {n : ℕ} → ppm_number b1 b2 b3 t file ≡ suc n → ppm_later b1 b2 b3 t file ≡ t
  refused_ppm e = ppm_refused file b1 b2 b3 t e
