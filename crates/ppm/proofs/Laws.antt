-- What stands above is told of loading a file: the answers 10, 11 and 12 by themselves, the image that is there where
-- none of them is given, and that a refusal leaves the table.
-- Assumes nothing.
use mathlib.Core.Path.{◌≡◌, refl, sym, ◌∙◌}
use mathlib.Core.Bool.{Bool, true, false, not}
use mathlib.Core.List.{List, []}
use Prim.Native.Nat.{ℕ, zero, suc, ◌-◌, ◌*◌}
use native.Mathlib.Omega.{arith}
use borrow.Author.Tests.{eqb-true, eq-eqb, not-false}
use lib.Dec.{eqb}
use lib.ListN.{length, length-drop}
use Rattle.basics.specs.Answer.{refuse, when_done}
use Rattle.basics.proofs.Ends.{passed}
use Rattle.table.specs.Table.{Table}
use Rattle.loader.specs.Load.{load_number, load_later}
use Rattle.loader.proofs.Laws.{load_refused}
use Rattle.ppm.specs.declared.header.Frame.{Frame}
use Rattle.ppm.specs.declared.header.Header.{Header}
use Rattle.ppm.specs.declared.header.Header.TheVariants.{Image, Maximum, Malformed}
use Rattle.ppm.specs.Header.{header_of, header_answer}
use Rattle.ppm.specs.Load.{on_image, pixels_fit, pixels_of, as_image, ppm_number, ppm_later}

-- the image of a file, with as many pixels as its header says
pub record Whole (file : List ℕ) : Type 0 where
  pub frame : Frame
  pub reads : header_of file ≡ Image frame
  pub pixels : length (pixels_of file) ≡ 3 * (frame.width * frame.height)

module _ (file : List ℕ) where
  -- where one of 10, 11 and 12 is given, what comes after it does not matter
  pub file_then : (rest : ℕ) → as_image file rest ≡ when_done (as_image file 0) rest (as_image file 0)
  unfolding as_image refuse when_done
  file_then rest =
      go (eqb (header_answer (header_of file)).number 10) (eqb (header_answer (header_of file)).number 11)
      (on_image (header_of file) false (λ f. not (pixels_fit (length file) f)))
    where
      go : (a b c : Bool)
          → refuse a 10 (refuse b 11 (refuse c 12 rest))
          ≡ when_done (refuse a 10 (refuse b 11 (refuse c 12 0))) rest (refuse a 10 (refuse b 11 (refuse c 12 0)))
      go true b c = refl
      go false true c = refl
      go false false true = refl
      go false false false = refl

  pixels_left : {f : Frame} → header_of file ≡ Image f → length (pixels_of file) ≡ length file - f.pixels
  unfolding pixels_of on_image
  pixels_left {f} e = rw e (length-drop f.pixels file)

  -- where none of them is given, there is an image
  pub file_whole : as_image file 0 ≡ 0 → Whole file
  unfolding as_image on_image header_answer pixels_fit refuse
  file_whole = go (header_of file) refl
    where
      go : (h : Header) → header_of file ≡ h
          → refuse (eqb (header_answer h).number 10) 10
          (refuse (eqb (header_answer h).number 11) 11
          (refuse (on_image h false (λ f. not (pixels_fit (length file) f))) 12 0))
          ≡ 0
          → Whole file
      go (Image f) e p =
          record {
            frame = f;
            reads = e;
            pixels = pixels_left e
                ∙ eqb-true (length file - f.pixels) (3 * (f.width * f.height))
                (not-false (eqb (length file - f.pixels) (3 * (f.width * f.height))) (passed _ 11 0 p).0);
          }
      go Maximum e p = absurd (omega arith)
      go Malformed e p = absurd (omega arith)

  pub image_pixels : as_image file 0 ≡ 0 → {f : Frame} → header_of file ≡ Image f
      → length (pixels_of file) ≡ 3 * (f.width * f.height)
  unfolding as_image on_image header_answer pixels_fit refuse
  image_pixels p {f} e =
      pixels_left e
      ∙ eqb-true (length file - f.pixels) (3 * (f.width * f.height))
      (not-false (eqb (length file - f.pixels) (3 * (f.width * f.height))) (passed _ 11 0 (rw e at p)).0)

  pub whole_passes : Whole file → as_image file 0 ≡ 0
  unfolding as_image on_image header_answer pixels_fit refuse
  whole_passes w =
      rw (w.reads, eq-eqb _ _ (sym (pixels_left w.reads) ∙ w.pixels)) refl

  module _ (b1 b2 b3 : ℕ) (t : Table) where
    -- the load of the pixels
    abbrev load : ℕ
    load = load_number b1 b2 b3 t (pixels_of file) false []

    pub ppm_loads : as_image file 0 ≡ 0
        → (ppm_number b1 b2 b3 t file ≡ load) × (ppm_later b1 b2 b3 t file ≡ load_later b1 b2 b3 t (pixels_of file) false [])
    unfolding ppm_number ppm_later when_done
    ppm_loads e = (file_then load ∙ rw e refl, rw e refl)

    -- a refusal leaves the table
    pub ppm_refused : {n : ℕ} → ppm_number b1 b2 b3 t file ≡ suc n → ppm_later b1 b2 b3 t file ≡ t
    unfolding ppm_later when_done
    ppm_refused {n} e = go (as_image file 0) refl
      where
        go : (m : ℕ) → as_image file 0 ≡ m → when_done m (load_later b1 b2 b3 t (pixels_of file) false []) t ≡ t
        go zero q = load_refused b1 b2 b3 t (pixels_of file) false [] (sym (ppm_loads q).0 ∙ e)
        go (suc m) q = refl

    -- done, none of 10, 11 and 12 was given
    pub ppm_whole : ppm_number b1 b2 b3 t file ≡ 0 → as_image file 0 ≡ 0
    unfolding ppm_number when_done
    ppm_whole e = go (as_image file 0) refl (sym (file_then load) ∙ e)
      where
        go : (m : ℕ) → as_image file 0 ≡ m → when_done m load m ≡ 0 → as_image file 0 ≡ 0
        go zero q p = q
        go (suc m) q p = absurd (omega (arith, p))
