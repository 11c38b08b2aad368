-- How loading a file ends, by what its header says and by how many bytes follow it.
-- Assumes nothing.
use mathlib.Core.Path.{◌≡◌, refl, sym, ap, ◌∙◌}
use mathlib.Core.Bool.{Bool, true, false, true≢false, ◌&&◌, cond}
use mathlib.Core.List.{List, []}
use Prim.Native.Nat.{ℕ, ◌-◌, ◌*◌, ◌^◌, ◌<◌}
use native.Mathlib.Nat.{mul-le-mul}
use native.Mathlib.Omega.{arith}
use borrow.Author.Tests.{eq-eqb, ne_eqb}
use lib.Dec.{eqb}
use lib.ListN.{length, take, drop, length-drop}
use lib.Seq.{take_all}
use Rattle.basics.specs.Answer.{refuse, when_done}
use Rattle.basics.proofs.Range.{and_left, and_right}
use Rattle.table.specs.Table.{Table}
use Rattle.loader.specs.Load.{load_number, load_later}
use Rattle.ppm.specs.declared.header.Frame.{Frame}
use Rattle.ppm.specs.declared.header.Header.{Header}
use Rattle.ppm.specs.declared.header.Header.TheVariants.{Image, Maximum, Malformed}
use Rattle.ppm.specs.Header.{Field, None, Read, field_of, on_field, is_magic, starts_blank, behind_blank, is_side}
use Rattle.ppm.specs.Header.{image_of, header_of, header_answer}
use Rattle.ppm.specs.Load.{on_image, pixels_fit, pixels_of, as_image, ppm_number, ppm_later}
use Rattle.ppm.specs.Inner.{InFile, frame_number, frame_later}
use Rattle.ppm.proofs.Headers.{side_says}

-- ---- what an image is like
is_image : Header → Bool
is_image (Image f) = true
is_image Maximum = false
is_image Malformed = false

frame_or : Frame → Header → Frame
frame_or z (Image f) = f
frame_or z Maximum = z
frame_or z Malformed = z

module _ {f : Frame} where
  no_image : {h : Header} → is_image h ≡ false → h ≡ Image f → ⊥
  unfolding is_image
  no_image n e = true≢false (sym (ap is_image e) ∙ n)

  image_in_file : (bytes width height maximum : ℕ) (rest : List ℕ) → image_of bytes width height maximum rest ≡ Image f
      → InFile bytes f
  unfolding image_of is_image frame_or
  image_in_file bytes width height maximum rest =
      go (starts_blank rest && (is_side width && is_side height)) refl (eqb maximum 255)
    where
      go : (b : Bool) → (starts_blank rest && (is_side width && is_side height)) ≡ b → (c : Bool)
          → cond b
          (cond c (Image (record { width = width; height = height; pixels = bytes - behind_blank rest })) Maximum)
          Malformed
          ≡ Image f
          → InFile bytes f
      go false q c e = absurd (no_image refl e)
      go true q false e = absurd (no_image refl e)
      go true q true e =
          let same = ap (frame_or f) e in
          let sides = and_right (starts_blank rest) (is_side width && is_side height) q in
          record {
            starts = omega (arith, ap (λ (x : Frame). x.pixels) same);
            narrow =
                omega (
                  arith,
                  ap (λ (x : Frame). x.width) same,
                  (side_says width (and_left (is_side width) (is_side height) sides)).1,
                );
            low =
                omega (
                  arith,
                  ap (λ (x : Frame). x.height) same,
                  (side_says height (and_right (is_side width) (is_side height) sides)).1,
                );
          }

  on_read : (x : Field) (k : ℕ → List ℕ → Header) {A : Type 0}
      → ((value : ℕ) (rest : List ℕ) → k value rest ≡ Image f → A) → on_field x Malformed k ≡ Image f → A
  unfolding on_field is_image
  on_read None k then e = absurd (no_image refl e)
  on_read (Read value rest) k then e = then value rest e

  -- its header stands in the file
  pub in_file : (file : List ℕ) → header_of file ≡ Image f → InFile (length file) f
  unfolding header_of is_image
  in_file file = go (is_magic file)
    where
      go : (b : Bool)
          → cond b
          (on_field (field_of (drop 2 file)) Malformed (λ width one.
          on_field (field_of one) Malformed (λ height two.
          on_field (field_of two) Malformed (λ maximum rest.
          image_of (length file) width height maximum rest))))
          Malformed
          ≡ Image f
          → InFile (length file) f
      go false e = absurd (no_image refl e)
      go true e =
          on_read (field_of (drop 2 file)) _
          (λ width one. on_read (field_of one) _
          (λ height two. on_read (field_of two) _
          (λ maximum rest. image_in_file (length file) width height maximum rest)))
          e

-- all that follows it is one part
pub all_left : (file : List ℕ) (p : ℕ) → take (length file - p) (drop p file) ≡ drop p file
all_left file p = take_all (length file - p) (drop p file) (omega (arith, length-drop p file))

-- and its bytes can be counted
pub few_bytes : {bytes : ℕ} {f : Frame} → InFile bytes f → 3 * (f.width * f.height) < 2 ^ 64
few_bytes i = omega (arith, mul-le-mul {n₂ = 65535} {m₂ = 65535} i.narrow i.low)

module _ (b1 b2 b3 : ℕ) (t : Table) (file : List ℕ) where
  -- ---- by the header
  abbrev Ends : ℕ → Table → Type 0
  Ends n x = (n ≡ ppm_number b1 b2 b3 t file) × (x ≡ ppm_later b1 b2 b3 t file)

  pub malformed : header_of file ≡ Malformed → Ends 10 t
  unfolding ppm_number ppm_later as_image header_answer refuse when_done
  malformed e = (rw e refl, rw e refl)

  pub other_maximum : header_of file ≡ Maximum → Ends 11 t
  unfolding ppm_number ppm_later as_image header_answer refuse when_done
  other_maximum e = (rw e refl, rw e refl)

  pub image : {f : Frame} → header_of file ≡ Image f
      → {n : ℕ} → n ≡ frame_number b1 b2 b3 t file f → {x : Table} → x ≡ frame_later b1 b2 b3 t file f → Ends n x
  unfolding ppm_number ppm_later as_image pixels_of on_image header_answer frame_number frame_later refuse
  image e p q = (rw e p, rw e q)

  -- ---- by the number of bytes that follow it
  module _ (f : Frame) where
    abbrev FrameEnds : ℕ → Table → Type 0
    FrameEnds n x = (n ≡ frame_number b1 b2 b3 t file f) × (x ≡ frame_later b1 b2 b3 t file f)

    pub other_length : (length file - f.pixels ≡ 3 * (f.width * f.height) → ⊥) → FrameEnds 12 t
    unfolding frame_number frame_later pixels_fit refuse when_done
    other_length n = (rw (ne_eqb _ _ n) refl, rw (ne_eqb _ _ n) refl)

    pub frame_loads : length file - f.pixels ≡ 3 * (f.width * f.height)
        → {n : ℕ} → n ≡ load_number b1 b2 b3 t (drop f.pixels file) false []
        → {x : Table} → x ≡ load_later b1 b2 b3 t (drop f.pixels file) false [] → FrameEnds n x
    unfolding frame_number frame_later pixels_fit refuse when_done
    frame_loads e p q = (rw (eq-eqb _ _ e) p, rw (eq-eqb _ _ e) q)
