-- Laws of the answer to a PPM that came in batches, by its header.
-- Assumes nothing.
use mathlib.Core.Path.{◌≡◌, refl, sym, ◌∙◌}
use Prim.Native.Nat.{ℕ, ◌*◌, ◌^◌, ◌<◌}
use borrow.Author.Tests.{eq-eqb, ne_eqb}
use Rattle.basics.specs.Answer.{refuse}
use Rattle.ppm.specs.declared.header.Frame.{Frame}
use Rattle.ppm.specs.declared.header.Header.{Header}
use Rattle.ppm.specs.declared.header.Header.TheVariants.{Image, Maximum, Malformed}
use Rattle.ppm.specs.Header.{header_answer}
use Rattle.ppm.specs.Load.{on_image}
use Rattle.ppm.proofs.Calls.{in_file, few_bytes}
use Rattle.inputs.specs.Frames.{frame_answer, Read}

-- the bytes of an image that was read can be counted
pub few : {h : Header} {f : Frame} → Read h → h ≡ Image f → 3 * (f.width * f.height) < 2 ^ 64
few r e = few_bytes (in_file r.bytes (sym r.is ∙ e))

module _ {h : Header} (bytes lowest : ℕ) where
  pub is_malformed : h ≡ Malformed → 10 ≡ frame_answer h bytes lowest
  unfolding frame_answer header_answer refuse
  is_malformed e = rw e refl

  pub is_maximum : h ≡ Maximum → 11 ≡ frame_answer h bytes lowest
  unfolding frame_answer header_answer refuse
  is_maximum e = rw e refl

  module _ {f : Frame} (e : h ≡ Image f) where
    pub is_other : (bytes ≡ 3 * (f.width * f.height) → ⊥) → 12 ≡ frame_answer h bytes lowest
    unfolding frame_answer header_answer on_image refuse
    is_other n = rw (e, ne_eqb _ _ n) refl

    pub is_whole : bytes ≡ 3 * (f.width * f.height) → lowest ≡ frame_answer h bytes lowest
    unfolding frame_answer header_answer on_image refuse
    is_whole q = rw (e, eq-eqb _ _ q) refl
