-- Loading a PPM (Rules, Frames; Rules, Answers). Definitions only.
use Rattle.std.specs.Prelude.{Bool, false, not, List, [], ℕ, ◌-◌, ◌*◌, eqb, length, drop}
use Rattle.basics.specs.Answer.{refuse, when_done}
use Rattle.table.specs.Table.{Table}
use Rattle.loader.specs.Load.{load_number, load_later}
use Rattle.ppm.specs.declared.header.Frame.{Frame}
use Rattle.ppm.specs.declared.header.Header.{Header}
use Rattle.ppm.specs.declared.header.Header.TheVariants.{Image, Maximum, Malformed}
use Rattle.ppm.specs.Header.{header_of, header_answer}

-- what comes of an image, and of a header that tells none
unfoldable pub on_image : {A : Type 0} → Header → A → (Frame → A) → A
on_image (Image f) none image = image f
on_image Maximum none image = none
on_image Malformed none image = none

-- "width times height times three" is the number of bytes from the first pixel on
unfoldable pub pixels_fit : ℕ → Frame → Bool
pixels_fit bytes f = eqb (bytes - f.pixels) (3 * (f.width * f.height))

-- the pixels of a file: all that follows its header
unfoldable pub pixels_of : List ℕ → List ℕ
pixels_of file = on_image (header_of file) [] (λ f. drop f.pixels file)

-- 10, 11 or 12 where it applies, else what comes after it: "10 to 14 come before 1, in that order"
unfoldable pub as_image : List ℕ → ℕ → ℕ
as_image file rest =
    let n = (header_answer (header_of file)).number in
    refuse (eqb n 10) 10
    (refuse (eqb n 11) 11
    (refuse (on_image (header_of file) false (λ f. not (pixels_fit (length file) f))) 12 rest))

-- the answer to loading a file, and the table after it: "as its bare triples"
unfoldable pub ppm_number : ℕ → ℕ → ℕ → Table → List ℕ → ℕ
ppm_number b1 b2 b3 t file = as_image file (load_number b1 b2 b3 t (pixels_of file) false [])

unfoldable pub ppm_later : ℕ → ℕ → ℕ → Table → List ℕ → Table
ppm_later b1 b2 b3 t file = when_done (as_image file 0) (load_later b1 b2 b3 t (pixels_of file) false []) t
