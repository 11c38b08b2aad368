-- When each answer applies to loading a PPM, and what such a load is given that nothing refuses (Rules, Frames; Rules,
-- Answers). Definitions only.
use Rattle.std.specs.Prelude.{Option}
use Rattle.std.specs.Prelude.{◌≡◌, Bool, true, false, not, List, [], ◌∷◌, ◌++◌, ℕ, ◌+◌, ◌*◌, ◌/◌, ◌≤◌, eqb, ltb, length}
use Rattle.grid.specs.declared.place.Grid.{Grid}
use Rattle.grid.specs.Grid.{grid_of, bins_of}
use Rattle.table.specs.Table.{Table, Sized, is_sized, view_of}
use Rattle.table.specs.Sound.{limit, total, sound}
use Rattle.ppm.specs.declared.header.Frame.{Frame}
use Rattle.ppm.specs.declared.header.Header.TheVariants.{Image}
use Rattle.ppm.specs.Header.{header_of, header_answer}
use Rattle.ppm.specs.Load.{on_image, pixels_fit, pixels_of}
use Rattle.promises.specs.Numbers.{Tests, applies, no_grid, on_bins}

-- 10, 11 and 12, which are asked of the file alone
unfoldable pub file_tests : List ℕ → Tests
file_tests file =
    (10, eqb (header_answer (header_of file)).number 10)
    ∷ (11, eqb (header_answer (header_of file)).number 11)
    ∷ (12, on_image (header_of file) false (λ f. not (pixels_fit (length file) f)))
    ∷ []

-- "load of a PPM 10, 11, 12, 1, 5, 6, 7": there is no 3 and no 4, and each pixel weighs 1
unfoldable pub pixel_tests : Option Grid → Table → ℕ → Tests
pixel_tests c t pixels =
    (1, no_grid c)
    ∷ (5, on_bins c (λ g. not (is_sized t (bins_of g))))
    ∷ (6, on_bins c (λ g. not (sound limit g (view_of t))))
    ∷ (7, on_bins c (λ g. ltb limit (total g (view_of t) + pixels)))
    ∷ []

unfoldable pub ppm_tests : Option Grid → Table → List ℕ → Tests
ppm_tests c t file = file_tests file ++ pixel_tests c t (length (pixels_of file) / 3)

unfoldable pub ppm_applies : ℕ → ℕ → ℕ → Table → List ℕ → ℕ → Bool
ppm_applies b1 b2 b3 t file = applies (ppm_tests (grid_of b1 b2 b3) t file)

-- what a load of a PPM is given that nothing refuses: no 10, 11, 12, 5, 6, 7
pub record CanLoadPpm (t : Table) (file : List ℕ) (g : Grid) : Type 0 where
  pub frame : Frame
  pub reads : header_of file ≡ Image frame
  pub pixels : length (pixels_of file) ≡ 3 * (frame.width * frame.height)
  pub lent : Sized t (bins_of g)
  pub is_sound : sound limit g (view_of t) ≡ true
  pub fits : total g (view_of t) + frame.width * frame.height ≤ limit
