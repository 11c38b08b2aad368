-- The pixels of a part of a frame: their colours and indices are those of the frame, counted from the part's first
-- pixel.
-- Assumes nothing.
use mathlib.Core.Path.{◌≡◌, ap, ◌∙◌}
use mathlib.Core.Bool.{true}
use mathlib.Core.List.{List}
use Prim.Native.Nat.{ℕ, ◌+◌, ◌-◌, ◌*◌, ◌≤◌, ◌<◌}
use native.Mathlib.Omega.{arith}
use lib.ListN.{get_or, take, drop}
use Rattle.grid.specs.declared.place.Grid.{Grid}
use Rattle.pixels.specs.declared.colour.Rgb.{Rgb}
use Rattle.pixels.specs.Colour.{colour_at}
use Rattle.grid.specs.Grid.{colour_place}
use Rattle.pixels.specs.Equal.{equal_colours}
use Rattle.pixels.proofs.EqualColours.{one_colour}
use Rattle.band.specs.Band.{index_at}
use Rattle.band.proofs.Band.{part_at}

byte_from : (first k i j : ℕ) (frame : List ℕ) → 3 * i + j < k
    → get_or (take k (drop (3 * first) frame)) (3 * i + j) 0 ≡ get_or frame (3 * (first + i) + j) 0
byte_from first k i j frame h =
    part_at (3 * first) k frame (3 * i + j) h ∙ ap (λ (n : ℕ). get_or frame n 0) (there first i j)
  where
    there : (first i j : ℕ) → 3 * first + (3 * i + j) ≡ 3 * (first + i) + j
    there first i j = omega arith

byte_first : (first k i : ℕ) (frame : List ℕ) → 3 * i < k
    → get_or (take k (drop (3 * first) frame)) (3 * i) 0 ≡ get_or frame (3 * (first + i)) 0
byte_first first k i frame h = part_at (3 * first) k frame (3 * i) h ∙ ap (λ (n : ℕ). get_or frame n 0) (there first i)
  where
    there : (first i : ℕ) → 3 * first + 3 * i ≡ 3 * (first + i)
    there first i = omega arith

pub part_colour : (first k i : ℕ) (frame : List ℕ) → 3 * i + 2 < k
    → colour_at (take k (drop (3 * first) frame)) i ≡ colour_at frame (first + i)
unfolding colour_at
part_colour first k i frame h =
    let one = byte_first first k i frame (omega arith) in
    let two = byte_from first k i 1 frame (omega arith) in
    let three = byte_from first k i 2 frame h in
    cc

pub part_index : (g : Grid) (map frame : List ℕ) (first k i : ℕ) → 3 * i + 2 < k
    → index_at g map (take k (drop (3 * first) frame)) i ≡ index_at g map frame (first + i)
unfolding index_at
part_index g map frame first k i h = ap (λ (x : Rgb). get_or map (colour_place g x) 0) (part_colour first k i frame h)

-- a pixel of another's colour has its index
pub same_index : (g : Grid) (map part : List ℕ) (i k : ℕ) → colour_at part k ≡ colour_at part i
    → index_at g map part k ≡ index_at g map part i
unfolding index_at
same_index g map part i k alike = ap (λ (x : Rgb). get_or map (colour_place g x) 0) alike

-- the 64 pixels of a run of one colour
pub run_colour : (part : List ℕ) (from : ℕ) → equal_colours part from ≡ true → (i : ℕ) → from ≤ i → i < from + 64
    → colour_at part i ≡ colour_at part from
run_colour part from one i a b = ap (colour_at part) (along from i a) ∙ one_colour part from one (i - from) (omega arith)
  where
    along : (from i : ℕ) → from ≤ i → i ≡ from + (i - from)
    along from i h = omega arith
