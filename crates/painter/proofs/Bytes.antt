-- The bytes of a painted frame, and of a painted part of it, whose first pixel is the band's.
-- Assumes nothing.
use mathlib.Core.Path.{◌≡◌, ap, ◌∙◌}
use mathlib.Core.List.{List}
use Prim.Native.Nat.{ℕ, ◌+◌, ◌*◌, ◌/◌, ◌%◌, ◌<◌}
use native.Mathlib.Omega.{arith}
use lib.ListN.{get_or, take, drop}
use Rattle.grid.specs.declared.place.Grid.{Grid}
use Rattle.band.specs.Band.{index_at}
use Rattle.band.proofs.Pixels.{part_index}
use Rattle.painter.specs.Paint.{paint_at}

-- byte c of pixel i
pub paint_byte : (g : Grid) (map palette frame : List ℕ) (i c : ℕ) → c < 3
    → paint_at g map palette frame (3 * i + c) ≡ get_or palette (3 * index_at g map frame i + c) 0
unfolding paint_at
paint_byte g map palette frame i c h = λ k. get_or palette (3 * index_at g map frame (pixel i c h k) + byte i c h k) 0
  where
    pixel : (i c : ℕ) → c < 3 → (3 * i + c) / 3 ≡ i
    pixel i c h = omega arith

    byte : (i c : ℕ) → c < 3 → (3 * i + c) % 3 ≡ c
    byte i c h = omega arith

pub part_paint : (g : Grid) (map palette frame : List ℕ) (first k j : ℕ) → 3 * (j / 3) + 2 < k
    → paint_at g map palette (take k (drop (3 * first) frame)) j ≡ paint_at g map palette frame (3 * first + j)
unfolding paint_at
part_paint g map palette frame first k j h =
    ap (λ (x : ℕ). get_or palette (3 * x + j % 3) 0) (part_index g map frame first k (j / 3) h)
    ∙ (λ t. get_or palette (3 * index_at g map frame (pixel first j t) + byte first j t) 0)
  where
    pixel : (first j : ℕ) → first + j / 3 ≡ (3 * first + j) / 3
    pixel first j = omega arith

    byte : (first j : ℕ) → j % 3 ≡ (3 * first + j) % 3
    byte first j = omega arith
