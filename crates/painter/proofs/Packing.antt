-- Colours packed to one number each, and a palette of them: painted from it is painted from the palette.
-- Assumes nothing.
use mathlib.Core.Path.{◌≡◌, refl, sym, ap, ◌∙◌}
use mathlib.Core.List.{List}
use Prim.Native.Nat.{ℕ, zero, suc, ◌+◌, ◌*◌, ◌/◌, ◌%◌, ◌<◌}
use native.Mathlib.Nat.{add-zero}
use native.Mathlib.Omega.{arith}
use native.Mathlib.Decide.{ℕ_discrete}
use lib.ListN.{length, get_or, set}
use lib.Seq.{get_or-set_same, get_or-set_other}
use Rattle.grid.specs.declared.place.Grid.{Grid}
use Rattle.pixels.specs.declared.colour.Rgb.{Rgb}
use Rattle.basics.specs.Dimension.{choose}
use Rattle.pixels.specs.Colour.{component_at, colour_at}
use Rattle.grid.specs.Grid.{colour_place}
use Rattle.band.specs.Band.{index_at}
use Rattle.band.proofs.Below.{entry_below}
use Rattle.painter.specs.Paint.{paint_at}
use Rattle.painter.specs.Inner.{unpacked, fill_at, packed_at, PackedPalette, PaletteFits}

pub pack_unpacked : (x : Rgb) → x.c1 < 256 → x.c2 < 256 → x.c3 < 256
    → (d : ℕ) → unpacked (x.c1 + 256 * x.c2 + 65536 * x.c3) d ≡ component_at x d
unfolding unpacked component_at
pack_unpacked x a b c d =
    λ t.
    choose d (low x.c1 x.c2 x.c3 a b c t) (middle x.c1 x.c2 x.c3 a b c t)
    (high x.c1 x.c2 x.c3 a b c t)
  where
    low : (p q r : ℕ) → p < 256 → q < 256 → r < 256 → (p + 256 * q + 65536 * r) % 256 ≡ p
    low p q r a b c = omega arith

    middle : (p q r : ℕ) → p < 256 → q < 256 → r < 256 → (p + 256 * q + 65536 * r) / 256 % 256 ≡ q
    middle p q r a b c = omega arith

    high : (p q r : ℕ) → p < 256 → q < 256 → r < 256 → (p + 256 * q + 65536 * r) / 65536 % 256 ≡ r
    high p q r a b c = omega arith

-- the first n colours of a palette are packed, as a loop has it
abbrev pub PackedTo : List ℕ → List ℕ → ℕ → Type 0
PackedTo palette out n = (k : ℕ) → k < n → (d : ℕ) → unpacked (get_or out k 0) d ≡ component_at (colour_at palette k) d

pub packed_more : (palette out : List ℕ) (n v : ℕ) → n < length out
    → ((d : ℕ) → unpacked v d ≡ component_at (colour_at palette n) d)
    → PackedTo palette out n → PackedTo palette (set out n v) (n + 1)
packed_more palette out n v h new old k b d = go (ℕ_discrete k n)
  where
    go : Dec (k ≡ n) → unpacked (get_or (set out n v) k 0) d ≡ component_at (colour_at palette k) d
    go (yes e) = rw e (ap (λ (x : ℕ). unpacked x d) (get_or-set_same out n v 0 h) ∙ new d)
    go (no e) = ap (λ (x : ℕ). unpacked x d) (get_or-set_other out n k v 0 e) ∙ old k (omega arith) d

-- component d of colour i is its byte d
colour_byte : (bytes : List ℕ) (i d : ℕ) → d < 3 → component_at (colour_at bytes i) d ≡ get_or bytes (3 * i + d) 0
unfolding component_at colour_at choose
colour_byte bytes i zero h = ap (λ (j : ℕ). get_or bytes j 0) (sym (add-zero (3 * i)))
colour_byte bytes i (suc zero) h = refl
colour_byte bytes i (suc (suc zero)) h = refl
colour_byte bytes i (suc (suc (suc d))) h = absurd (omega arith)

-- painted from the packed palette is painted from the palette
pub packed_is : (g : Grid) (map palette packed frame : List ℕ) → PaletteFits g map palette
    → PackedPalette palette packed → (j : ℕ) → packed_at g map packed frame j ≡ paint_at g map palette frame j
unfolding packed_at fill_at paint_at index_at
packed_is g map palette packed frame fits all j =
    all.each (index_at g map frame (j / 3))
    (entry_below (length palette / 3) map (omega (arith, fits.some)) fits.below
    (colour_place g (colour_at frame (j / 3)))) (j % 3)
    ∙ colour_byte palette (index_at g map frame (j / 3)) (j % 3) (omega arith)
