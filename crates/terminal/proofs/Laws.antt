-- The numbers of the table and of its planes, and the squared distance that the planes give.
-- Assumes nothing.
use mathlib.Core.Path.{◌≡◌, ap, ◌∙◌}
use mathlib.Core.List.{List}
use Prim.Native.Nat.{ℕ, ◌+◌, ◌*◌, ◌/◌, ◌%◌, ◌≤◌, ◌<◌}
use native.Mathlib.Nat.{zero-add, mul-le-mul}
use native.Mathlib.Omega.{arith}
use lib.ListN.{get_or}
use Rattle.basics.proofs.Range.{list_at}
use Rattle.pixels.specs.declared.colour.Rgb.{Rgb}
use Rattle.terminal.specs.Colours.{level_at, fixed_colour, fixed_table}
use Rattle.terminal.specs.Nearest.{square_of, apart, distance_of}
use Rattle.terminal.specs.Inner.{plane_of, Planes}

pub table_at : (k d : ℕ) → k < 240 → d < 3 → get_or fixed_table (3 * k + d) 0 ≡ level_at (16 + k) d
unfolding fixed_table
table_at k d h l =
    list_at 0 720 (λ j. level_at (16 + j / 3) (j % 3)) (3 * k + d) 0 (omega arith)
    ∙ ap (λ (j : ℕ). level_at (16 + j / 3) (j % 3)) (zero-add (3 * k + d))
    ∙ ap (λ (m : ℕ). level_at (16 + m) ((3 * k + d) % 3)) (colour k d l)
    ∙ ap (level_at (16 + k)) (component k d l)
  where
    colour : (k d : ℕ) → d < 3 → (3 * k + d) / 3 ≡ k
    colour k d l = omega arith

    component : (k d : ℕ) → d < 3 → (3 * k + d) % 3 ≡ d
    component k d l = omega arith

plane_at : (k d : ℕ) → k < 240 → get_or (plane_of d) k 0 ≡ level_at (16 + k) d
unfolding plane_of
plane_at k d h = list_at 0 240 (λ k. level_at (16 + k) d) k 0 h ∙ ap (λ (m : ℕ). level_at (16 + m) d) (zero-add k)

pub square_bound : (g : ℕ) → g ≤ 255 → g * g ≤ 65025
square_bound g h = let p : g * g ≤ 255 * 255 = mul-le-mul h h in omega arith

-- the square of one component's difference, read in its plane
in_plane : (c k d s : ℕ) (plane : List ℕ) → plane ≡ plane_of d → k < 240 → s ≡ square_of c (get_or plane k 0)
    → s ≡ square_of c (level_at (16 + k) d)
in_plane c k d s plane is h e =
    e ∙ ap (λ (l : List ℕ). square_of c (get_or l k 0)) is ∙ ap (square_of c) (plane_at k d h)

pub distance_is : (x : Rgb) (k s t u : ℕ) (reds greens blues : List ℕ) → Planes reds greens blues → k < 240
    → s ≡ square_of x.c1 (get_or reds k 0) → t ≡ square_of x.c2 (get_or greens k 0)
    → u ≡ square_of x.c3 (get_or blues k 0) → s + t + u ≡ distance_of x (16 + k)
unfolding distance_of apart fixed_colour
distance_is x k s t u reds greens blues planes h p q r =
    let a = in_plane x.c1 k 0 s reds planes.red h p in
    let b = in_plane x.c2 k 1 t greens planes.green h q in
    let c = in_plane x.c3 k 2 u blues planes.blue h r in
    λ i. a i + b i + c i
