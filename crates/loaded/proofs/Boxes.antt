-- What a box of a loaded table holds, by the loaded colours.
-- Assumes nothing.
use mathlib.Core.Path.{◌≡◌, refl, sym, ap, ◌∙◌}
use mathlib.Core.Logic.{inl, inr}
use mathlib.Core.Bool.{Bool, cond}
use mathlib.Core.List.Memᴰ
use mathlib.Core.List.{List, [], ◌∷◌, Memᴰ}
use Prim.Native.Nat.{ℕ, ◌+◌, ◌-◌, ◌≤◌}
use native.Mathlib.Decide.{ℕ_discrete}
use native.Mathlib.Nat.{zero-add, pos_of_ne-zero}
use native.Mathlib.Omega.{arith}
use Rattle.grid.specs.declared.place.Grid.{Grid}
use Rattle.pixels.specs.declared.colour.Rgb.{Rgb}
use Rattle.grid.specs.Size.{bin_of}
use Rattle.basics.specs.Dimension.{choose}
use Rattle.pixels.specs.Colour.{component_at}
use Rattle.grid.specs.Grid.{shift_at, place_of, colour_place}
use Rattle.basics.proofs.Range.{hit, hit_yes, hit_no}
use Rattle.grid.proofs.Places.{Bytes, colour_inside, colour_bin}
use Rattle.table.specs.Cell.{zeros}
use Rattle.adder.specs.Batch.{Weighted, share, adds, sum_over, loaded}
use Rattle.loader.specs.Load.{ColourAt}
use Rattle.adder.proofs.Loading.{AllBytes, share_weight, loaded_at, adds_at, over_none, over_more}
use Rattle.boxes.specs.declared.sides.Bounds.{Bounds}
use Rattle.boxes.specs.Box.{Within}
use Rattle.boxes.specs.Holds.{holds, holds_at}
use Rattle.bins.specs.Sum.{bin_sum, box_sum}
use Rattle.bins.proofs.Boxes.{sum3_same, sum3_plus, sum3_zero}
use Rattle.bins.proofs.Hits.{hit_box}

-- the box holds the bin of a colour
unfoldable pub holds_colour : Grid → Bounds → Rgb → Bool
holds_colour g x c = holds x (bin_of g.shift1 c.c1) (bin_of g.shift2 c.c2) (bin_of g.shift3 c.c3)

pub colour_held : {g : Grid} {x : Bounds} → Within g x → {c : Rgb} → Bytes c
    → holds_at g x (colour_place g c) ≡ holds_colour g x c
unfolding holds_at holds_colour shift_at component_at choose
colour_held {g} {x} w {c} b = let bin = colour_bin w.accepted b in λ i. holds x (bin 0 i) (bin 1 i) (bin 2 i)

-- one colour adds its share to the boxes that its bin lies in
colour_box : {g : Grid} {x : Bounds} → Within g x → (c : Weighted) → Bytes c.colour → (j : ℕ)
    → box_sum g (adds g c) x j ≡ cond (holds_colour g x c.colour) (share c j) 0
unfolding box_sum bin_sum holds_colour colour_place
colour_box {g} {x} w c b j =
    sum3_same x.r0 (x.r1 - x.r0) x.g0 (x.g1 - x.g0) x.b0 (x.b1 - x.b0)
    (λ r gr z. adds g c (place_of g r gr z) j)
    (λ r gr z. hit (colour_place g c.colour) (place_of g r gr z) (share c j))
    (λ r gr z h k l. adds_at g c (place_of g r gr z) j)
    ∙ hit_box w (colour_inside w.accepted b) (share c j) j

module _ {g : Grid} {x : Bounds} (w : Within g x) (j : ℕ) where
  -- what a colour has in the box
  in_box : Weighted → ℕ
  in_box c = cond (holds_colour g x c.colour) (share c j) 0

  over_box : (cs : List Weighted) → AllBytes cs
      → box_sum g (λ p i. sum_over cs (λ c. adds g c p i)) x j ≡ sum_over cs in_box
  unfolding box_sum bin_sum in_box
  over_box [] b =
      sum3_zero x.r0 (x.r1 - x.r0) x.g0 (x.g1 - x.g0) x.b0 (x.b1 - x.b0) _
      (λ r gr z h i k l m n. over_none (λ c. adds g c (place_of g r gr z) j))
      ∙ sym (over_none in_box)
  over_box (c ∷ cs) b =
      sum3_same x.r0 (x.r1 - x.r0) x.g0 (x.g1 - x.g0) x.b0 (x.b1 - x.b0) _ _
      (λ r gr z h i k. over_more c cs (λ d. adds g d (place_of g r gr z) j))
      ∙ sum3_plus x.r0 (x.r1 - x.r0) x.g0 (x.g1 - x.g0) x.b0 (x.b1 - x.b0)
      (λ r gr z. adds g c (place_of g r gr z) j) (λ r gr z. sum_over cs (λ d. adds g d (place_of g r gr z) j))
      ∙ (λ i. colour_box w c b.0 j i + over_box cs b.1 i)
      ∙ sym (over_more c cs in_box)

  -- a box of a loaded table: the sum over the loaded colours whose bin lies in it
  pub loaded_box : (cs : List Weighted) → AllBytes cs
      → box_sum g (loaded g cs zeros) x j ≡ sum_over cs (λ c. cond (holds_colour g x c.colour) (share c j) 0)
  unfolding box_sum bin_sum in_box
  loaded_box cs b =
      sum3_same x.r0 (x.r1 - x.r0) x.g0 (x.g1 - x.g0) x.b0 (x.b1 - x.b0) _ _
      (λ r gr z h i k. loaded_at g cs zeros (place_of g r gr z) j
      ∙ zero-add (sum_over cs (λ c. adds g c (place_of g r gr z) j)))
      ∙ over_box cs b

-- ---- the occupied bins of a loaded table
module _ (g : Grid) (p : ℕ) where
  adds_weight : (c : Weighted) → adds g c p 0 ≡ hit (colour_place g c.colour) p c.weight
  adds_weight c = adds_at g c p 0 ∙ ap (hit (colour_place g c.colour) p) (share_weight c)

  weight_at : (cs : List Weighted) → loaded g cs zeros p 0 ≡ sum_over cs (λ c. adds g c p 0)
  weight_at cs = loaded_at g cs zeros p 0 ∙ zero-add (sum_over cs (λ c. adds g c p 0))

  some_colour : (cs : List Weighted) → (sum_over cs (λ c. adds g c p 0) ≡ 0 → ⊥) → ColourAt g cs p
  some_colour [] o = absurd (o (over_none (λ c. adds g c p 0)))
  some_colour (c ∷ cs) o =
      go (ℕ_discrete (colour_place g c.colour) p) (ℕ_discrete c.weight 0) (λ n. some_colour cs n)
    where
      later : adds g c p 0 ≡ 0 → ((sum_over cs (λ d. adds g d p 0) ≡ 0 → ⊥) → ColourAt g cs p) → ColourAt g (c ∷ cs) p
      later z rest =
          let f = rest (λ e. o (over_more c cs (λ d. adds g d p 0) ∙ (λ i. z i + e i))) in
          record {
            colour = f.colour;
            among_them = Memᴰ.tail f.among_them;
            weighs = f.weighs;
            there =
                f.there;
          }

      go : Dec (colour_place g c.colour ≡ p) → Dec (c.weight ≡ 0)
          → ((sum_over cs (λ d. adds g d p 0) ≡ 0 → ⊥) → ColourAt g cs p) → ColourAt g (c ∷ cs) p
      go (no n) d rest = later (adds_weight c ∙ hit_no (colour_place g c.colour) p c.weight n) rest
      go (yes e) (yes z) rest = later (adds_weight c ∙ hit_yes (colour_place g c.colour) p c.weight e ∙ z) rest
      go (yes e) (no z) rest =
          record { colour = c; among_them = Memᴰ.head refl; weighs = pos_of_ne-zero z; there = e }

  its_weight : (cs : List Weighted) {c : Weighted} → Memᴰ c cs → colour_place g c.colour ≡ p
      → c.weight ≤ sum_over cs (λ d. adds g d p 0)
  its_weight [] m h = absurd (Memᴰ.not-nil m)
  its_weight (d ∷ cs) {c} m h =
      elim (Memᴰ.cases_cons m) [
        | inl e ↦
            (let same : c.weight ≡ adds g d p 0 =
            sym (adds_weight c ∙ hit_yes (colour_place g c.colour) p c.weight h)
            ∙ ap (λ (x : Weighted). adds g x p 0) e in omega (arith, same, over_more d cs (λ x. adds g x p 0)))
        | inr k ↦ omega (arith, its_weight cs k h, over_more d cs (λ x. adds g x p 0))
      ]

  -- a place has weight exactly where there is a loaded colour of weight above 0
  pub occupied_colour : (cs : List Weighted) → (loaded g cs zeros p 0 ≡ 0 → ⊥) → ColourAt g cs p
  occupied_colour cs o = some_colour cs (λ e. o (weight_at cs ∙ e))

  pub colour_occupies : (cs : List Weighted) → ColourAt g cs p → loaded g cs zeros p 0 ≡ 0 → ⊥
  colour_occupies cs c e = omega (arith, c.weighs, its_weight cs c.among_them c.there, weight_at cs)
