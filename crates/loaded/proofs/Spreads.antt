-- A table loaded from colours: where two bins of a box are occupied, two of its colours differ, so the computed spread
-- is above 0.
-- Assumes nothing.
use mathlib.Core.Path.{◌≡◌, refl, sym, ap, ap₂, subst, ◌∙◌}
use mathlib.Core.Logic.{inl, inr}
use mathlib.Core.Bool.{Bool, true, false, cond, ◌&&◌}
use mathlib.Core.List.Memᴰ
use mathlib.Core.List.{List, [], ◌∷◌, Memᴰ}
use Prim.Native.Nat.{ℕ, ◌+◌, ◌-◌, ◌*◌, ◌≤◌, ◌<◌}
use native.Mathlib.Nat.{zero-add, zero-mul, mul-one, pos_of_ne-zero}
use native.Mathlib.Omega.{arith}
use borrow.Author.Tests.{eqb-true, ltb-true, ltb-false, lt-ltb}
use lib.Dec.{eqb, ltb, lit<}
use Rattle.grid.specs.declared.place.Grid.{Grid}
use Rattle.grid.specs.Size.{bin_of}
use Rattle.grid.specs.Grid.{Accepted, bins_of, place_of, colour_place}
use Rattle.basics.specs.Dimension.{choose}
use Rattle.pixels.specs.Colour.{component_at}
use Rattle.basics.proofs.Range.{and_left, and_right}
use Rattle.grid.proofs.Places.{Bytes, colour_inside, place_lt, place_once}
use Rattle.table.specs.Cell.{View}
use Rattle.table.specs.Table.{view_of}
use Rattle.table.specs.Sound.{limit}
use Rattle.table.specs.Cell.{zeros}
use Rattle.adder.specs.Batch.{Weighted, share, sum_over, weight_of, loaded}
use Rattle.loader.specs.Load.{table_of, ColourAt}
use Rattle.adder.proofs.Loading.{AllBytes, share_weight, share_sum, share_squares, load_sound, over_none, over_more}
use Rattle.loader.proofs.Order.{table_holds}
use Rattle.table.proofs.Soundness.{zeros_total, zeros_sound}
use Rattle.boxes.specs.declared.sides.Bounds.{Bounds}
use Rattle.bins.specs.Sum.{box_sum}
use Rattle.boxes.specs.Box.{Within}
use Rattle.boxes.proofs.Within.{InBox, bin_inside}
use Rattle.boxes.proofs.Held.{holds_in, in_holds}
use Rattle.bins.proofs.Laws.{bins_empty}
use Rattle.loaded.proofs.Boxes.{holds_colour, loaded_box, occupied_colour}
use Rattle.sums.proofs.Same.{stats_same}
use Rattle.spread.specs.Spread.{exact_q, SpreadsAbove}
use Rattle.boxes.specs.Box.{one_bin}
use Rattle.spread.proofs.Above.{box_above}
use Rattle.loaded.proofs.Points.{Point, total, sum_by, sum1, sum2, sum3, squares, Positive, Alike, two_colours}
use Rattle.loaded.proofs.Points.{colours_half}

-- ---- more than one bin
one_run : (i n p q : ℕ) → n - i ≡ 1 → (i ≤ p) × (p < n) → (i ≤ q) × (q < n) → p ≡ q
one_run i n p q e h k = omega (arith, h.0, h.1, k.0, k.1)

-- two bins of a box at two places
pub not_one : (g : Grid) {x : Bounds} {r gr b r' gr' b' : ℕ} → InBox x r gr b → InBox x r' gr' b'
    → (place_of g r gr b ≡ place_of g r' gr' b' → ⊥) → one_bin x ≡ false
unfolding one_bin
not_one g {x} {r} {gr} {b} {r'} {gr'} {b'} i k n = go (one_bin x) refl
  where
    go : (t : Bool) → one_bin x ≡ t → one_bin x ≡ false
    go false e = e
    go true e =
        let first = and_left (eqb (x.r1 - x.r0) 1) (eqb (x.g1 - x.g0) 1 && eqb (x.b1 - x.b0) 1) e in
        let rest = and_right (eqb (x.r1 - x.r0) 1) (eqb (x.g1 - x.g0) 1 && eqb (x.b1 - x.b0) 1) e in
        let second = and_left (eqb (x.g1 - x.g0) 1) (eqb (x.b1 - x.b0) 1) rest in
        let third = and_right (eqb (x.g1 - x.g0) 1) (eqb (x.b1 - x.b0) 1) rest in
        let one = one_run x.r0 x.r1 r r' (eqb-true (x.r1 - x.r0) 1 first) i.one k.one in
        let two = one_run x.g0 x.g1 gr gr' (eqb-true (x.g1 - x.g0) 1 second) i.two k.two in
        let three = one_run x.b0 x.b1 b b' (eqb-true (x.b1 - x.b0) 1 third) i.three k.three in
        absurd (n (λ j. place_of g (one j) (two j) (three j)))

-- ---- the points of a box: the loaded colours of some weight whose bin lies in it
abbrev point_of : Weighted → Point
point_of c = record { weight = c.weight; one = c.colour.c1; two = c.colour.c2; three = c.colour.c3 }

module _ (g : Grid) (x : Bounds) where
  abbrev is_point : Weighted → Bool
  is_point c = holds_colour g x c.colour && ltb 0 c.weight

  abbrev add : Weighted → List Point → List Point
  add c l = cond (is_point c) (point_of c ∷ l) l

  unfoldable points : List Weighted → List Point
  points [] = []
  points (c ∷ cs) = add c (points cs)

  points_positive : (cs : List Weighted) → Positive (points cs)
  unfolding points
  points_positive [] = tt
  points_positive (c ∷ cs) = go (is_point c) refl (points_positive cs)
    where
      go : (t : Bool) → is_point c ≡ t → Positive (points cs) → Positive (cond t (point_of c ∷ points cs) (points cs))
      go true e rest = (ltb-true 0 c.weight (and_right (holds_colour g x c.colour) (ltb 0 c.weight) e), rest)
      go false e rest = rest

  -- each of those colours is among them
  point_in : (cs : List Weighted) {c : Weighted} → Memᴰ c cs → is_point c ≡ true → Memᴰ (point_of c) (points cs)
  unfolding points
  point_in [] m h = absurd (Memᴰ.not-nil m)
  point_in (d ∷ cs) {c} m h =
      elim (Memᴰ.cases_cons m) [
        | inl e ↦ rw (ap is_point (sym e) ∙ h) (Memᴰ.head (ap point_of e))
        | inr k ↦ kept (is_point d) (point_in cs k h)
      ]
    where
      kept : (t : Bool) → Memᴰ (point_of c) (points cs)
          → Memᴰ (point_of c) (cond t (point_of d ∷ points cs) (points cs))
      kept true m = Memᴰ.tail m
      kept false m = m

  -- what the colours have in the box is what its points have
  module _ (f : Point → ℕ) where
    abbrev part : Weighted → ℕ
    part c = cond (holds_colour g x c.colour) (c.weight * f (point_of c)) 0

    points_sum : (cs : List Weighted) → sum_over cs part ≡ sum_by f (points cs)
    unfolding points
    points_sum [] = over_none part
    points_sum (c ∷ cs) = over_more c cs part ∙ ap (λ (n : ℕ). part c + n) (points_sum cs)
        ∙ go (holds_colour g x c.colour) (ltb 0 c.weight) refl
      where
        none : ltb 0 c.weight ≡ false → c.weight * f (point_of c) ≡ 0
        none e = let z : c.weight ≡ 0 = omega (arith, ltb-false 0 c.weight e) in ap (λ (n : ℕ). n * f (point_of c)) z
            ∙ zero-mul (f (point_of c))

        go : (s t : Bool) → ltb 0 c.weight ≡ t
            → cond s (c.weight * f (point_of c)) 0 + sum_by f (points cs)
            ≡ sum_by f (cond (s && t) (point_of c ∷ points cs) (points cs))
        go true true e = refl
        go true false e = ap (λ (n : ℕ). n + sum_by f (points cs)) (none e) ∙ zero-add (sum_by f (points cs))
        go false t e = zero-add (sum_by f (points cs))

-- ---- the numbers of a box, by its points
total_sum : (l : List Point) → sum_by (λ p. 1) l ≡ total l
total_sum [] = refl
total_sum (p ∷ l) = ap₂ (λ (m n : ℕ). m + n) (mul-one p.weight) (total_sum l)

module _ {g : Grid} {x : Bounds} (w : Within g x) (cs : List Weighted) (b : AllBytes cs) where
  -- number j of the box, where a colour's share of it is its weight times f
  by_points : (j : ℕ) (f : Point → ℕ) → ((c : Weighted) → share c j ≡ c.weight * f (point_of c))
      → box_sum g (loaded g cs zeros) x j ≡ sum_by f (points g x cs)
  by_points j f e =
      loaded_box w j cs b
      ∙ ap (sum_over cs) (λ i c. cond (holds_colour g x c.colour) (e c i) 0)
      ∙ points_sum g x f cs

  weight_is : box_sum g (loaded g cs zeros) x 0 ≡ total (points g x cs)
  weight_is = by_points 0 (λ p. 1) (λ c. share_weight c ∙ sym (mul-one c.weight)) ∙ total_sum (points g x cs)

  sum1_is : box_sum g (loaded g cs zeros) x 1 ≡ sum1 (points g x cs)
  unfolding component_at choose
  sum1_is = by_points 1 (λ p. p.one) (λ c. share_sum c 0 (lit< tt))

  sum2_is : box_sum g (loaded g cs zeros) x 2 ≡ sum2 (points g x cs)
  unfolding component_at choose
  sum2_is = by_points 2 (λ p. p.two) (λ c. share_sum c 1 (lit< tt))

  sum3_is : box_sum g (loaded g cs zeros) x 3 ≡ sum3 (points g x cs)
  unfolding component_at choose
  sum3_is = by_points 3 (λ p. p.three) (λ c. share_sum c 2 (lit< tt))

  squares_is : box_sum g (loaded g cs zeros) x 4 ≡ squares (points g x cs)
  squares_is = by_points 4 (λ p. exact_q p.one p.two p.three) share_squares

-- ---- an occupied bin of a box has a point of the box
-- a point with its bins
record Binned (g : Grid) (p : Point) (r gr b : ℕ) : Type 0 where
  one : bin_of g.shift1 p.one ≡ r
  two : bin_of g.shift2 p.two ≡ gr
  three : bin_of g.shift3 p.three ≡ b

record Found (g : Grid) (l : List Point) (r gr b : ℕ) : Type 0 where
  point : Point
  member : Memᴰ point l
  binned : Binned g point r gr b

bytes_of : (cs : List Weighted) → AllBytes cs → {c : Weighted} → Memᴰ c cs → Bytes c.colour
bytes_of [] b m = absurd (Memᴰ.not-nil m)
bytes_of (d ∷ cs) b m =
    elim (Memᴰ.cases_cons m)
    [ inl e ↦ subst (λ (c : Weighted). Bytes c.colour) (sym e) b.0 | inr k ↦ bytes_of cs b.1 k ]

module _ {g : Grid} {x : Bounds} (w : Within g x) {r gr b : ℕ} (i : InBox x r gr b) where
  abbrev place : ℕ
  place = place_of g r gr b

  -- a colour of that place
  bins_of_lem : (c : Weighted) → Bytes c.colour → colour_place g c.colour ≡ place → Binned g (point_of c) r gr b
  unfolding colour_place choose
  bins_of_lem c k e =
      let same = place_once (colour_inside w.accepted k) (bin_inside w i) e in
      record { one = same 0; two = same 1; three = same 2 }

  held_colour : (c : Weighted) → Binned g (point_of c) r gr b → holds_colour g x c.colour ≡ true
  unfolding holds_colour
  held_colour c e = rw (e.one, e.two, e.three) (in_holds i)

  found : (cs : List Weighted) → AllBytes cs → ColourAt g cs place → Found g (points g x cs) r gr b
  found cs k o =
      let c = o.colour in
      let there = bins_of_lem c (bytes_of cs k o.among_them) o.there in
      record {
        point = point_of c;
        member =
            point_in g x cs o.among_them (rw (held_colour c there) (lt-ltb 0 c.weight o.weighs));
        binned =
            there;
      }

-- points of different bins are not alike
unlike : {g : Grid} {p q : Point} {r gr b r' gr' b' : ℕ} → Binned g p r gr b → Binned g q r' gr' b'
    → (place_of g r gr b ≡ place_of g r' gr' b' → ⊥) → Alike p q → ⊥
unlike {g} e f n a =
    let one = sym e.one ∙ ap (bin_of g.shift1) a.one ∙ f.one in
    let two = sym e.two ∙ ap (bin_of g.shift2) a.two ∙ f.two in
    let three = sym e.three ∙ ap (bin_of g.shift3) a.three ∙ f.three in
    n (λ j. place_of g (one j) (two j) (three j))

-- the property is one of the numbers at the places of the grid
pub spreads_same : {g : Grid} {v u : View} → ((p j : ℕ) → p < bins_of g → j < 5 → v p j ≡ u p j) → SpreadsAbove g u
    → SpreadsAbove g v
spreads_same {g} {v} {u} same s =
    record {
      above = λ x w r gr z r' gr' z' i k o o' n.
          rw (stats_same same w)
          (s.above x w r gr z r' gr' z' i k (λ e. o (at w (holds_in i) ∙ e)) (λ e. o' (at w (holds_in k) ∙ e)) n);
    }
  where
    at : {x : Bounds} → Within g x → {r gr b : ℕ} → InBox x r gr b → v (place_of g r gr b) 0 ≡ u (place_of g r gr b) 0
    at w {r} {gr} {b} i = same (place_of g r gr b) 0 (place_lt (bin_inside w i)) (lit< tt)

-- ---- the theorem
module _ {g : Grid} (a : Accepted g) (cs : List Weighted) (b : AllBytes cs) where
  -- the numbers that colours add up to, of any total that a table has
  pub from_colours : weight_of cs ≤ limit → SpreadsAbove g (loaded g cs zeros)
  from_colours most =
      record {
        above = λ x w r gr z r' gr' z' holds-one holds-other o o' n.
            let v = loaded g cs zeros in
            let i = holds_in holds-one in
            let k = holds_in holds-other in
            let sound = load_sound a cs b (zeros_sound limit g) (omega (arith, zeros_total g)) in
            let p = found w i cs b (occupied_colour g (place_of g r gr z) cs o) in
            let q = found w k cs b (occupied_colour g (place_of g r' gr' z') cs o') in
            box_above sound w (pos_of_ne-zero (λ e. o (bins_empty g v x e r gr z i))) (not_one g i k n)
            (rw (weight_is w cs b, sum1_is w cs b, sum2_is w cs b, sum3_is w cs b, squares_is w cs b)
            (colours_half (points g x cs) (points_positive g x cs)
            (two_colours p.member q.member (unlike p.binned q.binned n))));
      }

  -- and of the list that the calls leave behind
  pub table_above : weight_of cs ≤ limit → SpreadsAbove g (view_of (table_of g cs))
  table_above most = spreads_same (table_holds g cs).at (from_colours most)
