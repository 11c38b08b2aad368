-- Laws of a batch whose weights are multiplied by a scale: how many they are, what they weigh, what they add, and that
-- with every weight times 1 it is the batch.
-- Assumes nothing.
use mathlib.Core.Path.{◌≡◌, refl, sym, ap, ◌∙◌}
use mathlib.Core.Bool.{Bool, true, false, not, ◌&&◌, cond}
use mathlib.Core.List.{List, [], ◌∷◌, map}
use Prim.Native.Nat.{ℕ, zero, suc, ◌+◌, ◌*◌, ◌/◌, ◌≤◌, ◌<◌}
use native.Mathlib.Nat.{zero-add, mul-one, one-mul, mul-zero, mul-add, mul_assoc, lt_of_not-le}
use native.Mathlib.Decide.{dec_le}
use native.Mathlib.Omega.{arith}
use borrow.Author.Tests.{eq-eqb}
use lib.Dec.{eqb}
use lib.ListN.{length, get_or, get_or-eq_default}
use Rattle.basics.specs.Range.{list_from, sum_from}
use Rattle.pixels.specs.Colour.{colour_at}
use Rattle.basics.proofs.Range.{length_list, list_at}
use Rattle.basics.proofs.Lists.{map_list, list_same}
use Rattle.grid.specs.declared.place.Grid.{Grid}
use Rattle.grid.specs.Grid.{colour_place}
use Rattle.table.specs.Cell.{zeros}
use Rattle.adder.specs.Batch.{Weighted, scaled_colour, share, adds, sum_over, weight_of, loaded, weighted_at}
use Rattle.adder.specs.Batch.{batch_of, scaled_weights}
use Rattle.adder.specs.Add.{Whole, scaled_batch}
use Rattle.adder.specs.Inner.{scaled_at, part_of}
use Rattle.adder.proofs.Loading.{AllBytes}
use Rattle.adder.proofs.Parts.{part_weight, all_bytes_of}

module _ (scale : ℕ) (colours : List ℕ) (weighted : Bool) (weights : List ℕ) where
  abbrev many : ℕ
  many = length colours / 3

  abbrev scaled : List ℕ
  scaled = scaled_weights scale many weighted weights

  -- ---- the weights
  pub scaled_length : length (scaled_weights scale (length colours / 3) weighted weights)
      ≡ cond weighted (length weights) (length colours / 3)
  unfolding scaled_weights
  scaled_length = go weighted
    where
      go : (b : Bool) → length (scaled_weights scale many b weights) ≡ cond b (length weights) many
      go true = length_list 0 (length weights) _
      go false = length_list 0 many _

  -- as many as are given
  pub given_length : weighted ≡ true
      → length (scaled_weights scale (length colours / 3) weighted weights) ≡ length weights
  given_length y = scaled_length ∙ ap (λ (b : Bool). cond b (length weights) many) y

  scaled_at_lem : (i : ℕ) → i < many → get_or scaled i 0 ≡ scale * cond weighted (get_or weights i 0) 1
  unfolding scaled_weights
  scaled_at_lem i h = go weighted
    where
      given : Dec (length weights ≤ i)
          → get_or (list_from 0 (length weights) (λ k. scale * get_or weights k 0)) i 0 ≡ scale * get_or weights i 0
      given (yes l) =
          get_or-eq_default (list_from 0 (length weights) (λ k. scale * get_or weights k 0)) 0
          (omega (arith, length_list 0 (length weights) (λ k. scale * get_or weights k 0)))
          ∙ sym (mul-zero scale)
          ∙ ap (λ (x : ℕ). scale * x) (sym (get_or-eq_default weights 0 l))
      given (no l) =
          list_at 0 (length weights) (λ k. scale * get_or weights k 0) i 0 (lt_of_not-le l)
          ∙ ap (λ (k : ℕ). scale * get_or weights k 0) (zero-add i)

      go : (b : Bool) → get_or (scaled_weights scale many b weights) i 0 ≡ scale * cond b (get_or weights i 0) 1
      go true = given (dec_le (length weights) i)
      go false = list_at 0 many (λ k. scale) i 0 h ∙ sym (mul-one scale)

  -- they are refused with 4 exactly where the weights themselves are
  pub scaled_pairs : (true && not (eqb (length (scaled_weights scale (length colours / 3) weighted weights))
      (length colours / 3))) ≡ (weighted && not (eqb (length weights) (length colours / 3)))
  scaled_pairs = ap (λ (n : ℕ). not (eqb n many)) scaled_length ∙ go weighted
    where
      go : (b : Bool) → not (eqb (cond b (length weights) many) many) ≡ (b && not (eqb (length weights) many))
      go true = refl
      go false = ap not (eq-eqb many many refl)

  -- ---- the colours
  pub part_scaled : part_of scale colours weighted weights 0 (length colours / 3)
      ≡ scaled_batch scale colours weighted weights
  unfolding part_of batch_of weighted_at scaled_at
  part_scaled =
      list_same 0 many (scaled_at scale colours weighted weights) (weighted_at colours true scaled)
      (λ k l h i. record { colour = colour_at colours k; weight = sym (scaled_at_lem k (omega (arith, h))) i })

  -- what they weigh
  pub scaled_weight : weight_of (scaled_batch scale colours weighted weights)
      ≡ scale * cond weighted (sum_from 0 (length colours / 3) (λ k. get_or weights k 0)) (length colours / 3)
  scaled_weight = ap weight_of (sym part_scaled) ∙ part_weight scale colours weighted weights 0 many

  -- and by all weights, where there is one a colour
  pub whole_weight : Whole colours weighted weights → weight_of (scaled_batch scale colours weighted weights)
      ≡ scale * cond weighted (sum_from 0 (length weights) (λ k. get_or weights k 0)) (length colours / 3)
  whole_weight w = scaled_weight ∙ ap (λ (x : ℕ). scale * x) (go weighted w.paired)
    where
      go : (b : Bool) → (b ≡ true → length weights ≡ many)
          → cond b (sum_from 0 many (λ k. get_or weights k 0)) many
          ≡ cond b (sum_from 0 (length weights) (λ k. get_or weights k 0)) many
      go true e = ap (λ (n : ℕ). sum_from 0 n (λ k. get_or weights k 0)) (sym (e refl))
      go false e = refl

  pub scaled_bytes : ((k : ℕ) → get_or colours k 0 < 256) → AllBytes (scaled_batch scale colours weighted weights)
  scaled_bytes = all_bytes_of colours true scaled

-- ---- what multiplied colours weigh, and add
module _ (scale : ℕ) where
  pub scaled_colours : (colours : List ℕ) (weighted : Bool) (weights : List ℕ)
      → scaled_batch scale colours weighted weights ≡ map (scaled_colour scale) (batch_of colours weighted weights)
  unfolding batch_of weighted_at part_of scaled_at scaled_colour
  scaled_colours colours weighted weights =
      sym (part_scaled scale colours weighted weights)
      ∙ sym (map_list (scaled_colour scale) 0 (length colours / 3) (weighted_at colours weighted weights))

  over_scaled : (f : Weighted → ℕ) → ((c : Weighted) → f (scaled_colour scale c) ≡ scale * f c) → (cs : List Weighted)
      → sum_over (map (scaled_colour scale) cs) f ≡ scale * sum_over cs f
  unfolding sum_over
  over_scaled f h [] = sym (mul-zero scale)
  over_scaled f h (c ∷ cs) = (λ i. h c i + over_scaled f h cs i) ∙ sym (mul-add scale (f c) (sum_over cs f))

  pub weight_scaled : (cs : List Weighted) → weight_of (map (scaled_colour scale) cs) ≡ scale * weight_of cs
  unfolding weight_of scaled_colour
  weight_scaled cs = over_scaled (λ c. c.weight) (λ c. refl) cs

  share_scaled : (c : Weighted) (j : ℕ) → share (scaled_colour scale c) j ≡ scale * share c j
  unfolding share scaled_colour
  share_scaled c zero = refl
  share_scaled c (suc zero) = mul_assoc scale c.weight _
  share_scaled c (suc (suc zero)) = mul_assoc scale c.weight _
  share_scaled c (suc (suc (suc zero))) = mul_assoc scale c.weight _
  share_scaled c (suc (suc (suc (suc j)))) = mul_assoc scale c.weight _

  adds_scaled : (g : Grid) (p j : ℕ) (c : Weighted) → adds g (scaled_colour scale c) p j ≡ scale * adds g c p j
  unfolding adds scaled_colour
  adds_scaled g p j c = go (eqb (colour_place g c.colour) p)
    where
      go : (b : Bool) → cond b (share (scaled_colour scale c) j) 0 ≡ scale * cond b (share c j) 0
      go true = share_scaled c j
      go false = sym (mul-zero scale)

  pub loaded_scaled : (g : Grid) (cs : List Weighted) (p j : ℕ)
      → loaded g (map (scaled_colour scale) cs) zeros p j ≡ scale * loaded g cs zeros p j
  unfolding loaded
  loaded_scaled g cs p j =
      zero-add (sum_over (map (scaled_colour scale) cs) (λ c. adds g c p j))
      ∙ over_scaled (λ c. adds g c p j) (adds_scaled g p j) cs
      ∙ ap (λ (x : ℕ). scale * x) (sym (zero-add (sum_over cs (λ c. adds g c p j))))

-- ---- every weight times 1
module _ (colours : List ℕ) (weighted : Bool) (weights : List ℕ) where
  pub once_batch : scaled_batch 1 colours weighted weights ≡ batch_of colours weighted weights
  unfolding part_of batch_of weighted_at scaled_at
  once_batch =
      sym (part_scaled 1 colours weighted weights)
      ∙ list_same 0 (length colours / 3) (scaled_at 1 colours weighted weights) (weighted_at colours weighted weights)
      (λ k l h i. record { colour = colour_at colours k; weight = one-mul (cond weighted (get_or weights k 0) 1) i })
