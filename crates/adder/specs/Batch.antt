-- A batch of colours with their weights, and what it adds to a table (Rules, Load; Rules, Record). Definitions only.
use Rattle.std.specs.Prelude.{Bool, cond, List, [], ◌∷◌, ℕ, zero, suc, ◌+◌, ◌*◌, ◌/◌, eqb, length, get_or}
use Rattle.grid.specs.declared.place.Grid.{Grid}
use Rattle.pixels.specs.declared.colour.Rgb.{Rgb}
use Rattle.basics.specs.Range.{list_from}
use Rattle.grid.specs.Grid.{colour_place}
use Rattle.pixels.specs.Colour.{colour_at}
use Rattle.table.specs.Cell.{View}

-- a colour with a weight as large as wanted
pub record Weighted : Type 0 where
  pub colour : Rgb
  pub weight : ℕ

-- with its weight multiplied by a scale
unfoldable pub scaled_colour : ℕ → Weighted → Weighted
scaled_colour scale c = record { colour = c.colour; weight = scale * c.weight }

-- "Each colour adds w to n, w·c to each sum, w·(c1²+c2²+c3²) to the squares of its bin."
unfoldable pub share : Weighted → ℕ → ℕ
share c zero = c.weight
share c (suc zero) = c.weight * c.colour.c1
share c (suc (suc zero)) = c.weight * c.colour.c2
share c (suc (suc (suc zero))) = c.weight * c.colour.c3
share c (suc (suc (suc (suc j)))) =
    c.weight * (c.colour.c1 * c.colour.c1 + c.colour.c2 * c.colour.c2 + c.colour.c3 * c.colour.c3)

-- that, to its own bin
unfoldable pub adds : Grid → Weighted → View
adds g c p j = cond (eqb (colour_place g c.colour) p) (share c j) 0

-- the sum of f over a list
unfoldable pub sum_over : {A : Type 0} → List A → (A → ℕ) → ℕ
sum_over [] f = 0
sum_over (x ∷ xs) f = f x + sum_over xs f

unfoldable pub weight_of : List Weighted → ℕ
weight_of cs = sum_over cs (λ c. c.weight)

-- a view after a list of colours is loaded
unfoldable pub loaded : Grid → List Weighted → View → View
loaded g cs v p j = v p j + sum_over cs (λ c. adds g c p j)

-- colour i of a batch, with its weight: "it is 1 when none is given, whatever list is lent"
unfoldable pub weighted_at : List ℕ → Bool → List ℕ → ℕ → Weighted
weighted_at colours weighted weights i =
    record { colour = colour_at colours i; weight = cond weighted (get_or weights i 0) 1 }

-- the colours of a batch
unfoldable pub batch_of : List ℕ → Bool → List ℕ → List Weighted
batch_of colours weighted weights = list_from 0 (length colours / 3) (weighted_at colours weighted weights)

-- the weights of a batch of n colours, each multiplied by a scale: "Without weights each colour weighs the interval"
unfoldable pub scaled_weights : ℕ → ℕ → Bool → List ℕ → List ℕ
scaled_weights scale n weighted weights =
    cond weighted (list_from 0 (length weights) (λ i. scale * get_or weights i 0)) (list_from 0 n (λ i. scale))
