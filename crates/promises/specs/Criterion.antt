-- Wu's criterion over whole numbers (ACM Transactions on Graphics 11(4), 1992): the exact spread of a box and the exact
-- score of a position, as fractions. Definitions only.
use Rattle.std.specs.Prelude.{◌≡◌, ℕ, ◌+◌, ◌*◌, ◌≤◌, ◌<◌}
use Rattle.grid.specs.declared.place.Grid.{Grid}
use Rattle.table.specs.Cell.{View}
use Rattle.boxes.specs.declared.sides.Bounds.{Bounds}
use Rattle.bins.specs.Sum.{box_sum}
use Rattle.boxes.specs.Box.{min_at, max_at, low_side, high_side}
use Rattle.spread.specs.Spread.{exact_q}
use Rattle.spread.specs.Best.{Split}

-- (plus − minus)/under, where under is above 0
pub record Fraction : Type 0 where
  pub plus : ℕ
  pub minus : ℕ
  pub under : ℕ

-- two of them added, and one with the other sign
unfoldable pub together : Fraction → Fraction → Fraction
together a b =
    record {
      plus = a.plus * b.under + b.plus * a.under;
      minus = a.minus * b.under + b.minus * a.under;
      under = a.under * b.under;
    }

unfoldable pub negative : Fraction → Fraction
negative a = record { plus = a.minus; minus = a.plus; under = a.under }

-- p/q = p'/q' is p·q' = p'·q, and p/q ≤ p'/q' is p·q' ≤ p'·q, with what is taken away brought to the other side
unfoldable pub Same : Fraction → Fraction → Type 0
Same a b = a.plus * b.under + b.minus * a.under ≡ b.plus * a.under + a.minus * b.under

unfoldable pub AtMost : Fraction → Fraction → Type 0
AtMost a b = a.plus * b.under + b.minus * a.under ≤ b.plus * a.under + a.minus * b.under

module _ (g : Grid) (v : View) where
  -- S = c1² + c2² + c3² of a box's sums, and S/n
  unfoldable pub sums_squared : Bounds → ℕ
  sums_squared x = exact_q (box_sum g v x 1) (box_sum g v x 2) (box_sum g v x 3)

  unfoldable pub exact_quotient : Bounds → Fraction
  exact_quotient x = record { plus = sums_squared x; minus = 0; under = box_sum g v x 0 }

  -- squares − S/n, which is (n·squares − S)/n: of a box of one bin too
  unfoldable pub exact_spread : Bounds → Fraction
  exact_spread x = record { plus = box_sum g v x 0 * box_sum g v x 4; minus = sums_squared x; under = box_sum g v x 0 }

  unfoldable pub exact_squares : Bounds → Fraction
  exact_squares x = record { plus = box_sum g v x 4; minus = 0; under = 1 }

  -- a position strictly inside a box, with weight on both sides
  pub record Cuts (x : Bounds) (d bin : ℕ) : Type 0 where
    pub dimension : d < 3
    pub inside : (min_at x d < bin) × (bin < max_at x d)
    pub split : Split g v x d bin

  -- its score, −(Slow/nlow + Shigh/nhigh), and the spreads of its two sides
  unfoldable pub exact_score : Bounds → ℕ → ℕ → Fraction
  exact_score x d bin = negative (together (exact_quotient (low_side x d bin)) (exact_quotient (high_side x d bin)))

  unfoldable pub sides_spread : Bounds → ℕ → ℕ → Fraction
  sides_spread x d bin = together (exact_spread (low_side x d bin)) (exact_spread (high_side x d bin))

  -- of all positions of a box, one has the smallest fraction
  abbrev pub Smallest : (ℕ → ℕ → Fraction) → Bounds → ℕ → ℕ → Type 0
  Smallest f x d bin = (e c : ℕ) → Cuts x e c → AtMost (f d bin) (f e c)
