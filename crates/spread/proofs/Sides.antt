-- Records taken from each other: f64 subtracts their squares without loss, so a difference has the statistics of what
-- is left.
-- Assumes nothing.
use mathlib.Core.Path.{◌≡◌, sym, ap, ◌∙◌}
use mathlib.Core.Bool.{false}
use Prim.Native.Nat.{ℕ, ◌+◌, ◌-◌, ◌^◌, ◌≤◌}
use native.Mathlib.Nat.{le_trans, mul-one}
use native.Mathlib.Omega.{arith}
use lib.Ieee.{binary64, sub, round}
use Rattle.grid.specs.declared.place.Grid.{Grid}
use Rattle.table.specs.Cell.{View}
use Rattle.table.specs.Sound.{limit}
use Rattle.table.proofs.Soundness.{Sound}
use Rattle.boxes.specs.declared.sides.Bounds.{Bounds}
use Rattle.sums.specs.declared.box_sums.Stats.{Stats}
use Rattle.boxes.specs.Box.{min_at, max_at, low_side, high_side, slab_to, Within}
use Rattle.bins.specs.Sum.{box_sum}
use Rattle.sums.specs.Box.{stats_from, stats_of}
use Rattle.bins.proofs.Laws.{box_squares}
use Rattle.bins.proofs.Laws.{cut_sum, slab_sum, slab_squares}
use Rattle.sums.specs.Box.{whole}
use Rattle.spread.specs.Inner.{minus_stats, Covers}
use Rattle.spread.proofs.Rounding.{less_of, of_whole, whole_is}

-- the statistics of five numbers, with squares that f64 holds
pub record Exact (s : Stats) (f : ℕ → ℕ) : Type 0 where
  pub is : s ≡ stats_from f
  pub squares : f 4 ≤ 2 ^ 53

-- one record less another, which has part of its numbers: what is left
pub record Less (a b : Stats) (left : ℕ → ℕ) : Type 0 where
  pub covers : Covers a b
  pub exact : {r : Stats} → r ≡ minus_stats a b → Exact r left

-- whole numbers up to 2^53 are subtracted in f64 without loss
less_whole : (a b : ℕ) → b ≤ a → a ≤ 2 ^ 53 → sub binary64 (whole a) (whole b) ≡ whole (a - b)
less_whole a b h l =
    less_of binary64 (of_whole binary64 a l) (of_whole binary64 b (le_trans h l)) (rw mul-one h)
    ∙ ap (λ (n : ℕ). round binary64 false (n - b) 1) (mul-one a)
    ∙ sym (whole_is binary64 (a - b))

-- the difference of the statistics of five numbers and of a part of them is the statistics of the rest
pub stats_less : (all part left : ℕ → ℕ) → ((j : ℕ) → all j ≡ part j + left j) → {a b : Stats} → Exact a all → b
    ≡ stats_from part → Less a b left
unfolding minus_stats
stats_less all part left split {a} {b} p q =
    record {
      covers =
          rw (p.is, q) (record {
            weight = omega (arith, split 0);
            sum1 = omega (arith, split 1);
            sum2 =
                omega (arith, split 2);
            sum3 = omega (arith, split 3);
          });
      exact =
          λ e. record {
            is = e ∙ (λ i. minus_stats (p.is i) (q i)) ∙ rest;
            squares =
                omega (arith, split 4, p.squares);
          };
    }
  where
    less : (j : ℕ) → all j - part j ≡ left j
    less j = omega (arith, split j)

    rest : minus_stats (stats_from all) (stats_from part) ≡ stats_from left
    rest = λ i.
        record {
          weight = less 0 i;
          sum1 = less 1 i;
          sum2 = less 2 i;
          sum3 = less 3 i;
          squares = (less_whole (all 4) (part 4) (omega (arith, split 4)) p.squares ∙ ap whole (less 4)) i;
        }

-- ---- the two sides of a position
module _ {g : Grid} {v : View} (s : Sound limit g v) {x : Bounds} (w : Within g x) (d c : ℕ)
    (h : min_at x d ≤ c) (l : c ≤ max_at x d) where
  pub low : {before base : Stats} → before ≡ stats_of g v (slab_to x d c) → base ≡ stats_of g v (slab_to x d (min_at x d))
      → Less before base (box_sum g v (low_side x d c))
  unfolding stats_of
  low p q =
      stats_less (box_sum g v (slab_to x d c)) (box_sum g v (slab_to x d (min_at x d))) (box_sum g v (low_side x d c))
      (λ j. slab_sum g v x d c j h) (record { is = p; squares = slab_squares s w d c l }) q

  pub high : {all low : Stats} → all ≡ stats_of g v x → low ≡ stats_of g v (low_side x d c)
      → Less all low (box_sum g v (high_side x d c))
  unfolding stats_of
  high p q =
      stats_less (box_sum g v x) (box_sum g v (low_side x d c)) (box_sum g v (high_side x d c))
      (λ j. cut_sum g v x d c j h l) (record { is = p; squares = box_squares s w }) q
