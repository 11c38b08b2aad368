-- Runs of bins in the three dimensions: none, those from the edge of the grid on, and the whole grid.
-- Assumes nothing.
use mathlib.Core.Path.{◌≡◌, refl, sym, ap, ◌∙◌}
use Prim.Native.Nat.{ℕ, ◌+◌, ◌-◌, ◌*◌, ◌^◌, ◌≤◌, ◌<◌}
use native.Mathlib.Nat.{zero-add, le_trans}
use native.Mathlib.Omega.{arith}
use Rattle.grid.specs.declared.place.Grid.{Grid}
use Rattle.basics.specs.Range.{sum_from}
use Rattle.grid.specs.Grid.{Accepted, bins_of, place_of}
use Rattle.basics.proofs.Range.{sum_zero, sum_same, sum_grow, sum_le, sum_scale}
use Rattle.table.specs.Cell.{View}
use Rattle.table.specs.Sound.{limit}
use Rattle.table.proofs.Soundness.{Sound, number_high, total_high, total_is}
use Rattle.bins.specs.Sum.{sum3, bin_sum}
use Rattle.bins.proofs.Boxes.{sum3_first, sum3_second, sum3_third, all_places}

-- no bins
pub no_first : (g : Grid) (v : View) (a b m c k j : ℕ) → bin_sum g v a 0 b m c k j ≡ 0
unfolding bin_sum sum3 sum_from
no_first g v a b m c k j = refl

pub no_second : (g : Grid) (v : View) (a n b c k j : ℕ) → bin_sum g v a n b 0 c k j ≡ 0
unfolding bin_sum sum3 sum_from
no_second g v a n b c k j = sum_zero a n

pub no_third : (g : Grid) (v : View) (a n b m c j : ℕ) → bin_sum g v a n b m c 0 j ≡ 0
unfolding bin_sum sum3 sum_from
no_third g v a n b m c j = sum_same a n _ _ (λ x h t. sum_zero b m) ∙ sum_zero a n

-- the runs up to an end are those up to a start and from there on
ends : (s e : ℕ) → s ≤ e → e ≡ s + (e - s)
ends s e h = omega arith

module _ (g : Grid) (v : View) where
  abbrev bin : ℕ → ℕ → ℕ → ℕ → ℕ
  bin j r gr b = v (place_of g r gr b) j

  pub first_from_lem : (s e b m c k j : ℕ) → s ≤ e → bin_sum g v 0 e b m c k j
      ≡ bin_sum g v 0 s b m c k j + bin_sum g v s (e - s) b m c k j
  unfolding bin_sum
  first_from_lem s e b m c k j h =
      ap (λ (n : ℕ). sum3 0 n b m c k (bin j)) (ends s e h)
      ∙ sum3_first (bin j) 0 s (e - s) b m c k
      ∙ ap (λ (n : ℕ). sum3 0 s b m c k (bin j) + sum3 n (e - s) b m c k (bin j)) (zero-add s)

  pub second_from : (a n s e c k j : ℕ) → s ≤ e → bin_sum g v a n 0 e c k j
      ≡ bin_sum g v a n 0 s c k j + bin_sum g v a n s (e - s) c k j
  unfolding bin_sum
  second_from a n s e c k j h =
      ap (λ (m : ℕ). sum3 a n 0 m c k (bin j)) (ends s e h)
      ∙ sum3_second (bin j) a n 0 s (e - s) c k
      ∙ ap (λ (m : ℕ). sum3 a n 0 s c k (bin j) + sum3 a n m (e - s) c k (bin j)) (zero-add s)

  pub third_from : (a n b m s e j : ℕ) → s ≤ e → bin_sum g v a n b m 0 e j
      ≡ bin_sum g v a n b m 0 s j + bin_sum g v a n b m s (e - s) j
  unfolding bin_sum
  third_from a n b m s e j h =
      ap (λ (k : ℕ). sum3 a n b m 0 k (bin j)) (ends s e h)
      ∙ sum3_third (bin j) a n b m 0 s (e - s)
      ∙ ap (λ (k : ℕ). sum3 a n b m 0 s (bin j) + sum3 a n b m k (e - s) (bin j)) (zero-add s)

-- the whole grid has the most
pub runs_grow : (g : Grid) (v : View) (r gr b j : ℕ) → r ≤ g.size1 → gr ≤ g.size2 → b ≤ g.size3
    → bin_sum g v 0 r 0 gr 0 b j ≤ bin_sum g v 0 g.size1 0 g.size2 0 g.size3 j
unfolding bin_sum sum3
runs_grow g v r gr b j h k l =
    le_trans (sum_grow 0 r g.size1 _ h)
    (sum_le 0 g.size1 _ _
    (λ x i t.
    le_trans (sum_grow 0 gr g.size2 _ k)
    (sum_le 0 g.size2 _ _ (λ y m u. sum_grow 0 b g.size3 (λ z. v (place_of g x y z) j) l))))

-- and that is number j of all bins
pub all_bins : (g : Grid) (v : View) (j : ℕ) → bin_sum g v 0 g.size1 0 g.size2 0 g.size3 j
    ≡ sum_from 0 (bins_of g) (λ p. v p j)
unfolding bin_sum
all_bins g v j = sym (all_places g (λ p. v p j))

-- at a sound table it is below 2^50
pub all_small : {g : Grid} {v : View} → Accepted g → Sound limit g v → (j : ℕ) → j < 5
    → sum_from 0 (bins_of g) (λ p. v p j) < 2 ^ 50
all_small {g} {v} a s j h = omega (arith, high, sum_scale 195075 0 (bins_of g) (λ p. v p 0), total_is g v, total_high s)
  where
    high : sum_from 0 (bins_of g) (λ p. v p j) ≤ sum_from 0 (bins_of g) (λ p. 195075 * v p 0)
    high =
        sum_le 0 (bins_of g) (λ p. v p j) (λ p. 195075 * v p 0)
        (λ p i t. number_high a s p (omega arith) j h)
