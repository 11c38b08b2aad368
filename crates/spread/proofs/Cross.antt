-- Laws of the walk through the bins of one dimension: the four places that it reads hold what inclusion and exclusion
-- need.
-- Assumes nothing.
use mathlib.Core.Path.{◌≡◌, refl, ap, ◌∙◌}
use Prim.Native.Nat.{ℕ, zero, suc, ◌+◌, ◌-◌, ◌*◌, ◌≤◌, ◌<◌}
use native.Mathlib.Nat.{add-zero, add-mul, mul_comm, mul_assoc, zero-mul, one-mul, le_trans, le_of_lt}
use native.Mathlib.Omega.{arith}
use lib.Dec.{lit<}
use Rattle.grid.specs.declared.place.Grid.{Grid}
use Rattle.basics.specs.Dimension.{choose}
use Rattle.grid.specs.Grid.{size_at, place_of, stride_at, Accepted, Inside}
use Rattle.grid.proofs.Size.{size_low}
use Rattle.grid.proofs.Places.{one, two, three, place_lt, bins_high}
use Rattle.table.specs.Cell.{View, number_of, cell_of}
use Rattle.table.specs.Layouts.{Layout}
use Rattle.table.specs.Layout.{TableIn, view_in}
use Rattle.boxes.specs.declared.sides.Bounds.{Bounds}
use Rattle.boxes.specs.Box.{min_at, max_at, low_side, high_side, slab_to, Within}
use Rattle.bins.specs.Sum.{bin_sum, box_sum}
use Rattle.sums.specs.Box.{stats_from, stats_of}
use Rattle.table.proofs.Cells.{zero_cell, zeros_cell}
use Rattle.table.specs.Sound.{limit}
use Rattle.sums.specs.declared.box_sums.Stats.{Stats}
use Rattle.sums.specs.declared.source.Source.TheVariants.{Moments}
use Rattle.sums.specs.Moments.{CanSum}
use Rattle.sums.specs.Inner.{Corner, bin_cell}
use Rattle.bins.proofs.Runs.{first_from_lem, second_from, third_from, no_first, no_second, no_third}
use Rattle.sums.proofs.Corners.{zeros_are, corner_inside, corner_cell, corner_number, corner_squares, stats_by}
use Rattle.sums.proofs.Corners.{cell_stats}
use Rattle.spread.specs.Inner.{outer_of, inner_of, start_of, HasRecord, minus_stats, combined_stats, CanCombine}
use Rattle.spread.proofs.Sides.{Exact, Less, stats_less}

-- ---- runs of bins: those below n in dimension d, and a run in each of the two others
pub cross_sum : Grid → View → ℕ → ℕ → ℕ → ℕ → ℕ → ℕ → ℕ → ℕ
cross_sum g v d n a m c k j =
    choose d (bin_sum g v 0 n a m c k j) (bin_sum g v a m 0 n c k j) (bin_sum g v a m c k 0 n j)

from_edge : (n : ℕ) → n ≡ n - 0
from_edge n = omega arith

module _ (g : Grid) (v : View) where
  -- the runs up to an end are those up to a start and from there on
  pub outer_from : (d n c k s e j : ℕ) → s ≤ e → cross_sum g v d n 0 e c k j
      ≡ cross_sum g v d n 0 s c k j + cross_sum g v d n s (e - s) c k j
  unfolding cross_sum choose
  outer_from zero n c k s e j h = second_from g v 0 n s e c k j h
  outer_from (suc zero) n c k s e j h = first_from_lem g v s e 0 n c k j h
  outer_from (suc (suc d)) n c k s e j h = first_from_lem g v s e c k 0 n j h

  pub inner_from : (d n a m s e j : ℕ) → s ≤ e → cross_sum g v d n a m 0 e j
      ≡ cross_sum g v d n a m 0 s j + cross_sum g v d n a m s (e - s) j
  unfolding cross_sum choose
  inner_from zero n a m s e j h = third_from g v 0 n a m s e j h
  inner_from (suc zero) n a m s e j h = third_from g v a m 0 n s e j h
  inner_from (suc (suc d)) n a m s e j h = second_from g v a m s e 0 n j h

  -- over the box's runs, they are what lies before bin n
  pub cross_box : (x : Bounds) (d n j : ℕ)
      → cross_sum g v d n (min_at x (outer_of d)) (max_at x (outer_of d) - min_at x (outer_of d)) (min_at x (inner_of d))
      (max_at x (inner_of d) - min_at x (inner_of d)) j ≡ box_sum g v (slab_to x d n) j
  unfolding cross_sum choose outer_of inner_of min_at max_at box_sum low_side high_side
  cross_box x zero n j = ap (λ (m : ℕ). bin_sum g v 0 m x.g0 (x.g1 - x.g0) x.b0 (x.b1 - x.b0) j) (from_edge n)
  cross_box x (suc zero) n j =
      ap (λ (m : ℕ). bin_sum g v x.r0 (x.r1 - x.r0) 0 m x.b0 (x.b1 - x.b0) j) (from_edge n)
  cross_box x (suc (suc d)) n j =
      ap (λ (m : ℕ). bin_sum g v x.r0 (x.r1 - x.r0) x.g0 (x.g1 - x.g0) 0 m j) (from_edge n)

  -- and nothing before the first
  none_cell : (x : Bounds) (d : ℕ) → zero_cell ≡ cell_of (box_sum g v (slab_to x d 0))
  unfolding box_sum bin_cell low_side high_side choose
  none_cell x zero =
      zeros_are g v 0 0 x.g0 (x.g1 - x.g0) x.b0 (x.b1 - x.b0)
      (λ j. no_first g v 0 x.g0 (x.g1 - x.g0) x.b0 (x.b1 - x.b0) j)
  none_cell x (suc zero) =
      zeros_are g v x.r0 (x.r1 - x.r0) 0 0 x.b0 (x.b1 - x.b0)
      (λ j. no_second g v x.r0 (x.r1 - x.r0) 0 x.b0 (x.b1 - x.b0) j)
  none_cell x (suc (suc d)) =
      zeros_are g v x.r0 (x.r1 - x.r0) x.g0 (x.g1 - x.g0) 0 0
      (λ j. no_third g v x.r0 (x.r1 - x.r0) x.g0 (x.g1 - x.g0) 0 j)

  pub none_before : (x : Bounds) (d : ℕ) {y : Stats} → y ≡ stats_from (number_of zero_cell)
      → y ≡ stats_of g v (slab_to x d 0)
  unfolding stats_of
  none_before x d = cell_stats (box_sum g v (slab_to x d 0)) (none_cell x d)

  -- nothing before the edge in the outer dimension, or in the inner
  no_outer : (d n c k j : ℕ) → cross_sum g v d n 0 0 c k j ≡ 0
  unfolding cross_sum choose
  no_outer zero n c k j = no_second g v 0 n 0 c k j
  no_outer (suc zero) n c k j = no_first g v 0 0 n c k j
  no_outer (suc (suc d)) n c k j = no_first g v 0 c k 0 n j

  no_inner : (d n a m j : ℕ) → cross_sum g v d n a m 0 0 j ≡ 0
  unfolding cross_sum choose
  no_inner zero n a m j = no_third g v 0 n a m 0 j
  no_inner (suc zero) n a m j = no_third g v a m 0 n 0 j
  no_inner (suc (suc d)) n a m j = no_second g v a m 0 0 n j

  module _ {none : Stats} (z : none ≡ stats_from (number_of zero_cell)) (d n : ℕ) where
    zeros : (f : ℕ → ℕ) → ((j : ℕ) → f j ≡ 0) → Exact none f
    zeros f e = record { is = cell_stats f (zeros_cell f e) z; squares = omega (arith, e 4) }

    pub outer_zeros : {i : ℕ} → i ≡ 0 → (k : ℕ) → Exact none (cross_sum g v d n 0 i 0 k)
    outer_zeros {i} e k =
        zeros (cross_sum g v d n 0 i 0 k)
        (λ j. ap (λ (m : ℕ). cross_sum g v d n 0 m 0 k j) e ∙ no_outer d n 0 k j)

    pub inner_zeros : {k : ℕ} → k ≡ 0 → (i : ℕ) → Exact none (cross_sum g v d n 0 i 0 k)
    inner_zeros {k} e i =
        zeros (cross_sum g v d n 0 i 0 k)
        (λ j. ap (λ (m : ℕ). cross_sum g v d n 0 i 0 m j) e ∙ no_inner d n 0 i j)

-- ---- the place of a corner
along_first : (g : Grid) (m a b : ℕ) → place_of g 0 a b + g.size2 * g.size3 * m ≡ place_of g m a b
unfolding place_of
along_first g m a b =
    omega (
      arith,
      add-mul (0 * g.size2) a g.size3,
      zero-mul g.size2,
      zero-mul g.size3,
      ap
          (λ (z : ℕ). z * g.size3) (zero-mul g.size2),
      add-mul (m * g.size2) a g.size3,
      mul_assoc m g.size2
          g.size3,
      mul_comm m (g.size2 * g.size3),
    )

along_second : (g : Grid) (m a b : ℕ) → place_of g a 0 b + g.size3 * m ≡ place_of g a m b
unfolding place_of
along_second g m a b =
    omega (
      arith,
      ap (λ (z : ℕ). z * g.size3) (add-zero (a * g.size2)),
      add-mul (a * g.size2) m g.size3,
      mul_comm m g.size3,
    )

along_third : (g : Grid) (m a b : ℕ) → place_of g a b 0 + 1 * m ≡ place_of g a b m
unfolding place_of
along_third g m a b = omega (arith, one-mul m)

-- the start of a walk, by the dimension
module _ {g : Grid} (a : Accepted g) {i k p q : ℕ} (e : p ≡ i - 1) (f : q ≡ k - 1) where
  pub first_start : (d : ℕ) → d ≡ 0 → i ≤ size_at g (outer_of d) → k ≤ size_at g (inner_of d) → Inside g 0 p q
      × (place_of g 0 p q ≡ start_of g d i k)
  unfolding size_at outer_of inner_of start_of choose
  first_start zero z h l =
      let h' : i ≤ g.size2 = h in
      let l' : k ≤ g.size3 = l in (
        record {
          accepted = a;
          one = omega (arith, size_low (one a));
          two =
              omega (arith, size_low (two a));
          three = omega (arith, size_low (three a));
        },
        λ t. place_of g 0 (e t) (f t),
      )
  first_start (suc d) z h l = absurd (omega arith)

  pub second_start : (d : ℕ) → d ≡ 1 → i ≤ size_at g (outer_of d) → k ≤ size_at g (inner_of d) → Inside g p 0 q
      × (place_of g p 0 q ≡ start_of g d i k)
  unfolding size_at outer_of inner_of start_of choose
  second_start zero z h l = absurd (omega arith)
  second_start (suc zero) z h l =
      let h' : i ≤ g.size1 = h in
      let l' : k ≤ g.size3 = l in (
        record {
          accepted = a;
          one = omega (arith, size_low (one a));
          two =
              omega (arith, size_low (two a));
          three = omega (arith, size_low (three a));
        },
        λ t. place_of g (e t) 0 (f t),
      )
  second_start (suc (suc d)) z h l = absurd (omega arith)

  pub third_start : (d : ℕ) → (d ≡ 0 → ⊥) → (d ≡ 1 → ⊥) → i ≤ size_at g (outer_of d) → k ≤ size_at g (inner_of d)
      → Inside g p q 0 × (place_of g p q 0 ≡ start_of g d i k)
  unfolding size_at outer_of inner_of start_of choose
  third_start zero n m h l = absurd (n refl)
  third_start (suc zero) n m h l = absurd (m refl)
  third_start (suc (suc d)) n m h l =
      let h' : i ≤ g.size1 = h in
      let l' : k ≤ g.size2 = l in (
        record {
          accepted = a;
          one = omega (arith, size_low (one a));
          two =
              omega (arith, size_low (two a));
          three = omega (arith, size_low (three a));
        },
        λ t. place_of g (e t) (f t) 0,
      )

-- what is read at a place: the record of five numbers
pub record Reads (l : Layout) (w : TableIn l) (p : ℕ) (f : ℕ → ℕ) : Type 0 where
  pub low : p < 2097152
  pub has : HasRecord l w p
  pub exact : {y : Stats} → y ≡ stats_from (view_in l w p) → Exact y f

module _ {l : Layout} {g : Grid} {t w : TableIn l} (can_sum : CanSum l limit Moments g t w) where
  -- below r, gr and b
  at_corner : (r gr b : ℕ) → r ≤ g.size1 → gr ≤ g.size2 → b ≤ g.size3 → 0 < r → 0 < gr → 0 < b
      → {p : ℕ} → p ≡ place_of g (r - 1) (gr - 1) (b - 1) → Reads l w p (bin_sum g (view_in l t) 0 r 0 gr 0 b)
  at_corner r gr b h k m r0 gr0 b0 {p} at =
      let c : Corner l g t w r gr b = record {
        can_sum = can_sum;
        some_one = r0;
        one = h;
        some_two = gr0;
        two = k;
        some_three = b0;
        three = m;
      } in
      let squares = corner_squares c in
      record {
        low = omega (arith, at, place_lt (corner_inside c), bins_high can_sum.table.accepted);
        has = record {
          cell = corner_cell c at;
          squares = omega (arith, corner_number c at 4 (lit< tt));
        };
        exact = λ e.
            record {
              is = e ∙ stats_by (view_in l w p) (bin_sum g (view_in l t) 0 r 0 gr 0 b) (corner_number c at);
              squares = squares;
            };
      }

  -- below n in dimension d, i and k in the two others
  reads : (d n i k : ℕ) → n ≤ size_at g d → i ≤ size_at g (outer_of d) → k ≤ size_at g (inner_of d) → 0 < n → 0 < i
      → 0 < k → Reads l w (start_of g d i k + stride_at g d * (n - 1)) (cross_sum g (view_in l t) d n 0 i 0 k)
  unfolding start_of stride_at size_at outer_of inner_of choose cross_sum
  reads zero n i k N I K n0 i0 k0 = at_corner n i k N I K n0 i0 k0 (along_first g (n - 1) (i - 1) (k - 1))
  reads (suc zero) n i k N I K n0 i0 k0 = at_corner i n k I N K i0 n0 k0 (along_second g (n - 1) (i - 1) (k - 1))
  reads (suc (suc d)) n i k N I K n0 i0 k0 = at_corner i k n I K N i0 k0 n0 (along_third g (n - 1) (i - 1) (k - 1))

  -- the corners of a box
  pub box_reads : {x : Bounds} → Within g x → (d n i k : ℕ) → n ≤ max_at x d → i ≤ max_at x (outer_of d)
      → k ≤ max_at x (inner_of d) → 0 < n → 0 < i → 0 < k
      → Reads l w (start_of g d i k + stride_at g d * (n - 1)) (cross_sum g (view_in l t) d n 0 i 0 k)
  box_reads b d n i k N I K =
      reads d n i k (le_trans N (b.fits d)) (le_trans I (b.fits (outer_of d))) (le_trans K (b.fits (inner_of d)))

-- ---- inclusion and exclusion: first along the inner dimension, then along the outer
-- a run of bins, from those up to its end and up to its start
from : (F : ℕ → ℕ → ℕ → ℕ) → ((s e j : ℕ) → s ≤ e → F 0 e j ≡ F 0 s j + F s (e - s) j) → {s e : ℕ} → s ≤ e
    → {upper lower : Stats} → Exact upper (F 0 e) → Exact lower (F 0 s) → Less upper lower (F s (e - s))
from F split {s} {e} h p q = stats_less (F 0 e) (F 0 s) (F s (e - s)) (λ j. split s e j h) p q.is

module _ {g : Grid} (v : View) {x : Bounds} (b : Within g x) (d n : ℕ) where
  -- the bins up to an end of the outer dimension and of the inner, and those of the box in the inner
  abbrev up_to : ℕ → ℕ → ℕ → ℕ
  up_to i k = cross_sum g v d n 0 i 0 k

  abbrev across : ℕ → ℕ → ℕ → ℕ
  across a m = cross_sum g v d n a m (min_at x (inner_of d)) (max_at x (inner_of d) - min_at x (inner_of d))

  row : (e : ℕ) {upper lower : Stats} → Exact upper (up_to e (max_at x (inner_of d)))
      → Exact lower (up_to e (min_at x (inner_of d))) → Less upper lower (across 0 e)
  row e = from (cross_sum g v d n 0 e) (inner_from g v d n 0 e) (le_of_lt (b.some (inner_of d)))

  -- the four that are read
  module _ {corner left above diagonal : Stats}
      (c : Exact corner (up_to (max_at x (outer_of d)) (max_at x (inner_of d))))
      (l : Exact left (up_to (max_at x (outer_of d)) (min_at x (inner_of d))))
      (a : Exact above (up_to (min_at x (outer_of d)) (max_at x (inner_of d))))
      (k : Exact diagonal (up_to (min_at x (outer_of d)) (min_at x (inner_of d)))) where
    first_row : Less corner left (across 0 (max_at x (outer_of d)))
    first_row = row (max_at x (outer_of d)) c l

    row_above : Less above diagonal (across 0 (min_at x (outer_of d)))
    row_above = row (min_at x (outer_of d)) a k

    rest : Less (minus_stats corner left) (minus_stats above diagonal)
        (across (min_at x (outer_of d)) (max_at x (outer_of d) - min_at x (outer_of d)))
    rest =
        from across (outer_from g v d n (min_at x (inner_of d)) (max_at x (inner_of d) - min_at x (inner_of d)))
        (le_of_lt (b.some (outer_of d))) (first_row.exact refl) (row_above.exact refl)

    pub can_combine : CanCombine corner left above diagonal
    can_combine = record { row = first_row.covers; row_above = row_above.covers; rest = rest.covers }

    pub combined_is : {r : Stats} → r ≡ combined_stats corner left above diagonal → r ≡ stats_of g v (slab_to x d n)
    unfolding combined_stats stats_of
    combined_is q = (rest.exact q).is ∙ (λ t. stats_from (λ j. cross_box g v x d n j t))
