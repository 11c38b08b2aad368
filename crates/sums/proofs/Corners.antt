-- A box's sum from the moments, by inclusion and exclusion.
-- Assumes nothing.
use mathlib.Core.Path.{◌≡◌, sym, ap, ◌∙◌}
use Prim.Native.Nat.{ℕ, ◌+◌, ◌-◌, ◌^◌, ◌≤◌, ◌<◌}
use native.Mathlib.Nat.{le_refl, le_of_lt, le_trans}
use native.Mathlib.Omega.{arith}
use lib.Dec.{lit<}
use Rattle.grid.specs.declared.place.Grid.{Grid}
use Rattle.grid.specs.Grid.{Inside, bins_of, place_of}
use Rattle.grid.proofs.Places.{place_lt, bins_high, row_start, plane_start, place_along}
use Rattle.table.specs.declared.cell.Cell.{Cell}
use Rattle.table.specs.Cell.{View, cell_of, number_of, minus_cell, AtLeast}
use Rattle.table.specs.Layouts.{Layout}
use Rattle.table.specs.Layout.{TableIn, view_in, CellIn}
use Rattle.table.specs.Sound.{limit}
use Rattle.table.proofs.Layouts.{cell_in}
use Rattle.table.proofs.Cells.{number_cell, cell_by, Fields, cell_fields, minus_least, minus_is, zero_cell, zeros_cell}
use Rattle.table.proofs.Soundness.{Sound}
use Rattle.boxes.specs.declared.sides.Bounds.{Bounds}
use Rattle.boxes.specs.Box.{Within}
use Rattle.boxes.proofs.Within.{sides}
use Rattle.sums.specs.declared.box_sums.Stats.{Stats}
use Rattle.sums.specs.declared.source.Source.TheVariants.{Moments}
use Rattle.bins.specs.Sum.{bin_sum}
use Rattle.sums.specs.Box.{stats_from}
use Rattle.sums.specs.Moments.{below_sum, CanSum}
use Rattle.sums.specs.Inner.{bin_cell, Corner}
use Rattle.sums.proofs.Below.{moments_at, below_small}

-- the cell of a run of bins, from those up to its end and up to its start
module _ (F : ℕ → ℕ → ℕ → ℕ) (split : (s e j : ℕ) → s ≤ e → F 0 e j ≡ F 0 s j + F s (e - s) j) {s e : ℕ}
    (h : s ≤ e) {upper : Cell} (p : upper ≡ cell_of (F 0 e)) where
  pub from_least : {lower : Cell} → lower ≡ cell_of (F 0 s) → AtLeast upper lower
  from_least q = minus_least (F 0 e) (F 0 s) (F s (e - s)) (λ j. split s e j h) p q

  pub from_is : {lower : Cell} → lower ≡ cell_of (F 0 s) → {x : Cell} → x ≡ minus_cell upper lower → x
      ≡ cell_of (F s (e - s))
  from_is q r = minus_is (F 0 e) (F 0 s) (F s (e - s)) (λ j. split s e j h) p q r

  pub from_start : s ≡ 0 → upper ≡ cell_of (F s (e - s))
  from_start z = p ∙ (λ i. cell_of (F (sym z i) (same i)))
    where
      same : e ≡ e - s
      same = omega arith

-- zeros where there are no bins
pub zeros_are : (g : Grid) (v : View) (a n b m c k : ℕ) → ((j : ℕ) → bin_sum g v a n b m c k j ≡ 0)
    → zero_cell ≡ bin_cell g v a n b m c k
unfolding bin_cell
zeros_are g v a n b m c k e = zeros_cell (bin_sum g v a n b m c k) e

-- the work table at a corner
module _ {l : Layout} {g : Grid} {t w : TableIn l} {r gr b : ℕ} (c : Corner l g t w r gr b) where
  before : (n : ℕ) → 0 < n → (n - 1) + 1 ≡ n
  before n h = omega arith

  pub corner_inside : Inside g (r - 1) (gr - 1) (b - 1)
  corner_inside =
      record {
        accepted = c.can_sum.table.accepted;
        one = omega (arith, c.some_one, c.one);
        two = omega (arith, c.some_two, c.two);
        three = omega (arith, c.some_three, c.three);
      }

  pub corner_cell : {p : ℕ} → p ≡ place_of g (r - 1) (gr - 1) (b - 1) → CellIn l w p
  corner_cell {p} at = cell_in l w (bins_of g) c.can_sum.provided.work p (omega (arith, place_lt corner_inside, at))

  pub corner_number : {p : ℕ} → p ≡ place_of g (r - 1) (gr - 1) (b - 1) → (j : ℕ) → j < 5 → view_in l w p j
      ≡ bin_sum g (view_in l t) 0 r 0 gr 0 b j
  unfolding below_sum
  corner_number at j m =
      ap (λ (n : ℕ). view_in l w n j) at
      ∙ c.can_sum.provided.has_moments.at (place_of g (r - 1) (gr - 1) (b - 1)) j (place_lt corner_inside) m
      ∙ moments_at g (view_in l t) (r - 1) (gr - 1) (b - 1) j corner_inside.two corner_inside.three
      ∙ (λ i. bin_sum g (view_in l t) 0 (before r c.some_one i) 0 (before gr c.some_two i) 0
      (before b c.some_three i) j)

  pub corner_is : {p : ℕ} → p ≡ place_of g (r - 1) (gr - 1) (b - 1) → {x : Cell} → x ≡ cell_of (view_in l w p) → x
      ≡ bin_cell g (view_in l t) 0 r 0 gr 0 b
  unfolding bin_cell
  corner_is {p} at {x} e =
      cell_by x (bin_cell g (view_in l t) 0 r 0 gr 0 b)
      (λ j m.
      ap (λ (y : Cell). number_of y j) e
      ∙ number_cell (view_in l w p) j m
      ∙ corner_number at j m
      ∙ sym (number_cell (bin_sum g (view_in l t) 0 r 0 gr 0 b) j m))

  pub corner_squares : bin_sum g (view_in l t) 0 r 0 gr 0 b 4 ≤ 2 ^ 53
  unfolding below_sum
  corner_squares =
      let h = c.can_sum in
      let s : Sound limit g (view_in l t) = record { holds = h.is_sound } in
      omega (arith, below_small h.table.accepted s r gr b 4 c.one c.two c.three (lit< tt))

  -- the starts of the plane and of the row that the last bin before the corner stands in
  pub plane_inside : Inside g (r - 1) 0 0
  plane_inside =
      let i = corner_inside in
      record { accepted = i.accepted; one = i.one; two = omega (arith, i.two); three = omega (arith, i.three) }

  pub row_inside : Inside g 0 (gr - 1) 0
  row_inside =
      let i = corner_inside in
      record { accepted = i.accepted; one = omega (arith, i.one); two = i.two; three = omega (arith, i.three) }

  -- the row's start, from the plane's and from that of the row in the first plane
  module _ {plane row : ℕ} (at : plane ≡ place_of g (r - 1) 0 0) (along : row ≡ place_of g 0 (gr - 1) 0) where
    pub row_is : plane + row ≡ place_of g (r - 1) (gr - 1) 0
    row_is = omega (arith, at, along, row_start g (r - 1) (gr - 1), row_start g 0 (gr - 1), plane_start g 0)

    pub row_fits : plane + row < 2 ^ 64
    row_fits =
        omega (arith, at, along, place_lt plane_inside, place_lt row_inside, bins_high c.can_sum.table.accepted)

  -- the bin's place, from the row's start
  module _ {row : ℕ} (at : row ≡ place_of g (r - 1) (gr - 1) 0) where
    pub bin_is : row + (b - 1) ≡ place_of g (r - 1) (gr - 1) (b - 1)
    bin_is = omega (arith, at, place_along g (r - 1) (gr - 1) (b - 1))

    pub bin_fits : row + (b - 1) < 2 ^ 64
    bin_fits = omega (arith, bin_is, place_lt corner_inside, bins_high c.can_sum.table.accepted)

  -- corners with fewer planes, fewer rows or fewer bins in a row
  fewer : {n m k : ℕ} → n ≤ r → m ≤ gr → k ≤ b → 0 < n → 0 < m → 0 < k → Corner l g t w n m k
  fewer h i j some_one some_two some_three =
      record {
        can_sum = c.can_sum;
        some_one = some_one;
        one = le_trans h c.one;
        some_two = some_two;
        two = le_trans i c.two;
        some_three = some_three;
        three = le_trans j c.three;
      }

  fewer_planes : {n : ℕ} → n ≤ r → 0 < n → Corner l g t w n gr b
  fewer_planes h some = fewer h (le_refl _) (le_refl _) some c.some_two c.some_three

  pub fewer_rows : {n : ℕ} → n ≤ gr → 0 < n → Corner l g t w r n b
  fewer_rows h some = fewer (le_refl _) h (le_refl _) c.some_one some c.some_three

  pub fewer_bins : {n : ℕ} → n ≤ b → 0 < n → Corner l g t w r gr n
  fewer_bins h some = fewer (le_refl _) (le_refl _) h c.some_one c.some_two some

-- the corners that a box ends at, and that its first plane starts at
module _ {l : Layout} {g : Grid} {t w : TableIn l} {x : Bounds} (h : CanSum l limit Moments g t w) (i : Within g x) where
  pub box_end : Corner l g t w x.r1 x.g1 x.b1
  box_end =
      let e = sides i in
      record {
        can_sum = h;
        some_one = omega (arith, e.one);
        one = e.one_fits;
        some_two = omega (arith, e.two);
        two = e.two_fits;
        some_three = omega (arith, e.three);
        three = e.three_fits;
      }

  pub box_start : 0 < x.r0 → Corner l g t w x.r0 x.g1 x.b1
  box_start some = fewer_planes box_end (le_of_lt (sides i).one) some

-- ---- statistics of five numbers
pub stats_by : (f h : ℕ → ℕ) → ((j : ℕ) → j < 5 → f j ≡ h j) → stats_from f ≡ stats_from h
stats_by f h e =
    cc (e 0 (lit< tt), e 1 (lit< tt), e 2 (lit< tt), e 3 (lit< tt), e 4 (lit< tt))

pub cell_numbers : (c : Cell) → Fields (number_of c) c
cell_numbers c = cell_fields (number_of c) (cell_by c (cell_of (number_of c)) (λ j h. sym (number_cell (number_of c) j h)))

-- those of a cell
module _ (f : ℕ → ℕ) {c : Cell} (e : c ≡ cell_of f) where
  pub cell_squares : f 4 ≤ 2 ^ 53 → c.squares ≤ 2 ^ 53
  cell_squares h = omega (arith, (cell_fields f e).squares)

  pub cell_stats : {s : Stats} → s ≡ stats_from (number_of c) → s ≡ stats_from f
  cell_stats q = q ∙ stats_by (number_of c) f (λ j h. ap (λ (y : Cell). number_of y j) e ∙ number_cell f j h)
