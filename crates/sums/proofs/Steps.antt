-- One bin after the other: the work table before a bin, the cells that its moments are made of, and the work table
-- after it.
-- Assumes nothing.
use mathlib.Core.Path.{◌≡◌, sym, ap, subst, ◌∙◌}
use mathlib.Core.Bool.{true}
use Prim.Native.Nat.{ℕ, suc, ◌+◌, ◌-◌, ◌*◌, ◌^◌, ◌≤◌, ◌<◌}
use native.Mathlib.Nat.{zero-add, mul-le-mul_right, add-mul, one-mul, suc-mul, lt_trans}
use native.Mathlib.Decide.{dec_le, ℕ_discrete}
use native.Mathlib.Omega.{arith}
use lib.Dec.{lit<}
use Rattle.grid.specs.declared.place.Grid.{Grid}
use Rattle.grid.specs.Grid.{Accepted, Inside, bins_of, place_of}
use Rattle.basics.specs.Range.{sum_from}
use Rattle.basics.proofs.Range.{sum_last}
use Rattle.grid.proofs.Size.{size_low}
use Rattle.grid.proofs.Places.{two, three, place_lt, place_along, row_start, plane_start}
use Rattle.table.specs.declared.cell.Cell.{Cell}
use Rattle.table.specs.Cell.{View, number_of, cell_of, plus_cell, minus_cell, SumsFit}
use Rattle.table.specs.Layouts.{Layout}
use Rattle.table.specs.Layout.{TableIn, SizedIn, view_in, written_in, put_in, CellIn, HeldIn, TableOfIn}
use Rattle.table.specs.Sound.{limit, limit_of, total, sound as sound_for}
use Rattle.table.proofs.Cells.{number_cell, number_plus, number_minus, cell_by, zero_cell, zero_cell_lem}
use Rattle.table.proofs.Layouts.{cell_in, cell_of_lem, list_holds_in, holds_list_in, held_in}
use Rattle.table.proofs.Layouts.{put_sized_in, put_there_in, put_elsewhere_in}
use Rattle.table.proofs.Soundness.{Sound, sound_in, total_high}
use Rattle.sums.specs.declared.source.Source.TheVariants.{Moments, Bins}
use Rattle.sums.specs.Moments.{below_sum, moments_of, HasMoments, ForMoments, CanSum}
use Rattle.sums.specs.Inner.{line_sum, moment_cell, line_cell, Before, Ready, joined_cell, CanJoin, with_moment}
use Rattle.sums.proofs.Below.{moments_at, below_none, below_no_row, below_step, below_grows, below_small, below_high}

-- ---- places before a place
earlier : (q' q d b : ℕ) → 0 < d → q' < q → q' * d + b < q * d + b
earlier q' q d b h l = omega (arith, mul-le-mul_right {m = suc q'} {n = q} d l, suc-mul q' d)

rows_earlier : (r' r gr' gr d : ℕ) → 0 < d → r' ≤ r → gr' ≤ gr → r' + gr' < r + gr → r' * d + gr' < r * d + gr
rows_earlier r' r gr' gr d p h k l = go (dec_le r r')
  where
    go : Dec (r ≤ r') → r' * d + gr' < r * d + gr
    go (yes e) = omega (arith, mul-le-mul_right {m = r'} {n = r} d h)
    go (no n) = omega (arith, mul-le-mul_right {m = suc r'} {n = r} d (omega arith), suc-mul r' d)

pub add_one_mul : (k n : ℕ) → (k + 1) * n ≡ k * n + n
add_one_mul k n = add-mul k 1 n ∙ ap (λ (x : ℕ). k * n + x) (one-mul n)

-- ---- the places a row and a plane before
back_mul : (n d : ℕ) → 0 < n → n * d ≡ (n - 1) * d + d
back_mul n d h = ap (λ (k : ℕ). k * d) one_on_back ∙ add_one_mul (n - 1) d
  where
    one_on_back : n ≡ (n - 1) + 1
    one_on_back = omega arith

flat : (g : Grid) (r gr b : ℕ) → place_of g r gr b ≡ r * (g.size2 * g.size3) + gr * g.size3 + b
flat g r gr b = omega (arith, place_along g r gr b, row_start g r gr, plane_start g r)

module _ (g : Grid) (r gr b : ℕ) {p : ℕ} (at : p ≡ place_of g r gr b) where
  pub row_back : 0 < gr → p ≡ place_of g r (gr - 1) b + g.size3
  row_back h = omega (arith, at, flat g r gr b, flat g r (gr - 1) b, back_mul gr g.size3 h)

  pub plane_back : 0 < r → p ≡ place_of g (r - 1) gr b + g.size2 * g.size3
  plane_back h = omega (arith, at, flat g r gr b, flat g (r - 1) gr b, back_mul r (g.size2 * g.size3) h)

  pub both_back : 0 < r → 0 < gr → p ≡ place_of g (r - 1) (gr - 1) b + g.size2 * g.size3 + g.size3
  both_back h k =
      omega (
        arith,
        at,
        flat g r gr b,
        flat g (r - 1) (gr - 1) b,
        back_mul r (g.size2 * g.size3) h,
        back_mul gr g.size3 k,
      )

-- a cell of zeros
zero_number : (j : ℕ) → j < 5 → number_of zero_cell j ≡ 0
zero_number j h = ap (λ (x : Cell). number_of x j) zero_cell_lem ∙ number_cell (λ i. 0) j h

-- a cell has the sums of the bins below r, gr and b + 1
pub record Has (g : Grid) (v : View) (b : ℕ) (c : Cell) (r gr : ℕ) : Type 0 where
  pub at : (j : ℕ) → j < 5 → number_of c j ≡ below_sum g v r gr (b + 1) j

module _ {layout : Layout} {g : Grid} {t w : TableIn layout} {r gr b : ℕ} (ready : Ready layout g t w r gr b) where
  sizes : Accepted g
  sizes = ready.inside.accepted

  sound_so_far : Sound (limit_of layout) g (view_in layout t)
  sound_so_far = record { holds = ready.before.tables.is_sound }

  sound : Sound limit g (view_in layout t)
  sound = sound_in layout sound_so_far

  -- the line through the bin
  pub line_number : {c : Cell} → c ≡ line_cell g (view_in layout t) r gr (b + 1) → (j : ℕ) → j < 5 → number_of c j
      ≡ line_sum g (view_in layout t) r gr (b + 1) j
  unfolding line_cell
  line_number {c} e j h = ap (λ (x : Cell). number_of x j) e ∙ number_cell (line_sum g (view_in layout t) r gr (b + 1)) j h

  goal_number : (j : ℕ) → j < 5 → number_of (moment_cell g (view_in layout t) (place_of g r gr b)) j
      ≡ below_sum g (view_in layout t) (r + 1) (gr + 1) (b + 1) j
  unfolding moment_cell
  goal_number j h =
      number_cell (moments_of g (view_in layout t) (place_of g r gr b)) j h
      ∙ moments_at g (view_in layout t) r gr b j ready.inside.two ready.inside.three

  -- a bin in the rows and planes before
  module _ (r' gr' : ℕ) (h : r' ≤ r) (k : gr' ≤ gr) where
    pub near : Inside g r' gr' b
    near =
        record {
          accepted = sizes;
          one = omega (arith, ready.inside.one);
          two =
              omega (arith, ready.inside.two);
          three = ready.inside.three;
        }

    small : (j : ℕ) → j < 5 → below_sum g (view_in layout t) (r' + 1) (gr' + 1) (b + 1) j < 2 ^ 50
    small j l =
        below_small sizes sound (r' + 1) (gr' + 1) (b + 1) j (omega (arith, ready.inside.one))
        (omega (arith, ready.inside.two)) (omega (arith, ready.inside.three)) l

    module _ {p : ℕ} (at : p ≡ place_of g r' gr' b) where
      pub near_cell : CellIn layout w p
      near_cell = cell_in layout w (bins_of g) ready.before.tables.work p (omega (arith, place_lt near, at))

      pub near_number : r' + gr' < r + gr → {c : Cell} → c ≡ cell_of (view_in layout w p) → (j : ℕ) → j < 5 → number_of c j
          ≡ below_sum g (view_in layout t) (r' + 1) (gr' + 1) (b + 1) j
      unfolding place_of
      near_number l {c} e j m =
          ap (λ (x : Cell). number_of x j) e
          ∙ number_cell (view_in layout w p) j m
          ∙ ap (λ (q : ℕ). view_in layout w q j) at
          ∙ ready.before.made.at (place_of g r' gr' b) j
          (earlier (r' * g.size2 + gr') (r * g.size2 + gr) g.size3 b (omega (arith, size_low (three sizes)))
          (rows_earlier r' r gr' gr g.size2 (omega (arith, size_low (two sizes))) h k l)) m
          ∙ moments_at g (view_in layout t) r' gr' b j near.two near.three

  -- what is written there fits its place
  pub moment_held : {c : Cell} → c ≡ moment_cell g (view_in layout t) (place_of g r gr b) → HeldIn layout c
  moment_held {c} e =
      held_in layout c (total g (view_in layout t)) (total_high sound_so_far)
      (λ j h. rw (e, goal_number j (omega arith))
      (below_high sizes sound_so_far (r + 1) (gr + 1) (b + 1) j (omega (arith, ready.inside.one))
      (omega (arith, ready.inside.two)) (omega (arith, ready.inside.three)) h))
      (λ j h. rw (e, goal_number j h) (lt_trans (small r gr (omega arith) (omega arith) j h) (lit< tt)))

  -- the three neighbours, as the code reads them
  back : (n : ℕ) → 0 < n → (n - 1) + 1 ≡ n
  back n h = omega arith

  pub above_has : 0 < gr → {p : ℕ} → p ≡ place_of g r (gr - 1) b → {c : Cell} → c ≡ cell_of (view_in layout w p)
      → Has g (view_in layout t) b c (r + 1) gr
  above_has h at e =
      record {
        at = λ j k.
            near_number r (gr - 1) (omega arith) (omega arith) at (omega arith) e j k
            ∙ ap (λ (n : ℕ). below_sum g (view_in layout t) (r + 1) n (b + 1) j) (back gr h);
      }

  pub before_has : 0 < r → {p : ℕ} → p ≡ place_of g (r - 1) gr b → {c : Cell} → c ≡ cell_of (view_in layout w p)
      → Has g (view_in layout t) b c r (gr + 1)
  before_has h at e =
      record {
        at = λ j k.
            near_number (r - 1) gr (omega arith) (omega arith) at (omega arith) e j k
            ∙ ap (λ (n : ℕ). below_sum g (view_in layout t) n (gr + 1) (b + 1) j) (back r h);
      }

  pub corner_has : 0 < r → 0 < gr → {p : ℕ} → p ≡ place_of g (r - 1) (gr - 1) b → {c : Cell} → c
      ≡ cell_of (view_in layout w p) → Has g (view_in layout t) b c r gr
  corner_has h l at e =
      record {
        at = λ j k.
            near_number (r - 1) (gr - 1) (omega arith) (omega arith) at (omega arith) e j k
            ∙ (λ i. below_sum g (view_in layout t) (back r h i) (back gr l i) (b + 1) j);
      }

  -- zeros where there is no plane before, or no row above
  pub no_plane : r ≡ 0 → (gr' : ℕ) → Has g (view_in layout t) b zero_cell r gr'
  no_plane e gr' = record { at = λ j k. zero_number j k ∙ sym (rw e (below_none g (view_in layout t) gr' (b + 1) j)) }

  pub no_row : gr ≡ 0 → (r' : ℕ) → Has g (view_in layout t) b zero_cell r' gr
  no_row e r' = record { at = λ j k. zero_number j k ∙ sym (rw e (below_no_row g (view_in layout t) r' (b + 1) j)) }

  -- the line and the three neighbours make the moments at the bin, and fit
  module _ {l : Cell} (e : l ≡ line_cell g (view_in layout t) r gr (b + 1))
      {above : Cell} (ha : Has g (view_in layout t) b above (r + 1) gr)
      {before : Cell} (hb : Has g (view_in layout t) b before r (gr + 1))
      {corner : Cell} (hc : Has g (view_in layout t) b corner r gr) where
    -- the rule of inclusion and exclusion, for number j
    record Rule (j : ℕ) : Type 0 where
      step : number_of l j + number_of above j + (number_of before j - number_of corner j)
          ≡ below_sum g (view_in layout t) (r + 1) (gr + 1) (b + 1) j
      least : number_of corner j ≤ number_of before j

    rule : (j : ℕ) → j < 5 → Rule j
    rule j h =
        let row = below_grows g (view_in layout t) r gr (b + 1) j in
        record {
          step = omega (
            arith,
            below_step g (view_in layout t) r gr (b + 1) j,
            row,
            line_number e j h,
            ha.at j h,
            hb.at j h,
            hc.at j h,
          );
          least = omega (arith, row, hb.at j h, hc.at j h);
        }

    pub can_join : CanJoin l above before corner
    can_join =
        record {
          least = record { least = λ j h. (rule j h).least };
          fits = λ j h. omega (arith, (rule j h).step, small r gr (omega arith) (omega arith) j h);
        }

    pub joined_is : {y : Cell} → y ≡ joined_cell l above before corner → y ≡ moment_cell g (view_in layout t) (place_of g r gr b)
    unfolding joined_cell
    joined_is {y} q =
        cell_by y (moment_cell g (view_in layout t) (place_of g r gr b))
        (λ j h.
        ap (λ (x : Cell). number_of x j) q
        ∙ number_plus (plus_cell l above) (minus_cell before corner) j h
        ∙ (λ i. number_plus l above j h i + number_minus before corner j h i)
        ∙ (rule j h).step
        ∙ sym (goal_number j h))

  -- ---- the line, one bin on
  line_small : (j : ℕ) → j < 5 → line_sum g (view_in layout t) r gr (b + 1) j < 2 ^ 50
  line_small j h =
      omega (
        arith,
        below_step g (view_in layout t) r gr (b + 1) j,
        below_grows g (view_in layout t) r gr (b + 1) j,
        small r gr
            (omega arith) (omega arith) j h,
      )

  line_next : (j : ℕ) → line_sum g (view_in layout t) r gr (b + 1) j
      ≡ line_sum g (view_in layout t) r gr b j + view_in layout t (place_of g r gr b) j
  unfolding line_sum
  line_next j =
      sum_last 0 b (λ z. view_in layout t (place_of g r gr z) j)
      ∙ ap (λ (z : ℕ). sum_from 0 b (λ y. view_in layout t (place_of g r gr y) j) + view_in layout t (place_of g r gr z) j) (zero-add b)

  module _ {l : Cell} (e : l ≡ line_cell g (view_in layout t) r gr b) {p : ℕ} (at : p ≡ place_of g r gr b) {c : Cell}
      (q : c ≡ cell_of (view_in layout t p)) where
    parts : (j : ℕ) → j < 5 → number_of l j + number_of c j ≡ line_sum g (view_in layout t) r gr (b + 1) j
    unfolding line_cell
    parts j h =
        (λ i.
        (ap (λ (x : Cell). number_of x j) e ∙ number_cell (line_sum g (view_in layout t) r gr b) j h) i
        + (ap (λ (x : Cell). number_of x j) q ∙ number_cell (view_in layout t p) j h ∙ ap (λ (n : ℕ). view_in layout t n j) at) i)
        ∙ sym (line_next j)

    pub line_room_lem : SumsFit l c
    line_room_lem = record { fits = λ j h. omega (arith, parts j h, line_small j h) }

    pub line_through : {s : Cell} → s ≡ plus_cell l c → s ≡ line_cell g (view_in layout t) r gr (b + 1)
    unfolding line_cell
    line_through {s} u =
        cell_by s (line_cell g (view_in layout t) r gr (b + 1))
        (λ j h.
        ap (λ (x : Cell). number_of x j) u
        ∙ number_plus l c j h
        ∙ parts j h
        ∙ sym (number_cell (line_sum g (view_in layout t) r gr (b + 1)) j h))

  pub table_cell : {p : ℕ} → p ≡ place_of g r gr b → CellIn layout t p
  table_cell {p} at = cell_of_lem ready.before.tables.table p (omega (arith, place_lt ready.inside, at))

  -- ---- the work table, one bin on
  pub one_on : {e : TableIn layout} → e ≡ with_moment layout g (view_in layout t) w (place_of g r gr b)
      → Before layout g t e (place_of g r gr b + 1)
  unfolding moment_cell
  one_on {e} u =
      record {
        tables = record {
          table = ready.before.tables.table;
          is_sound = ready.before.tables.is_sound;
          work =
              subst (λ (x : TableIn layout). SizedIn layout x (bins_of g)) (sym u)
              (put_sized_in layout w (bins_of g) ready.before.tables.work (place_of g r gr b) cell);
        };
        made =
            record {
              at =
                  λ q j h k. ap (λ (x : TableIn layout). view_in layout x q j) u ∙ go q j h k (ℕ_discrete (place_of g r gr b) q);
            };
      }
    where
      cell : Cell
      cell = moment_cell g (view_in layout t) (place_of g r gr b)

      has : CellIn layout w (place_of g r gr b)
      has = cell_in layout w (bins_of g) ready.before.tables.work (place_of g r gr b) (place_lt ready.inside)

      go : (q j : ℕ) → q < place_of g r gr b + 1 → j < 5 → Dec (place_of g r gr b ≡ q)
          → view_in layout (put_in layout w (place_of g r gr b) (moment_cell g (view_in layout t) (place_of g r gr b))) q j
          ≡ moments_of g (view_in layout t) q j
      go q j h k (yes d) =
          ap (λ (n : ℕ). view_in layout (put_in layout w (place_of g r gr b) (moment_cell g (view_in layout t) (place_of g r gr b))) n j) (sym d)
          ∙ put_there_in layout w (place_of g r gr b) (moment_cell g (view_in layout t) (place_of g r gr b)) has j k
          ∙ number_cell (moments_of g (view_in layout t) (place_of g r gr b)) j k
          ∙ ap (λ (n : ℕ). moments_of g (view_in layout t) n j) d
      go q j h k (no d) =
          put_elsewhere_in layout w (place_of g r gr b) (moment_cell g (view_in layout t) (place_of g r gr b)) has q j k d
          ∙ ready.before.made.at q j (omega arith) k

-- ---- rows and planes of bins
pub line_start : (g : Grid) (v : View) (r gr : ℕ) → zero_cell ≡ line_cell g v r gr 0
unfolding line_cell line_sum sum_from
line_start g v r gr = zero_cell_lem

pub before_same : {l : Layout} {g : Grid} {t w : TableIn l} {p : ℕ} → Before l g t w p → {q : ℕ} → p ≡ q → Before l g t w q
before_same {l} {g} {t} {w} h e = subst (λ (n : ℕ). Before l g t w n) e h

-- the next bin of a row
pub row_ready : {l : Layout} {g : Grid} {t w : TableIn l} {r gr b : ℕ} → Inside g r gr b → Before l g t w (place_of g r gr 0 + b)
    → Ready l g t w r gr b
row_ready {g = g} {r = r} {gr} {b} i h = record { inside = i; before = before_same h (place_along g r gr b) }

-- nothing is made yet, and all is made
pub none_made : {l : Layout} {g : Grid} {t w : TableIn l} → ForMoments l g t w → Before l g t w 0
none_made f = record { tables = f; made = record { at = λ q j h k. absurd (omega arith) } }

pub all_made : {l : Layout} {g : Grid} {t w : TableIn l} → Before l g t w (bins_of g)
    → w ≡ written_in l (bins_of g) (moments_of g (view_in l t))
all_made {l} b = holds_list_in l (record { lent = b.tables.work; at = b.made.at })

-- a work table that the moments were written into holds them
pub holds_moments : (l : Layout) (g : Grid) (v : View) (w : TableIn l) → w ≡ written_in l (bins_of g) (moments_of g v)
    → HasMoments g v (view_in l w)
holds_moments l g v w e = record { at = rw e (list_holds_in l (bins_of g) (moments_of g v)).at }

-- boxes can be summed from it, and from the bins of any sound table
pub can_from_moments : {most : ℕ} {l : Layout} {g : Grid} {t w : TableIn l} → TableOfIn l g t → sound_for most g (view_in l t) ≡ true
    → w ≡ written_in l (bins_of g) (moments_of g (view_in l t)) → CanSum l most Moments g t w
can_from_moments {most} {l} {g} {t} {w} h s e =
    record {
      table = h;
      is_sound = s;
      provided =
          record {
            work = subst (λ (x : TableIn l). SizedIn l x (bins_of g)) (sym e)
                (list_holds_in l (bins_of g) (moments_of g (view_in l t))).lent;
            has_moments = holds_moments l g (view_in l t) w e;
          };
    }

pub can_from_bins : {most : ℕ} {l : Layout} {g : Grid} {t w : TableIn l} → TableOfIn l g t → sound_for most g (view_in l t) ≡ true
    → CanSum l most Bins g t w
can_from_bins h s = record { table = h; is_sound = s; provided = tt }
