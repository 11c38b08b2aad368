-- Palette, counts and remainders: the mean of a component, the statistics of a box, and what stands where after all boxes.
-- Assumes nothing.
use mathlib.Core.Path.{◌≡◌, refl, sym, ap, ◌∙◌}
use mathlib.Core.List.{List, [], ◌∷◌}
use Prim.Native.Nat.{ℕ, zero, suc, ◌+◌, ◌*◌, ◌≤◌, ◌<◌}
use native.Mathlib.Nat.{add-zero, div-add-mod', mod-lt, div-lt_iff_lt-mul, one-mul}
use native.Mathlib.Omega.{arith}
use borrow.Author.Tests.{le-ltb}
use lib.ListN.{length, get_or, set}
use Rattle.grid.specs.declared.place.Grid.{Grid}
use Rattle.pixels.specs.declared.colour.Rgb.{Rgb}
use Rattle.pixels.specs.Colour.{colour_at}
use Rattle.table.specs.Cell.{View}
use Rattle.table.specs.Sound.{limit}
use Rattle.table.proofs.Soundness.{Sound}
use Rattle.boxes.specs.declared.sides.Bounds.{Bounds}
use Rattle.sums.specs.declared.box_sums.Stats.{Stats}
use Rattle.bins.specs.Sum.{box_sum}
use Rattle.sums.specs.Box.{stats_of}
use Rattle.bins.proofs.Laws.{box_sums_high, box_weight_high}
use Rattle.cutter.specs.Fronts.{filled, put_from}
use Rattle.cutter.specs.Palette.{mean_of, colour_of, count_of, remainder_of, bytes_of, its_colour, its_count, its_remainders}
use Rattle.cutter.specs.Palette.{colours_of, palette_later, counts_later, remainders_later, front_of}
use Rattle.cutter.specs.Inner.{stats_colour, stats_remainders, with_colour_at, with_three_at, Coloured}
use Rattle.cutter.specs.Inner.{Occupied}
use Rattle.cutter.proofs.Fronts.{length_filled, filled_at, filled_past, filled_front}

-- ---- the mean
-- quotient·n + remainder is the sum, and the remainder is below n
pub mean_whole : (sum n : ℕ) → (mean_of sum n).quotient * n + (mean_of sum n).remainder ≡ sum
unfolding mean_of
mean_whole sum n = div-add-mod' sum n

pub mean_left : (sum n : ℕ) → 0 < n → (mean_of sum n).remainder < n
unfolding mean_of
mean_left sum n h = mod-lt sum h

pub mean_byte : (sum n : ℕ) → 0 < n → sum ≤ 255 * n → (mean_of sum n).quotient < 256
unfolding mean_of
mean_byte sum n h l = (div-lt_iff_lt-mul {k = n} {x = sum} {y = 256} h).1 (omega arith)

-- ---- the statistics of a box
pub stats_colour_lem : (g : Grid) (v : View) (x : Bounds) {s : Stats} → s ≡ stats_of g v x → stats_colour s ≡ colour_of g v x
unfolding stats_colour stats_of colour_of
stats_colour_lem g v x e = ap stats_colour e

pub stats_remainders_lem : (g : Grid) (v : View) (x : Bounds) {s : Stats} → s ≡ stats_of g v x
    → stats_remainders s ≡ its_remainders g v x
unfolding stats_remainders stats_of its_remainders remainder_of
stats_remainders_lem g v x e = ap stats_remainders e

pub stats_count : (g : Grid) (v : View) (x : Bounds) {s : Stats} → s ≡ stats_of g v x → s.weight ≡ count_of g v x
unfolding stats_of count_of
stats_count g v x e = ap (λ (s : Stats). s.weight) e

-- those of an occupied box of a sound table give a colour and a count
module _ {g : Grid} {v : View} (sound : Sound limit g v) {x : Bounds} (o : Occupied g v x) {s : Stats}
    (e : s ≡ stats_of g v x) where
  pub stats_coloured : Coloured s
  unfolding stats_of
  stats_coloured =
      rw e
      (record {
        some = o.some;
        fits = box_weight_high sound o.within;
        one = box_sums_high sound o.within 0 (omega arith);
        two = box_sums_high sound o.within 1 (omega arith);
        three = box_sums_high sound o.within 2 (omega arith);
      })

-- three numbers one after the other are three stores
pub three_numbers : (old : List ℕ) (i a b c : ℕ)
    → with_three_at old i (a ∷ b ∷ c ∷ []) ≡ set (set (set old (3 * i) a) (3 * i + 1) b) (3 * i + 2) c
unfolding with_three_at put_from
three_numbers old i a b c = ap (λ (n : ℕ). set (set (set old (3 * i) a) (3 * i + 1) b) n c) (last (3 * i))
  where
    last : (n : ℕ) → n + 1 + 1 ≡ n + 2
    last n = omega arith

-- the three bytes of a colour are so
pub three_bytes : (old : List ℕ) (i : ℕ) (c : Rgb)
    → with_colour_at old i c ≡ set (set (set old (3 * i) c.c1) (3 * i + 1) c.c2) (3 * i + 2) c.c3
unfolding with_colour_at with_three_at bytes_of
three_bytes old i c = three_numbers old i c.c1 c.c2 c.c3

-- ---- all boxes
module _ (g : Grid) (v : View) where
  pub three : (x : Bounds) → length (its_colour g v x) ≡ 3
  unfolding its_colour bytes_of
  three x = refl

  pub one : (x : Bounds) → length (its_count g v x) ≡ 1
  unfolding its_count
  one x = refl

  pub three_left : (x : Bounds) → length (its_remainders g v x) ≡ 3
  unfolding its_remainders
  three_left x = refl

  -- the filled front is the colours of the boxes
  pub front_filled : (xs : List Bounds) (old : List ℕ) → 3 * length xs ≤ length old
      → front_of (palette_later g v xs old) (length xs) ≡ colours_of g v xs
  unfolding front_of palette_later colours_of
  front_filled xs old h =
      rw (le-ltb (length (filled 3 (its_colour g v) xs old)) (3 * length xs)
      (omega (arith, length_filled 3 (its_colour g v) three xs old h)))
      (filled_front 3 (its_colour g v) three xs old)

  -- colour i of the palette is that of box i
  pub palette_at : (xs : List Bounds) (old : List ℕ) (i : ℕ) (none : Bounds) → i < length xs
      → colour_at (palette_later g v xs old) i ≡ colour_of g v (get_or xs i none)
  unfolding colour_at palette_later its_colour bytes_of
  palette_at xs old i none h =
      let palette = filled 3 (its_colour g v) xs old in
      let at : (j : ℕ) → j < 3 → get_or palette (3 * i + j) 0 ≡ get_or (its_colour g v (get_or xs i none)) j 0 =
      λ j l. filled_at 3 (its_colour g v) three xs old i j none 0 h l in
      λ k.
      record {
        c1 = (ap (λ (n : ℕ). get_or palette n 0) (sym (add-zero (3 * i))) ∙ at 0 (omega arith)) k;
        c2 = at 1 (omega arith) k;
        c3 = at 2 (omega arith) k;
      }

  -- count i is that of box i
  pub counts_at : (xs : List Bounds) (old : List ℕ) (i : ℕ) (none : Bounds) → i < length xs
      → get_or (counts_later g v xs old) i 0 ≡ count_of g v (get_or xs i none)
  unfolding counts_later its_count
  counts_at xs old i none h =
      ap (λ (n : ℕ). get_or (filled 1 (its_count g v) xs old) n 0) (sym (add-zero (1 * i) ∙ one-mul i))
      ∙ filled_at 1 (its_count g v) one xs old i 0 none 0 h (omega arith)

  -- and byte by byte
  pub palette_byte : (xs : List Bounds) (old : List ℕ) (i j : ℕ) (none : Bounds) → i < length xs → j < 3
      → get_or (palette_later g v xs old) (3 * i + j) 0 ≡ get_or (its_colour g v (get_or xs i none)) j 0
  unfolding palette_later
  palette_byte xs old i j none h l = filled_at 3 (its_colour g v) three xs old i j none 0 h l

  -- the remainders from 3·i on are those of box i
  pub remainders_at : (xs : List Bounds) (old : List ℕ) (i j : ℕ) (none : Bounds) → i < length xs → j < 3
      → get_or (remainders_later g v xs old) (3 * i + j) 0 ≡ get_or (its_remainders g v (get_or xs i none)) j 0
  unfolding remainders_later
  remainders_at xs old i j none h l = filled_at 3 (its_remainders g v) three_left xs old i j none 0 h l

  -- "Places past the filled front of palette, counts and remainders stay"
  pub palette_past : (xs : List Bounds) (old : List ℕ) (k : ℕ)
      → get_or (palette_later g v xs old) (3 * length xs + k) 0 ≡ get_or old (3 * length xs + k) 0
  unfolding palette_later
  palette_past xs old k = filled_past 3 (its_colour g v) three xs old k 0

  pub counts_past : (xs : List Bounds) (old : List ℕ) (k : ℕ)
      → get_or (counts_later g v xs old) (length xs + k) 0 ≡ get_or old (length xs + k) 0
  unfolding counts_later
  counts_past xs old k = rw (← (one-mul (length xs))) (filled_past 1 (its_count g v) one xs old k 0)

  pub remainders_past : (xs : List Bounds) (old : List ℕ) (k : ℕ)
      → get_or (remainders_later g v xs old) (3 * length xs + k) 0 ≡ get_or old (3 * length xs + k) 0
  unfolding remainders_later
  remainders_past xs old k = filled_past 3 (its_remainders g v) three_left xs old k 0

-- ---- colour, count and remainders of a box give its sums back
module _ (g : Grid) (v : View) (x : Bounds) where
  -- component d of a colour and of the remainders, from 0 on
  component : (d : ℕ) → d < 3
      → (get_or (its_colour g v x) d 0 ≡ (mean_of (box_sum g v x (suc d)) (box_sum g v x 0)).quotient)
      × (get_or (its_remainders g v x) d 0 ≡ (mean_of (box_sum g v x (suc d)) (box_sum g v x 0)).remainder)
  unfolding its_colour bytes_of colour_of its_remainders remainder_of
  component zero h = (refl, refl)
  component (suc zero) h = (refl, refl)
  component (suc (suc zero)) h = (refl, refl)
  component (suc (suc (suc d))) h = absurd (omega arith)

  pub component_whole : (d : ℕ) → d < 3
      → get_or (its_colour g v x) d 0 * count_of g v x + get_or (its_remainders g v x) d 0 ≡ box_sum g v x (suc d)
  unfolding count_of
  component_whole d h =
      let e = component d h in
      (λ i. e.0 i * box_sum g v x 0 + e.1 i) ∙ mean_whole (box_sum g v x (suc d)) (box_sum g v x 0)

  pub component_left : (d : ℕ) → d < 3 → 0 < box_sum g v x 0 → get_or (its_remainders g v x) d 0 < count_of g v x
  unfolding count_of
  component_left d h some = rw (component d h).1 (mean_left (box_sum g v x (suc d)) (box_sum g v x 0) some)
