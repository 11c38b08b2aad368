-- Laws of a part of a batch: what equal colours add, that a part can be added after another, and that equal colours can
-- be added at once.
-- Assumes nothing.
use mathlib.Core.Path.{◌≡◌, refl, sym, ap, subst, ◌∙◌}
use mathlib.Core.Bool.{Bool, true, false, ◌&&◌, cond}
use mathlib.Core.List.{List}
use Prim.Native.Nat.{ℕ, zero, suc, ◌+◌, ◌-◌, ◌*◌, ◌/◌, ◌≤◌, ◌<◌}
use native.Mathlib.Nat.{add-zero, add-suc, suc-add, add_assoc, zero-mul, add-mul, mul-one, lt_trans}
use native.Mathlib.Omega.{arith}
use borrow.Author.Tests.{eq-eqb, ltb-true}
use lib.Dec.{eqb, ltb, lit<}
use lib.ListN.{length, get_or}
use Rattle.grid.specs.declared.place.Grid.{Grid}
use Rattle.pixels.specs.declared.colour.Rgb.{Rgb}
use Rattle.basics.specs.Range.{list_from, sum_from}
use Rattle.grid.specs.Grid.{bins_of, colour_place}
use Rattle.pixels.specs.Colour.{colour_at}
use Rattle.pixels.specs.Equal.{equal_colours}
use Rattle.pixels.proofs.EqualColours.{one_colour}
use Rattle.basics.proofs.Range.{and_left, and_right, sum_append, sum_grow, sum_equal, sum_scale}
use Rattle.grid.proofs.Places.{Bytes, colour_place_lt}
use Rattle.table.specs.Cell.{View, number_of, cell_of}
use Rattle.table.specs.Layouts.{Layout}
use Rattle.table.specs.Layout.{TableIn, SizedIn, view_in}
use Rattle.table.specs.Sound.{limit_of}
use Rattle.adder.specs.Batch.{Weighted, share, adds, sum_over, weight_of, loaded, weighted_at, batch_of}
use Rattle.adder.specs.Add.{CellFits}
use Rattle.adder.specs.Inner.{last_equal, scaled_at, part_of, with_part, with_colour, PartFits}
use Rattle.table.proofs.Soundness.{number_below, limit_high}
use Rattle.table.proofs.Layouts.{HoldsIn, cell_in, holds_same_in, holds_itself_in, list_holds_in, add_holds_in}
use Rattle.table.proofs.Layouts.{sound_held_in}
use Rattle.table.proofs.Cells.{number_cell, number_plus}
use Rattle.adder.proofs.Loading.{over_list, AllBytes, load_sound, held_sound, held_total}

-- ---- equal colours
share_none : (x : Rgb) (j : ℕ) → share (record { colour = x; weight = 0 }) j ≡ 0
unfolding share
share_none x zero = refl
share_none x (suc zero) = zero-mul x.c1
share_none x (suc (suc zero)) = zero-mul x.c2
share_none x (suc (suc (suc zero))) = zero-mul x.c3
share_none x (suc (suc (suc (suc j)))) = zero-mul (x.c1 * x.c1 + x.c2 * x.c2 + x.c3 * x.c3)

share_plus : (x : Rgb) (a b j : ℕ)
    → share (record { colour = x; weight = a + b }) j
    ≡ share (record { colour = x; weight = a }) j + share (record { colour = x; weight = b }) j
unfolding share
share_plus x a b zero = refl
share_plus x a b (suc zero) = add-mul a b x.c1
share_plus x a b (suc (suc zero)) = add-mul a b x.c2
share_plus x a b (suc (suc (suc zero))) = add-mul a b x.c3
share_plus x a b (suc (suc (suc (suc j)))) = add-mul a b (x.c1 * x.c1 + x.c2 * x.c2 + x.c3 * x.c3)

module _ (g : Grid) (x : Rgb) (c : ℕ → Weighted) (p j : ℕ) where
  -- x with a weight, where it counts
  here : ℕ → ℕ
  here w = adds g (record { colour = x; weight = w }) p j

  here_none : 0 ≡ here 0
  unfolding here adds
  here_none = go (eqb (colour_place g x) p)
    where
      go : (b : Bool) → 0 ≡ cond b (share (record { colour = x; weight = 0 }) j) 0
      go true = sym (share_none x j)
      go false = refl

  here_plus : (a b : ℕ) → here a + here b ≡ here (a + b)
  unfolding here adds
  here_plus a b = go (eqb (colour_place g x) p)
    where
      go : (t : Bool) → cond t (share (record { colour = x; weight = a }) j) 0
          + cond t (share (record { colour = x; weight = b }) j) 0
          ≡ cond t (share (record { colour = x; weight = a + b }) j) 0
      go true = sym (share_plus x a b j)
      go false = refl

  -- any number of equal colours add what one adds with the sum of their weights
  run_adds : (i n : ℕ) → ((k : ℕ) → k < n → (c (i + k)).colour ≡ x)
      → sum_over (list_from i n c) (λ d. adds g d p j)
      ≡ adds g (record { colour = x; weight = weight_of (list_from i n c) }) p j
  unfolding here list_from sum_over weight_of
  run_adds i zero same = here_none
  run_adds i (suc n) same =
      (λ m. adds g (record { colour = first m; weight = (c i).weight }) p j + run_adds (suc i) n rest m)
      ∙ here_plus (c i).weight (weight_of (list_from (suc i) n c))
    where
      at : {k l : ℕ} → k ≡ l → (c k).colour ≡ (c l).colour
      at e = ap (λ (k : ℕ). (c k).colour) e

      first : (c i).colour ≡ x
      first = at (sym (add-zero i)) ∙ same 0 (omega arith)

      rest : (k : ℕ) → k < n → (c (suc i + k)).colour ≡ x
      rest k h = at (suc-add i k ∙ sym (add-suc i k)) ∙ same (suc k) (omega arith)

-- ---- one part of a run of colours after another
over_part : (i n m : ℕ) (c : ℕ → Weighted) (f : Weighted → ℕ)
    → sum_over (list_from i n c) f + sum_over (list_from (i + n) m c) f ≡ sum_over (list_from i (n + m) c) f
over_part i n m c f =
    (λ k. over_list i n c f k + over_list (i + n) m c f k)
    ∙ sym (sum_append i n m (λ d. f (c d)))
    ∙ sym (over_list i (n + m) c f)

-- more colours loaded into a table that holds what was there with some loaded
held_more : (l : Layout) (g : Grid) (v : View) (s e : TableIn l) (i n m : ℕ) (c : ℕ → Weighted)
    → HoldsIn l (bins_of g) s (loaded g (list_from i n c) v)
    → HoldsIn l (bins_of g) e (loaded g (list_from (i + n) m c) (view_in l s))
    → HoldsIn l (bins_of g) e (loaded g (list_from i (n + m) c) v)
unfolding loaded
held_more l g v s e i n m c first then =
    holds_same_in then
    (λ p j h k.
    ap (λ (x : ℕ). x + sum_over (list_from (i + n) m c) (λ d. adds g d p j)) (first.at p j h k)
    ∙ add_assoc (v p j) (sum_over (list_from i n c) (λ d. adds g d p j))
    (sum_over (list_from (i + n) m c) (λ d. adds g d p j))
    ∙ ap (λ (x : ℕ). v p j + x) (over_part i n m c (λ d. adds g d p j)))

-- ---- the colours of a batch
-- their weight, by whether weights are given
pub part_weight : (scale : ℕ) (colours : List ℕ) (weighted : Bool) (weights : List ℕ) (i n : ℕ)
    → weight_of (part_of scale colours weighted weights i n)
    ≡ scale * cond weighted (sum_from i n (λ k. get_or weights k 0)) n
unfolding weight_of part_of scaled_at
part_weight scale colours weighted weights i n =
    over_list i n (scaled_at scale colours weighted weights) (λ d. d.weight)
    ∙ sum_scale scale i n (λ k. cond weighted (get_or weights k 0) 1)
    ∙ ap (λ (x : ℕ). scale * x) (plain weighted)
  where
    plain : (b : Bool)
        → sum_from i n (λ k. cond b (get_or weights k 0) 1) ≡ cond b (sum_from i n (λ k. get_or weights k 0)) n
    plain true = refl
    plain false = sum_equal i n 1 ∙ mul-one n

pub batch_weight : (colours : List ℕ) (weighted : Bool) (weights : List ℕ)
    → (weighted ≡ true → length weights ≡ length colours / 3)
    → weight_of (batch_of colours weighted weights)
    ≡ cond weighted (sum_from 0 (length weights) (λ i. get_or weights i 0)) (length colours / 3)
unfolding batch_of weight_of weighted_at
batch_weight colours true weights e =
    over_list 0 (length colours / 3) (weighted_at colours true weights) (λ d. d.weight)
    ∙ ap (λ (n : ℕ). sum_from 0 n (λ i. get_or weights i 0)) (sym (e refl))
batch_weight colours false weights e =
    over_list 0 (length colours / 3) (weighted_at colours false weights) (λ d. d.weight)
    ∙ sum_equal 0 (length colours / 3) 1
    ∙ mul-one (length colours / 3)

-- they are of bytes
run_bytes : (i n : ℕ) (c : ℕ → Weighted) → ((k : ℕ) → Bytes (c k).colour) → AllBytes (list_from i n c)
unfolding list_from
run_bytes i zero c b = tt
run_bytes i (suc n) c b = (b i, run_bytes (suc i) n c b)

pub colour_bytes : (colours : List ℕ) → ((k : ℕ) → get_or colours k 0 < 256) → (k : ℕ) → Bytes (colour_at colours k)
unfolding colour_at
colour_bytes colours bytes k = record { one = bytes (3 * k); two = bytes (3 * k + 1); three = bytes (3 * k + 2) }

part_bytes : (scale : ℕ) (colours : List ℕ) (weighted : Bool) (weights : List ℕ)
    → ((k : ℕ) → get_or colours k 0 < 256) → (i n : ℕ)
    → AllBytes (part_of scale colours weighted weights i n)
unfolding part_of scaled_at
part_bytes scale colours weighted weights bytes i n =
    run_bytes i n (scaled_at scale colours weighted weights) (colour_bytes colours bytes)

pub all_bytes_of : (colours : List ℕ) (weighted : Bool) (weights : List ℕ) → ((k : ℕ) → get_or colours k 0 < 256)
    → AllBytes (batch_of colours weighted weights)
unfolding batch_of weighted_at
all_bytes_of colours weighted weights h =
    run_bytes 0 (length colours / 3) (weighted_at colours weighted weights) (colour_bytes colours h)

-- before the first of them
pub held_none : (l : Layout) (g : Grid) (t : TableIn l) (scale : ℕ) (colours : List ℕ) (weighted : Bool)
    (weights : List ℕ) (i : ℕ) → SizedIn l t (bins_of g)
    → HoldsIn l (bins_of g) t (loaded g (part_of scale colours weighted weights i 0) (view_in l t))
unfolding loaded part_of list_from sum_over
held_none l g t scale colours weighted weights i e =
    holds_same_in (holds_itself_in l (bins_of g) t e) (λ p j h k. sym (add-zero (view_in l t p j)))

-- after the first m of n colours that fit, those that follow fit
module _ {l : Layout} {g : Grid} {t : TableIn l} {scale : ℕ} {colours : List ℕ} {weighted : Bool} {weights : List ℕ}
    {i n : ℕ} (fits : PartFits l g t scale colours weighted weights i n) (bytes : (k : ℕ) → get_or colours k 0 < 256)
    {s : TableIn l} (m : ℕ)
    (holds : HoldsIn l (bins_of g) s (loaded g (part_of scale colours weighted weights i m) (view_in l t))) where
  part_within : (r : ℕ) → m + r ≤ n
      → weight_of (part_of scale colours weighted weights i m)
      + weight_of (part_of scale colours weighted weights (i + m) r)
      ≤ weight_of (part_of scale colours weighted weights i n)
  unfolding part_of weight_of
  part_within r h =
      let c = scaled_at scale colours weighted weights in
      omega (
        arith,
        over_part i m r c (λ d. d.weight),
        over_list i (m + r) c (λ d. d.weight),
        over_list i n c (λ d. d.weight),
        sum_grow i (m + r) n (λ k. (c k).weight) h,
      )

  pub fits_later : (at r : ℕ) → at ≡ i + m → m + r ≤ n → PartFits l g s scale colours weighted weights at r
  fits_later at r e h =
      let a = fits.table.accepted in
      let first = part_of scale colours weighted weights i m in
      let b = part_bytes scale colours weighted weights bytes i m in
      let within = part_within r h in
      record {
        scaled = fits.scaled;
        table = record { accepted = a; lent = holds.lent };
        is_sound =
            (held_sound a first b (view_in l t) holds (record { holds = fits.is_sound })
            (omega (arith, fits.under))).holds;
        there = omega (arith, fits.there);
        one_each = fits.one_each;
        under = rw e (omega (arith, held_total a first b (view_in l t) holds, fits.under));
      }

  pub held_later : (at r : ℕ) → at ≡ i + m → {e : TableIn l}
      → HoldsIn l (bins_of g) e (loaded g (part_of scale colours weighted weights at r) (view_in l s))
      → HoldsIn l (bins_of g) e (loaded g (part_of scale colours weighted weights i (m + r)) (view_in l t))
  unfolding part_of
  held_later at r q {e} more =
      held_more l g (view_in l t) s e i m r (scaled_at scale colours weighted weights) holds (rw q at more)

-- a table with colours added holds what was there with them loaded
pub part_held : (l : Layout) (g : Grid) (t : TableIn l) (scale : ℕ) (colours : List ℕ) (weighted : Bool)
    (weights : List ℕ) (i n : ℕ) (e : TableIn l)
    → e ≡ with_part l g t scale colours weighted weights i n
    → HoldsIn l (bins_of g) e (loaded g (part_of scale colours weighted weights i n) (view_in l t))
unfolding with_part
part_held l g t scale colours weighted weights i n e r =
    rw r (list_holds_in l (bins_of g) (loaded g (part_of scale colours weighted weights i n) (view_in l t)))

-- equal colours that fit can be added at once
module _ {l : Layout} {g : Grid} {t : TableIn l} {scale : ℕ} {colours : List ℕ} {weighted : Bool} {weights : List ℕ}
    {i n : ℕ} (fits : PartFits l g t scale colours weighted weights i n) (bytes : (k : ℕ) → get_or colours k 0 < 256)
    (same : (k : ℕ) → k < n → colour_at colours (i + k) ≡ colour_at colours i)
    {x : Rgb} (p : x ≡ colour_at colours i) {w : ℕ}
    (q : w ≡ scale * cond weighted (sum_from i n (λ k. get_or weights k 0)) n) where
  abbrev it : Weighted
  it = record { colour = x; weight = w }

  abbrev these : List Weighted
  these = part_of scale colours weighted weights i n

  abbrev place : ℕ
  place = colour_place g x

  inside : place < bins_of g
  inside = colour_place_lt fits.table.accepted (subst Bytes (sym p) (colour_bytes colours bytes i))

  adds_it : (r j : ℕ) → adds g it r j ≡ sum_over these (λ d. adds g d r j)
  unfolding part_of scaled_at
  adds_it r j =
      (λ m. adds g (record { colour = p m; weight = (q ∙ sym (part_weight scale colours weighted weights i n)) m }) r j)
      ∙ sym (run_adds g (colour_at colours i) (scaled_at scale colours weighted weights) r j i n same)

  pub light : w ≤ limit_of l
  light = omega (arith, q, part_weight scale colours weighted weights i n, fits.under)

  pub has_room_lem : CellFits l t (colour_place g x) (cell_of (share (record { colour = x; weight = w })))
  unfolding adds loaded
  has_room_lem =
      let a = fits.table.accepted in
      let after =
      load_sound a these (part_bytes scale colours weighted weights bytes i n) (record { holds = fits.is_sound })
      fits.under in
      let sums : (j : ℕ) → j < 5
      → number_of (cell_of (view_in l t place)) j + number_of (cell_of (share it)) j ≡ loaded g these (view_in l t) place j =
      λ j k.
      (λ r. number_cell (view_in l t place) j k r + number_cell (share it) j k r)
      ∙ ap (λ (y : ℕ). view_in l t place j + y)
      (ap (λ (b : Bool). cond b (share it j) 0) (sym (eq-eqb place place refl)) ∙ adds_it place j) in
      record {
        cell = cell_in l t (bins_of g) fits.table.lent place inside;
        sums =
            record {
              fits = λ j k. rw (sums j k) (lt_trans (number_below a after place inside (limit_high l) j k) (lit< tt));
            };
        held = sound_held_in l a after place inside _ (λ j k. number_plus _ _ j k ∙ sums j k);
      }

  pub at_once : (e : TableIn l) → e ≡ with_colour l g t (record { colour = x; weight = w })
      → HoldsIn l (bins_of g) e (loaded g (part_of scale colours weighted weights i n) (view_in l t))
  unfolding with_colour adds loaded
  at_once e r =
      rw r
      (holds_same_in (add_holds_in (holds_itself_in l (bins_of g) t fits.table.lent) place
      (cell_of (share it)) inside)
      (λ q j h k. ap (λ (y : ℕ). view_in l t q j + y)
      (ap (λ (y : ℕ). cond (eqb place q) y 0) (number_cell (share it) j k) ∙ adds_it q j)))

-- a colour by itself is one, with its own weight
pub alone : (colours : List ℕ) (i k : ℕ) → k < 1 → colour_at colours (i + k) ≡ colour_at colours i
alone colours i k h = ap (colour_at colours) (there i k h)
  where
    there : (i k : ℕ) → k < 1 → i + k ≡ i
    there i k h = omega arith

pub own_weight : (scale : ℕ) (weighted : Bool) (weights : List ℕ) (i : ℕ)
    → scale * cond weighted (get_or weights i 0) 1 ≡ scale * cond weighted (sum_from i 1 (λ k. get_or weights k 0)) 1
unfolding sum_from
own_weight scale weighted weights i =
    ap (λ (w : ℕ). scale * cond weighted w 1) (sym (add-zero (get_or weights i 0)))

-- ---- the last of 65 equal colours
module _ (colours : List ℕ) (i n : ℕ) where
  pub some_equal : last_equal colours i n ≡ true → 0 < n
  unfolding last_equal
  some_equal e = ltb-true 0 n (and_left (ltb 0 n) (ltb 64 (i + n) && equal_colours colours ((i + n) - 65)) e)

  pub last_same : n ≤ 64 → last_equal colours i n ≡ true
      → (k : ℕ) → k < n → colour_at colours (i + k) ≡ colour_at colours i
  unfolding last_equal
  last_same few e k h =
      let both = and_right (ltb 0 n) (ltb 64 (i + n) && equal_colours colours ((i + n) - 65)) e in
      let far = ltb-true 64 (i + n) (and_left (ltb 64 (i + n)) (equal_colours colours ((i + n) - 65)) both) in
      let equal = and_right (ltb 64 (i + n)) (equal_colours colours ((i + n) - 65)) both in
      let here : (m : ℕ) → m < n → colour_at colours (i + m) ≡ colour_at colours ((i + n) - 65) =
      λ m l.
      ap (colour_at colours) (there m far l) ∙ one_colour colours ((i + n) - 65) equal ((m + 65) - n) (omega arith) in
      here k h ∙ sym (here 0 (omega arith)) ∙ ap (colour_at colours) (add-zero i)
    where
      there : (m : ℕ) → 64 < i + n → m < n → i + m ≡ ((i + n) - 65) + ((m + 65) - n)
      there m f l = omega (arith, few)
