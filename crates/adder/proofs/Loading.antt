-- Laws of loading: what a list of colours adds, that it keeps a table sound, and that its order does not matter.
-- Assumes nothing.
use mathlib.Core.Path.{◌≡◌, refl, sym, ap, ◌∙◌}
use mathlib.Core.Bool.{cond}
use mathlib.Core.List.{List, [], ◌∷◌, ◌++◌, Permᴰ, Perm}
use mathlib.Core.HLevel.{hedberg}
use Prim.Native.Nat.{ℕ, zero, suc, ◌+◌, ◌*◌, ◌≤◌, ◌<◌}
use native.Mathlib.Nat.{zero-add, add_assoc, add_left_comm, mul-le-mul, mul-le-mul_left}
use native.Mathlib.Decide.{ℕ_discrete}
use native.Mathlib.Omega.{arith}
use borrow.Author.Tests.{eq-eqb, ne_eqb}
use lib.Dec.{eqb}
use Rattle.grid.specs.declared.place.Grid.{Grid}
use Rattle.grid.specs.declared.dimension.Span.{Span}
use Rattle.basics.specs.Range.{list_from, sum_from}
use Rattle.grid.specs.Size.{span_of, bin_of}
use Rattle.grid.specs.Grid.{Accepted, bins_of, shift_at, colour_place}
use Rattle.pixels.specs.Colour.{component_at}
use Rattle.basics.specs.Dimension.{choose}
use Rattle.basics.proofs.Range.{sum_plus, sum_zero, sum_hit, hit}
use Rattle.grid.proofs.Size.{span_low, span_high}
use Rattle.grid.proofs.Places.{Bytes, colour_bin, colour_place_lt}
use Rattle.table.specs.Cell.{View}
use Rattle.table.specs.Layouts.{Layout}
use Rattle.table.specs.Layout.{TableIn, view_in}
use Rattle.table.specs.Sound.{span_at, total}
use Rattle.adder.specs.Batch.{Weighted, share, adds, sum_over, weight_of, loaded}
use Rattle.table.proofs.Soundness.{Keeps, keeps_zero, keeps_plus, squares_above, squares_below}
use Rattle.table.proofs.Soundness.{Sound, sound_by, sound_keeps, sound_same, total_is}
use Rattle.table.proofs.Soundness.{total_same, span_is}
use Rattle.table.proofs.Layouts.{HoldsIn}

-- ---- sums over a list of colours
pub over_append : {A : Type 0} (cs ds : List A) (f : A → ℕ) → sum_over (cs ++ ds) f ≡ sum_over cs f + sum_over ds f
unfolding sum_over
over_append [] ds f = sym (zero-add (sum_over ds f))
over_append (c ∷ cs) ds f =
    ap (λ (x : ℕ). f c + x) (over_append cs ds f) ∙ sym (add_assoc (f c) (sum_over cs f) (sum_over ds f))

pub over_list : (i n : ℕ) (c : ℕ → Weighted) (f : Weighted → ℕ)
    → sum_over (list_from i n c) f ≡ sum_from i n (λ k. f (c k))
unfolding sum_over sum_from list_from
over_list i zero c f = refl
over_list i (suc n) c f = ap (λ (x : ℕ). f (c i) + x) (over_list (suc i) n c f)

over_permᴰ : {A : Type 0} {cs ds : List A} (f : A → ℕ) → Permᴰ cs ds → sum_over cs f ≡ sum_over ds f
unfolding sum_over
over_permᴰ f Permᴰ.nil = refl
over_permᴰ f (Permᴰ.cons e p) = λ i. f (e i) + over_permᴰ f p i
over_permᴰ f (Permᴰ.swap {a = a} {b = b} {l = l} e d) =
    add_left_comm (f a) (f b) (sum_over l f) ∙ (λ i. f (d i) + (f (e i) + sum_over l f))
over_permᴰ f (Permᴰ.trans p q) = over_permᴰ f p ∙ over_permᴰ f q

-- the order does not matter
pub over_perm : {A : Type 0} {cs ds : List A} (f : A → ℕ) → Perm cs ds → sum_over cs f ≡ sum_over ds f
over_perm {cs = cs} {ds} f p =
    mathlib.Core.Logic.∥∥₁_elim p (hedberg ℕ_discrete (sum_over cs f) (sum_over ds f)) (λ d. over_permᴰ f d)

-- ---- what one colour adds is in the bounds of its bin
pub times_high : (m n a b : ℕ) → a ≤ m → b ≤ n → a * b ≤ m * n
times_high m n a b h l = mul-le-mul h l

pub square_byte : (a : ℕ) → a < 256 → a * a ≤ 65025
square_byte a h = times_high 255 255 a a (omega arith) (omega arith)

-- the share of a component, by its dimension
pub share_sum : (c : Weighted) (d : ℕ) → d < 3 → share c (d + 1) ≡ c.weight * component_at c.colour d
unfolding share component_at choose
share_sum c zero h = refl
share_sum c (suc zero) h = refl
share_sum c (suc (suc zero)) h = refl
share_sum c (suc (suc (suc d))) h = absurd (omega arith)

-- and the other two shares
pub share_weight : (c : Weighted) → share c 0 ≡ c.weight
unfolding share
share_weight c = refl

pub share_squares : (c : Weighted)
    → share c 4 ≡ c.weight *
    (c.colour.c1 * c.colour.c1 + c.colour.c2 * c.colour.c2 + c.colour.c3 * c.colour.c3)
unfolding share
share_squares c = refl

module _ {g : Grid} (a : Accepted g) (c : Weighted) (b : Bytes c.colour) where
  own : (d : ℕ) → span_at g (colour_place g c.colour) d
      ≡ span_of (shift_at g d) (bin_of (shift_at g d) (component_at c.colour d))
  own d = span_is g (colour_place g c.colour) d ∙ ap (span_of (shift_at g d)) (colour_bin a b d)

  abbrev spans : ℕ → Span
  spans = span_at g (colour_place g c.colour)

  low : (d : ℕ) → (spans d).low ≤ component_at c.colour d
  low d = rw (own d) (span_low (shift_at g d) (component_at c.colour d))

  high : (d : ℕ) → component_at c.colour d ≤ (spans d).high
  high d = rw (own d) (span_high (shift_at g d) (component_at c.colour d))

  share_keeps : Keeps spans (share c)
  unfolding share component_at choose
  share_keeps =
      record {
        low = λ d h. rw (share_sum c d h) (mul-le-mul_left c.weight (low d));
        high = λ d h. rw (share_sum c d h) (mul-le-mul_left c.weight (high d));
        squares_low = mul-le-mul_left c.weight (squares_above spans (component_at c.colour) (λ d h. low d));
        squares_high = mul-le-mul_left c.weight (squares_below spans (component_at c.colour) (λ d h. high d));
      }

  adds_keeps : (p : ℕ) → Keeps (span_at g p) (adds g c p)
  unfolding adds
  adds_keeps p = go (ℕ_discrete (colour_place g c.colour) p)
    where
      go : Dec (colour_place g c.colour ≡ p)
          → Keeps (span_at g p) (λ j. cond (eqb (colour_place g c.colour) p) (share c j) 0)
      go (yes e) = rw (eq-eqb (colour_place g c.colour) p e, ← e) share_keeps
      go (no n) = rw (ne_eqb (colour_place g c.colour) p n) (keeps_zero (span_at g p))

-- ---- a list of colours
abbrev pub AllBytes : List Weighted → Type 0
AllBytes [] = Unit {0}
AllBytes (c ∷ cs) = Bytes c.colour × AllBytes cs

module _ {g : Grid} (a : Accepted g) where
  over_keeps : (cs : List Weighted) → AllBytes cs → (p : ℕ) → Keeps (span_at g p) (λ j. sum_over cs (λ c. adds g c p j))
  unfolding sum_over
  over_keeps [] b p = keeps_zero (span_at g p)
  over_keeps (c ∷ cs) b p = keeps_plus (adds_keeps a c b.0 p) (over_keeps cs b.1 p)

  over_total : (cs : List Weighted) → AllBytes cs
      → sum_from 0 (bins_of g) (λ p. sum_over cs (λ c. adds g c p 0)) ≡ weight_of cs
  unfolding sum_over weight_of adds share
  over_total [] b = sum_zero 0 (bins_of g)
  over_total (c ∷ cs) b =
      sum_plus 0 (bins_of g) (λ p. hit (colour_place g c.colour) p c.weight) (λ p. sum_over cs (λ d. adds g d p 0))
      ∙ (λ i.
      sum_hit 0 (bins_of g) (colour_place g c.colour) c.weight (omega arith)
      (omega (arith, colour_place_lt a b.0)) i
      + over_total cs b.1 i)

  -- the total after is the sum
  pub load_total : (cs : List Weighted) → AllBytes cs → (v : View) → total g (loaded g cs v) ≡ total g v + weight_of cs
  unfolding loaded
  load_total cs b v =
      total_is g (loaded g cs v)
      ∙ sum_plus 0 (bins_of g) (λ p. v p 0) (λ p. sum_over cs (λ c. adds g c p 0))
      ∙ (λ i. sym (total_is g v) i + over_total cs b i)

  -- loading keeps a table sound
  pub load_sound : {most : ℕ} {v : View} (cs : List Weighted) → AllBytes cs → Sound most g v
      → total g v + weight_of cs ≤ most → Sound most g (loaded g cs v)
  unfolding loaded
  load_sound {most} {v} cs b s l =
      sound_by most g (loaded g cs v) (λ p h. keeps_plus (sound_keeps s p h) (over_keeps cs b p))
      (omega (arith, load_total cs b v))

-- ---- a table that holds what was there with colours loaded
module _ {g : Grid} (a : Accepted g) (cs : List Weighted) (b : AllBytes cs) (v : View) {l : Layout}
    {s : TableIn l} (holds : HoldsIn l (bins_of g) s (loaded g cs v)) where
  pub held_sound : {most : ℕ} → Sound most g v → total g v + weight_of cs ≤ most → Sound most g (view_in l s)
  held_sound {most} k u =
      record { holds = sound_same g (view_in l s) (loaded g cs v) holds.at most ∙ (load_sound a cs b k u).holds }

  pub held_total : total g (view_in l s) ≡ total g v + weight_of cs
  held_total = total_same g (view_in l s) (loaded g cs v) holds.at ∙ load_total a cs b v

-- number j of place p, after a load and by what one colour adds to it
pub loaded_at : (g : Grid) (cs : List Weighted) (v : View) (p j : ℕ)
    → loaded g cs v p j ≡ v p j + sum_over cs (λ c. adds g c p j)
unfolding loaded
loaded_at g cs v p j = refl

pub adds_at : (g : Grid) (c : Weighted) (p j : ℕ) → adds g c p j ≡ hit (colour_place g c.colour) p (share c j)
unfolding adds
adds_at g c p j = refl

-- sums over a list, one colour after the other
pub over_none : (f : Weighted → ℕ) → sum_over [] f ≡ 0
unfolding sum_over
over_none f = refl

pub over_more : (c : Weighted) (cs : List Weighted) (f : Weighted → ℕ) → sum_over (c ∷ cs) f ≡ f c + sum_over cs f
unfolding sum_over
over_more c cs f = refl
