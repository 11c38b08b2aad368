-- Filling a map: run by run, row by row, plane by plane.
-- Assumes nothing.
use mathlib.Core.Path.{◌≡◌, refl, sym, ap, ◌∙◌}
use mathlib.Core.Bool.{Bool, true, false, cond, ◌||◌}
use mathlib.Core.List.{List}
use Prim.Native.Nat.{ℕ, zero, suc, ◌+◌, ◌-◌, ◌≤◌, ◌<◌}
use native.Mathlib.Nat.{zero-add}
use native.Mathlib.Decide.{dec_le}
use borrow.Author.Rules.{rules}
use borrow.Rule.Slice.PartMut.{put_mid}
use native.Mathlib.Omega.{arith}
use lib.ListN.{length, get_or, replicate}
use Rattle.std.proofs.lemmas.List.{places}
use Rattle.grid.specs.declared.place.Grid.{Grid}
use Rattle.grid.specs.Grid.{Inside, place_of, bin_at}
use Rattle.basics.specs.Dimension.{choose}
use Rattle.basics.proofs.Range.{length_list, list_at, list_is}
use Rattle.grid.proofs.Places.{bins_high, place_lt, bin_of_place, place_of_bins, place_along}
use Rattle.boxes.specs.declared.sides.Bounds.{Bounds}
use Rattle.boxes.specs.Box.{min_at, max_at, low_side, high_side}
use Rattle.boxes.proofs.Within.{sides}
use Rattle.boxes.specs.Holds.{lies, holds_at, slice}
use Rattle.cutter.specs.Inner.{fill_where, Plane}
use Rattle.basics.proofs.Range.{tests_same, never_true}
use Rattle.boxes.proofs.Held.{lies_by, lies_from, lies_below, PlaceIn, place_held, held_place, cut_holds}

-- ---- any test
module _ (test : ℕ → Bool) (index : ℕ) (old : List ℕ) where
  pub length_fill : length (fill_where test index old) ≡ length old
  unfolding fill_where
  length_fill = length_list 0 (length old) _

  pub fill_at_lem : (p : ℕ) → p < length old → get_or (fill_where test index old) p 0 ≡ cond (test p) index (get_or old p 0)
  unfolding fill_where
  fill_at_lem p h =
      list_at 0 (length old) (λ q. cond (test q) index (get_or old q 0)) p 0 h
      ∙ ap (λ (q : ℕ). cond (test q) index (get_or old q 0)) (zero-add p)

  pub fill_is : (l : List ℕ) → length l ≡ length old
      → ((p : ℕ) → p < length old → get_or l p 0 ≡ cond (test p) index (get_or old p 0)) → l ≡ fill_where test index old
  unfolding fill_where
  fill_is l e h = list_is (length old) _ l 0 e h

  pub fill_none : ((p : ℕ) → test p ≡ false) → old ≡ fill_where test index old
  fill_none e = fill_is old refl (λ p h. ap (λ (b : Bool). cond b index (get_or old p 0)) (sym (e p)))

pub fill_same : (t u : ℕ → Bool) (index : ℕ) (old : List ℕ) → ((p : ℕ) → p < length old → t p ≡ u p)
    → fill_where t index old ≡ fill_where u index old
fill_same t u index old e =
    fill_is u index old (fill_where t index old) (length_fill t index old)
    (λ p h. fill_at_lem t index old p h ∙ ap (λ (b : Bool). cond b index (get_or old p 0)) (e p h))

-- what passes one of two tests is filled by one after the other
pub fill_more : (t u both : ℕ → Bool) (index : ℕ) (old : List ℕ) → ((p : ℕ) → p < length old → both p ≡ (t p || u p))
    → fill_where u index (fill_where t index old) ≡ fill_where both index old
fill_more t u both index old e =
    let first = fill_where t index old in
    fill_is both index old (fill_where u index first) (length_fill u index first ∙ length_fill t index old)
    (λ p h.
    fill_at_lem u index first p (rw (length_fill t index old) h)
    ∙ ap (λ (n : ℕ). cond (u p) index n) (fill_at_lem t index old p h)
    ∙ either (t p) (u p) (get_or old p 0)
    ∙ ap (λ (b : Bool). cond b index (get_or old p 0)) (sym (e p h)))
  where
    either : (a b : Bool) (n : ℕ) → cond b index (cond a index n) ≡ cond (a || b) index n
    either true true n = refl
    either true false n = refl
    either false b n = refl

-- ---- a run of places
module _ (index : ℕ) (old : List ℕ) (at end : ℕ) (h : at ≤ end) (l : end ≤ length old) where
  abbrev run : List ℕ
  run = put_mid at (end - at) old (replicate (end - at) index)

  run_long : length run ≡ length old
  run_long = grind (arith, places)

  run_before : (p : ℕ) → p < at → get_or run p 0 ≡ get_or old p 0
  run_before p j = search (rules, places)

  run_within : (p : ℕ) → at ≤ p → p < end → get_or run p 0 ≡ index
  run_within p j k = search (rules, places)

  run_after : (p : ℕ) → end ≤ p → p < length old → get_or run p 0 ≡ get_or old p 0
  run_after p j k = search (rules, places)

  outside : (p : ℕ) → (at ≤ p → p < end → ⊥) → lies at end p ≡ false
  outside p n = never_true _ (λ e. n (lies_from at end p e) (lies_below at end p e))

  pub run_filled : run ≡ fill_where (lies at end) index old
  run_filled =
      fill_is (lies at end) index old run run_long
      (λ p k.
      elim (dec_le at p) [
        | yes j ↦ elim (dec_le end p) [
          | yes m ↦ rw (outside p (λ a b. absurd (omega (arith, m, b)))) (run_after p m k)
          | no m ↦ rw (lies_by at end p j (omega arith)) (run_within p j (omega arith))
        ]
        | no j ↦ rw (outside p (λ a b. j a)) (run_before p (omega arith))
      ])

  -- what is put at the places up to one that is the end
  pub run_put : (n : ℕ) (put : List ℕ) → n ≡ end → put ≡ replicate (n - at) index
      → put_mid at (n - at) old put ≡ fill_where (lies at end) index old
  run_put n put e f =
      ap (λ (ys : List ℕ). put_mid at (n - at) old ys) f
      ∙ ap (λ (m : ℕ). put_mid at (m - at) old (replicate (m - at) index)) e
      ∙ run_filled

-- the places of a row of a box are a run
module _ (g : Grid) (x : Bounds) (r gr : ℕ) (h : gr < g.size2) (l : x.b1 ≤ g.size3) where
  row_in : (p : ℕ) → lies (place_of g r gr 0 + x.b0) (place_of g r gr 0 + x.b1) p ≡ true
      → PlaceIn g (slice (slice x 0 r) 1 gr) p
  unfolding slice low_side high_side choose
  row_in p e =
      let start = place_of g r gr 0 in
      let from = lies_from (start + x.b0) (start + x.b1) p e in
      let below = lies_below (start + x.b0) (start + x.b1) p e in
      let b : ℕ = p - start in
      let here : place_of g r gr b ≡ p = sym (place_along g r gr b) ∙ back start p from in
      let fits : b < g.size3 = omega arith in
      let first : bin_at g 0 p ≡ r = ap (bin_at g 0) (sym here) ∙ bin_of_place g 0 r gr b h fits in
      let second : bin_at g 1 p ≡ gr = ap (bin_at g 1) (sym here) ∙ bin_of_place g 1 r gr b h fits in
      let third : bin_at g 2 p ≡ b = ap (bin_at g 2) (sym here) ∙ bin_of_place g 2 r gr b h fits in
      record { one = (omega arith, omega arith); two = (omega arith, omega arith); three = (omega arith, omega arith) }
    where
      back : (start p : ℕ) → start + x.b0 ≤ p → start + (p - start) ≡ p
      back start p k = omega arith

  in_row : (p : ℕ) → PlaceIn g (slice (slice x 0 r) 1 gr) p
      → lies (place_of g r gr 0 + x.b0) (place_of g r gr 0 + x.b1) p ≡ true
  unfolding slice low_side high_side choose
  in_row p i =
      let first : bin_at g 0 p ≡ r = omega arith in
      let second : bin_at g 1 p ≡ gr = omega arith in
      let here : place_of g r gr 0 + bin_at g 2 p ≡ p =
      place_along g r gr (bin_at g 2 p) ∙ (λ k. place_of g (sym first k) (sym second k) (bin_at g 2 p))
      ∙ place_of_bins g p in
      lies_by (place_of g r gr 0 + x.b0) (place_of g r gr 0 + x.b1) p (omega arith) (omega arith)

  pub row_holds : (p : ℕ)
      → lies (place_of g r gr 0 + x.b0) (place_of g r gr 0 + x.b1) p ≡ holds_at g (slice (slice x 0 r) 1 gr) p
  row_holds p =
      tests_same _ _
      (λ e. held_place g (slice (slice x 0 r) 1 gr) p (row_in p e))
      (λ e. in_row p (place_held g (slice (slice x 0 r) 1 gr) p e))

-- ---- a box, slice by slice
no_slice : (g : Grid) (x : Bounds) (d p : ℕ) → PlaceIn g (low_side x d (min_at x d)) p → ⊥
unfolding low_side min_at choose
no_slice g x zero p i = omega arith
no_slice g x (suc zero) p i = omega arith
no_slice g x (suc (suc d)) p i = omega arith

next_slice : (g : Grid) (x : Bounds) (d c : ℕ) → min_at x d ≤ c → (p : ℕ)
    → holds_at g (low_side x d (c + 1)) p ≡ (holds_at g (low_side x d c) p || holds_at g (slice x d c) p)
unfolding slice low_side high_side min_at max_at choose
next_slice g x zero c h p = cut_holds g (low_side x 0 (c + 1)) 0 c h (omega arith) p
next_slice g x (suc zero) c h p = cut_holds g (low_side x 1 (c + 1)) 1 c h (omega arith) p
next_slice g x (suc (suc d)) c h p = cut_holds g (low_side x 2 (c + 1)) 2 c h (omega arith) p

all_slices : (x : Bounds) (d : ℕ) → low_side x d (max_at x d) ≡ x
unfolding low_side max_at choose
all_slices x zero = refl
all_slices x (suc zero) = refl
all_slices x (suc (suc d)) = refl

module _ (g : Grid) (x : Bounds) (d index : ℕ) (old : List ℕ) where
  pub slices_none : old ≡ fill_where (holds_at g (low_side x d (min_at x d))) index old
  slices_none =
      fill_none (holds_at g (low_side x d (min_at x d))) index old
      (λ p. never_true _ (λ e. no_slice g x d p (place_held g (low_side x d (min_at x d)) p e)))

  pub slices_more : (c : ℕ) → min_at x d ≤ c → {before later : List ℕ}
      → before ≡ fill_where (holds_at g (low_side x d c)) index old
      → later ≡ fill_where (holds_at g (slice x d c)) index before
      → later ≡ fill_where (holds_at g (low_side x d (c + 1))) index old
  slices_more c h e f =
      f
      ∙ ap (fill_where (holds_at g (slice x d c)) index) e
      ∙ fill_more (holds_at g (low_side x d c)) (holds_at g (slice x d c)) (holds_at g (low_side x d (c + 1))) index old
      (λ p k. next_slice g x d c h p)

  pub slices_all : (c : ℕ) → c ≡ max_at x d
      → fill_where (holds_at g (low_side x d c)) index old ≡ fill_where (holds_at g x) index old
  slices_all c e = ap (λ (y : Bounds). fill_where (holds_at g y) index old) (ap (low_side x d) e ∙ all_slices x d)

-- a plane of a box, row by row
module _ {g : Grid} {x : Bounds} {r : ℕ} {old : List ℕ} (here : Plane g x r old) (gr : ℕ) (l : gr < x.g1) where
  pub row_inside : Inside g r gr 0
  row_inside =
      let s = sides here.within in
      record {
        accepted = here.within.accepted;
        one = omega (arith, here.before, s.one_fits);
        two = omega (arith, s.two_fits);
        three = omega (arith, s.three, s.three_fits);
      }

  pub row_fits : place_of g r gr 0 + x.b1 ≤ length old
  row_fits =
      let s = sides here.within in
      let i = row_inside in
      let last = place_of g r gr 0 + (x.b1 - 1) in
      let below : last < length old =
      rw (here.lent, place_along g r gr (x.b1 - 1))
      (place_lt
      (record {
        accepted = i.accepted;
        one = i.one;
        two = i.two;
        three = omega
            (arith, s.three, s.three_fits);
      })) in
      omega (arith, s.three)

  pub row_small : place_of g r gr 0 + x.b1 ≤ 2097152
  row_small = omega (arith, row_fits, here.lent, bins_high here.within.accepted)

  pub row_filled : (index : ℕ) → x.g0 ≤ gr → {before later : List ℕ} {start : ℕ}
      → before ≡ fill_where (holds_at g (low_side (slice x 0 r) 1 gr)) index old → start ≡ place_of g r gr 0
      → later ≡ fill_where (lies (start + x.b0) (start + x.b1)) index before
      → later ≡ fill_where (holds_at g (low_side (slice x 0 r) 1 (gr + 1))) index old
  unfolding slice low_side high_side min_at choose
  row_filled index k {before} e at f =
      slices_more g (slice x 0 r) 1 index old gr k e
      (f
      ∙ ap (λ (n : ℕ). fill_where (lies (n + x.b0) (n + x.b1)) index before) at
      ∙ fill_same _ (holds_at g (slice (slice x 0 r) 1 gr)) index before
      (λ p m. row_holds g x r gr row_inside.two (sides here.within).three_fits p))
