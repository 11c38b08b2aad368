-- What the best position says: it lies strictly inside the box and both sides have weight, and there is none exactly
-- where no position has weight on both sides.
-- Assumes nothing.
use Rattle.std.specs.Prelude.{Option, None, Some}
use mathlib.Core.Path.{◌≡◌, refl, sym, ap, ◌∙◌}
use mathlib.Core.Logic.{◌⊎◌, inl, inr, ⊎_elim}
use mathlib.Core.Bool.{Bool, true, false, cond}
use Prim.Native.Nat.{ℕ, zero, suc, ◌+◌, ◌-◌, ◌<◌}
use native.Mathlib.Nat.{le_refl, lt_of_le_of_lt, lt_of_not-le}
use native.Mathlib.Decide.{ℕ_discrete, dec_le}
use native.Mathlib.Omega.{arith}
use borrow.Author.Tests.{eq-eqb, ne_eqb}
use lib.Arith.{lt_of_le-ne}
use lib.Dec.{eqb}
use lib.Ieee.{Float, lt}
use Rattle.grid.specs.declared.place.Grid.{Grid}
use Rattle.basics.specs.Dimension.{choose}
use Rattle.grid.specs.Grid.{place_of}
use Rattle.table.specs.Cell.{View}
use Rattle.boxes.specs.declared.sides.Bounds.{Bounds}
use Rattle.sums.specs.declared.box_sums.Stats.{Stats}
use Rattle.bins.specs.Sum.{box_sum}
use Rattle.sums.specs.Box.{stats_of}
use Rattle.boxes.specs.Box.{min_at, max_at, low_side, high_side}
use Rattle.boxes.proofs.Within.{InBox}
use Rattle.bins.proofs.Laws.{bins_empty}
use Rattle.boxes.proofs.Within.{in_low, in_high, in_box}
use Rattle.spread.specs.declared.position.Position.{Position}
use Rattle.spread.specs.Spread.{score_of}
use Rattle.spread.specs.Cut.{position_of, position_at, better, later_wins, best_run, best_in, best_cut}
use Rattle.spread.specs.Best.{Split, Good}

-- ---- one position
module _ (g : Grid) (v : View) (x : Bounds) (d bin : ℕ) where
  abbrev low : Stats
  low = stats_of g v (low_side x d bin)

  abbrev high : Stats
  high = stats_of g v (high_side x d bin)

  abbrev here : Position
  here = record { dimension = d; bin = bin; score = score_of low high }

  split_here : Split g v x d bin → position_at g v x d bin ≡ Some here
  unfolding position_at position_of stats_of
  split_here s =
      rw (ne_eqb (box_sum g v (low_side x d bin) 0) 0 s.low, ne_eqb (box_sum g v (high_side x d bin) 0) 0 s.high) refl

  not_split : (Split g v x d bin → ⊥) → position_at g v x d bin ≡ None
  unfolding position_at position_of stats_of
  not_split n = go (ℕ_discrete (box_sum g v (low_side x d bin) 0) 0) (ℕ_discrete (box_sum g v (high_side x d bin) 0) 0)
    where
      go : Dec (box_sum g v (low_side x d bin) 0 ≡ 0) → Dec (box_sum g v (high_side x d bin) 0 ≡ 0)
          → position_at g v x d bin ≡ None
      go (yes e) h = rw (eq-eqb (box_sum g v (low_side x d bin) 0) 0 e) refl
      go (no e) (yes h) =
          rw (ne_eqb (box_sum g v (low_side x d bin) 0) 0 e, eq-eqb (box_sum g v (high_side x d bin) 0) 0 h) refl
      go (no e) (no h) = absurd (n (record { low = e; high = h }))

  -- an answer has weight on both sides
  split_of : {p : Position} → position_at g v x d bin ≡ Some p → Split g v x d bin
  unfolding position_at position_of stats_of
  split_of {p} q =
      record {
        low =
            λ z. let none : None ≡ Some p =
            sym (ap (λ (t : Bool). cond t None (cond (eqb (box_sum g v (high_side x d bin) 0) 0) None (Some here)))
            (eq-eqb (box_sum g v (low_side x d bin) 0) 0 z)) ∙ q in cc;
        high = λ z. let none : None ≡ Some p = sym (go (eqb (box_sum g v (low_side x d bin) 0) 0) z) ∙ q in cc;
      }
    where
      go : (t : Bool) → box_sum g v (high_side x d bin) 0 ≡ 0
          → cond t None (cond (eqb (box_sum g v (high_side x d bin) 0) 0) None (Some here)) ≡ None
      go true z = refl
      go false z =
          ap (λ (t : Bool). cond t None (Some here)) (eq-eqb (box_sum g v (high_side x d bin) 0) 0 z)

  -- an answer is this position, with its score
  pub position_good : min_at x d < bin → bin < max_at x d → {p : Position} → position_at g v x d bin ≡ Some p
      → (p.dimension ≡ d) × (p.bin ≡ bin) × Good g v x d bin p.score
  position_good h l {p} q =
      let both = split_of q in
      let same : Some p ≡ Some here = sym q ∙ split_here both in
      let this : p ≡ here = cc in (
        ap (λ r. r.dimension) this,
        ap (λ r. r.bin) this,
        record { inside = (h, l); split = both; scored = ap (λ r. r.score) this },
      )

  pub good_position : {s : Float} → Good g v x d bin s
      → position_at g v x d bin ≡ Some (record { dimension = d; bin = bin; score = s })
  good_position p =
      split_here p.split ∙ ap (λ s. Some (record { dimension = d; bin = bin; score = s })) (sym p.scored)

-- ---- the better of two
better_at : (a b : Option Position) {p : Position} → better a b ≡ Some p → (a ≡ Some p) ⊎ (b ≡ Some p)
unfolding better later_wins
better_at a None q = inl q
better_at None (Some l) q = inr q
better_at (Some e) (Some l) {p} q = go (lt l.score e.score) q
  where
    go : (t : Bool) → cond t (Some l) (Some e) ≡ Some p → (Some e ≡ Some p) ⊎ (Some l ≡ Some p)
    go true r = inr r
    go false r = inl r

better_none : (a b : Option Position) → better a b ≡ None → (a ≡ None) × (b ≡ None)
unfolding better later_wins
better_none a None q = (q, refl)
better_none None (Some l) q = absurd cc
better_none (Some e) (Some l) q = absurd (go (lt l.score e.score) q)
  where
    go : (t : Bool) → cond t (Some l) (Some e) ≡ None → ⊥
    go true r = cc
    go false r = cc

-- ---- a run of positions
module _ (g : Grid) (v : View) (x : Bounds) (d first : ℕ) where
  run_at : (n : ℕ) {p : Position} → best_run g v x d first n ≡ Some p → (k : ℕ)
      × ((k < n) × (position_at g v x d (first + k) ≡ Some p))
  unfolding best_run
  run_at zero q = absurd cc
  run_at (suc n) q =
      ⊎_elim
      (λ p. let r = run_at n p in (r.0, (omega (arith, r.1.0), r.1.1)))
      (λ p. (n, (omega arith, p)))
      (better_at (best_run g v x d first n) (position_at g v x d (first + n)) q)

  run_none_at : (n : ℕ) → best_run g v x d first n ≡ None → (k : ℕ) → k < n → position_at g v x d (first + k) ≡ None
  unfolding best_run
  run_none_at zero q k h = absurd (omega arith)
  run_none_at (suc n) q k h =
      let both = better_none (best_run g v x d first n) (position_at g v x d (first + n)) q in
      go (ℕ_discrete k n) both.1 (λ l. run_none_at n both.0 k l)
    where
      go : Dec (k ≡ n) → position_at g v x d (first + n) ≡ None
          → (k < n → position_at g v x d (first + k) ≡ None) → position_at g v x d (first + k) ≡ None
      go (yes e) here before = rw e here
      go (no e) here before = before (omega arith)

  run_all_none : (n : ℕ) → ((k : ℕ) → k < n → position_at g v x d (first + k) ≡ None) → best_run g v x d first n
      ≡ None
  unfolding best_run better later_wins
  run_all_none zero h = refl
  run_all_none (suc n) h = rw (run_all_none n (λ k l. h k (omega arith)), h n (omega arith)) refl

-- ---- the best of a box
module _ (g : Grid) (v : View) (x : Bounds) where
  -- an answer in a dimension is good there
  in_good : (d : ℕ) {p : Position} → best_in g v x d ≡ Some p → (p.dimension ≡ d) × Good g v x d p.bin p.score
  unfolding best_in
  in_good d q =
      let r = run_at g v x d (min_at x d + 1) (max_at x d - (min_at x d + 1)) q in
      let p = position_good g v x d ((min_at x d + 1) + r.0) (omega arith) (omega (arith, r.1.0)) r.1.1 in
      (p.0, rw p.1 p.2)

  in_none : (d : ℕ) → best_in g v x d ≡ None → (bin : ℕ) → min_at x d < bin → bin < max_at x d → Split g v x d bin → ⊥
  unfolding best_in
  in_none d q bin h l s =
      let k = bin - (min_at x d + 1) in
      let there : (min_at x d + 1) + (bin - (min_at x d + 1)) ≡ bin = omega arith in
      let none = rw there at (run_none_at g v x d (min_at x d + 1) (max_at x d - (min_at x d + 1)) q k (omega arith)) in
      let some = split_here g v x d bin s in
      cc

  in_all_none : (d : ℕ) → ((bin : ℕ) → min_at x d < bin → bin < max_at x d → Split g v x d bin → ⊥) → best_in g v x d
      ≡ None
  unfolding best_in
  in_all_none d h =
      run_all_none g v x d (min_at x d + 1) (max_at x d - (min_at x d + 1))
      (λ k l. not_split g v x d ((min_at x d + 1) + k) (h ((min_at x d + 1) + k) (omega arith) (omega arith)))

  -- both sides of the answered cut have weight
  pub answered : {p : Position} → best_cut g v x ≡ Some p → (p.dimension < 3) × Good g v x p.dimension p.bin p.score
  unfolding best_cut
  answered {p} q =
      ⊎_elim
      (λ two. ⊎_elim (λ a. from 0 (omega arith) (in_good 0 a)) (λ a. from 1 (omega arith) (in_good 1 a))
      (better_at (best_in g v x 0) (best_in g v x 1) two))
      (λ a. from 2 (omega arith) (in_good 2 a))
      (better_at (better (best_in g v x 0) (best_in g v x 1)) (best_in g v x 2) q)
    where
      from : (e : ℕ) → e < 3 → (p.dimension ≡ e) × Good g v x e p.bin p.score
          → (p.dimension < 3) × Good g v x p.dimension p.bin p.score
      from e h r = rw r.0 (h, r.1)

  -- "the second exactly when no position has weight on both sides"
  pub no_position : best_cut g v x ≡ None → (d bin : ℕ) → d < 3 → min_at x d < bin → bin < max_at x d
      → Split g v x d bin → ⊥
  unfolding best_cut
  no_position q d bin h =
      let outer = better_none (better (best_in g v x 0) (best_in g v x 1)) (best_in g v x 2) q in
      let inner = better_none (best_in g v x 0) (best_in g v x 1) outer.0 in
      at d h inner.0 inner.1 outer.1
    where
      at : (d : ℕ) → d < 3 → best_in g v x 0 ≡ None → best_in g v x 1 ≡ None → best_in g v x 2 ≡ None
          → min_at x d < bin → bin < max_at x d → Split g v x d bin → ⊥
      at zero l a b c = in_none 0 a bin
      at (suc zero) l a b c = in_none 1 b bin
      at (suc (suc zero)) l a b c = in_none 2 c bin
      at (suc (suc (suc d))) l a b c = absurd (omega arith)

  pub nowhere : ((d bin : ℕ) → d < 3 → min_at x d < bin → bin < max_at x d → Split g v x d bin → ⊥) → best_cut g v x
      ≡ None
  unfolding best_cut better later_wins
  nowhere h =
      rw (
        in_all_none 0 (λ b. h 0 b (omega arith)),
        in_all_none 1 (λ b. h 1 b (omega arith)),
        in_all_none 2
            (λ b. h 2 b (omega arith)),
      ) refl

-- ---- a box with two occupied bins has a position
module _ (g : Grid) (v : View) (x : Bounds) where
  -- two occupied bins, apart in dimension d
  apart : (d : ℕ) → d < 3 → {r gr b r' gr' b' : ℕ} → InBox x r gr b → InBox x r' gr' b'
      → (v (place_of g r gr b) 0 ≡ 0 → ⊥) → (v (place_of g r' gr' b') 0 ≡ 0 → ⊥)
      → choose d r gr b < choose d r' gr' b' → best_cut g v x ≡ None → ⊥
  apart d h {r} {gr} {b} {r'} {gr'} {b'} i i' o o' l q =
      let c = choose d r' gr' b' in
      no_position g v x q d c h (lt_of_le_of_lt (in_box i d).0 l) (in_box i' d).1
      (record {
        low = λ e. o (bins_empty g v (low_side x d c) e r gr b (in_low i d c l));
        high = λ e. o' (bins_empty g v (high_side x d c) e r' gr' b' (in_high i' d c (le_refl c)));
      })

  pub two_occupied : {r gr b r' gr' b' : ℕ} → InBox x r gr b → InBox x r' gr' b'
      → (v (place_of g r gr b) 0 ≡ 0 → ⊥) → (v (place_of g r' gr' b') 0 ≡ 0 → ⊥)
      → (place_of g r gr b ≡ place_of g r' gr' b' → ⊥) → best_cut g v x ≡ None → ⊥
  unfolding choose
  two_occupied {r} {gr} {b} {r'} {gr'} {b'} i i' o o' n q =
      go (ℕ_discrete r r') (ℕ_discrete gr gr') (ℕ_discrete b b')
    where
      either : (d : ℕ) → d < 3 → (choose d r gr b ≡ choose d r' gr' b' → ⊥) → ⊥
      either d h m =
          elim (dec_le (choose d r gr b) (choose d r' gr' b')) [
            | yes l ↦ apart d h i i' o o' (lt_of_le-ne l m) q
            | no l ↦ apart d h i' i o' o (lt_of_not-le l) q
          ]

      go : Dec (r ≡ r') → Dec (gr ≡ gr') → Dec (b ≡ b') → ⊥
      go (no m) y z = either 0 (omega arith) m
      go (yes e) (no m) z = either 1 (omega arith) m
      go (yes e) (yes f) (no m) = either 2 (omega arith) m
      go (yes e) (yes f) (yes k) = n (λ j. place_of g (e j) (f j) (k j))
