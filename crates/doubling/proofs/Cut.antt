-- The boxes of a table whose numbers are all multiplied by a power of two: their sums are multiplied, their spreads and
-- scores grow, and the best cut is the same one.
-- Assumes nothing.
use Rattle.std.specs.Prelude.{Option, None, Some}
use mathlib.Core.Path.{◌≡◌, refl, sym, ap, ap₂, ◌∙◌}
use mathlib.Core.Bool.{Bool, true, false, cond}
use Prim.Native.Nat.{ℕ, zero, suc, ◌+◌, ◌-◌, ◌*◌, ◌^◌, ◌≤◌, ◌<◌}
use native.Mathlib.Nat.{mul_comm, zero-mul, pos_of_ne-zero, eq_of_mul-eq-mul_right}
use native.Mathlib.Omega.{arith}
use borrow.Author.Tests.{eqb-true, eqb-false, eq-eqb}
use lib.Dec.{eqb}
use lib.Ieee.{Float}
use lib.Pow.{pow_pos}
use Rattle.basics.proofs.Range.{tests_same}
use Rattle.grid.specs.declared.place.Grid.{Grid}
use Rattle.grid.specs.Grid.{place_of}
use Rattle.table.specs.Cell.{View}
use Rattle.table.specs.Sound.{limit}
use Rattle.table.proofs.Soundness.{Sound}
use Rattle.boxes.specs.declared.sides.Bounds.{Bounds}
use Rattle.boxes.specs.Box.{min_at, max_at, low_side, high_side, Within, one_bin}
use Rattle.boxes.proofs.Within.{low_within, high_within}
use Rattle.bins.specs.Sum.{sum3, bin_sum, box_sum}
use Rattle.bins.proofs.Boxes.{sum3_scale}
use Rattle.sums.specs.declared.box_sums.Stats.{Stats}
use Rattle.sums.specs.Box.{stats_of}
use Rattle.spread.specs.declared.position.Position.{Position}
use Rattle.spread.specs.Spread.{spread_of, score_of}
use Rattle.spread.specs.Cut.{position_of, position_at, later_wins, better, best_run, best_in, best_cut}
use Rattle.spread.proofs.Numbers.{numbers, spread_at, quot_is, spread_is, spread_one}
use Rattle.doubling.specs.Grow.{grow, doubled, grow_position}
use Rattle.doubling.proofs.Grow.{lt_grow, zero_grow}
use Rattle.doubling.proofs.Numbers.{spread_grow, score_grow}

-- ---- a box's numbers
pub box_doubled : (t : ℕ) (g : Grid) (v : View) (x : Bounds) (j : ℕ)
    → box_sum g (doubled t v) x j ≡ box_sum g v x j * 2 ^ t
unfolding doubled box_sum bin_sum
box_doubled t g v x j =
    let k = 2 ^ t in
    let over : (ℕ → ℕ → ℕ → ℕ) → ℕ =
    sum3 x.r0 (x.r1 - x.r0) x.g0 (x.g1 - x.g0) x.b0 (x.b1 - x.b0) in
    let plain : ℕ → ℕ → ℕ → ℕ = λ r gr b. v (place_of g r gr b) j in
    (λ i. over (λ r gr b. mul_comm (plain r gr b) k i))
    ∙ sum3_scale k x.r0 (x.r1 - x.r0) x.g0 (x.g1 - x.g0) x.b0 (x.b1 - x.b0) plain
    ∙ mul_comm k (over plain)

pub empty_doubled : (t n : ℕ) → eqb (n * 2 ^ t) 0 ≡ eqb n 0
empty_doubled t n =
    let none = zero-mul (2 ^ t) in
    tests_same (eqb (n * 2 ^ t) 0) (eqb n 0)
    (λ e. eq-eqb n 0 (eq_of_mul-eq-mul_right (2 ^ t) (pow_pos t) n 0 (eqb-true (n * 2 ^ t) 0 e ∙ sym none)))
    (λ e. eq-eqb (n * 2 ^ t) 0 (ap (λ (z : ℕ). z * 2 ^ t) (eqb-true n 0 e) ∙ none))

-- ---- the order of positions
wins_grow : (t : ℕ) (p q : Option Position) → later_wins (grow_position t p) (grow_position t q) ≡ later_wins p q
unfolding later_wins grow_position
wins_grow t p None = refl
wins_grow t None (Some l) = refl
wins_grow t (Some e) (Some l) = lt_grow t l.score e.score

better_grow : (t : ℕ) (p q : Option Position) → better (grow_position t p) (grow_position t q) ≡ grow_position t (better p q)
unfolding better
better_grow t p q =
    ap (λ (b : Bool). cond b (grow_position t q) (grow_position t p)) (wins_grow t p q) ∙ go (later_wins p q)
  where
    go : (b : Bool) → cond b (grow_position t q) (grow_position t p) ≡ grow_position t (cond b q p)
    go true = refl
    go false = refl

-- ---- spreads and scores
module _ {g : Grid} {v : View} (s : Sound limit g v) (t : ℕ) (few : t ≤ 100) where
  abbrev many : Bounds → Stats
  many x = stats_of g (doubled t v) x

  abbrev once : Bounds → Stats
  once x = stats_of g v x

  pub spread_doubled : {x : Bounds} → Within g x → 1 ≤ box_sum g v x 0
      → spread_of x (stats_of g (doubled t v) x) ≡ grow t (spread_of x (stats_of g v x))
  spread_doubled {x} w some = go (one_bin x) refl
    where
      all : (j : ℕ) → box_sum g (doubled t v) x j ≡ box_sum g v x j * 2 ^ t
      all = box_doubled t g v x

      go : (b : Bool) → one_bin x ≡ b → spread_of x (many x) ≡ grow t (spread_of x (once x))
      go true e = spread_one g (doubled t v) x e ∙ sym (zero_grow t) ∙ ap (grow t) (sym (spread_one g v x e))
      go false e =
          spread_is g (doubled t v) x e
          ∙ (λ i. spread_at (all 0 i) (all 1 i) (all 2 i) (all 3 i) (all 4 i))
          ∙ spread_grow (numbers s w some) t few
          ∙ ap (grow t) (sym (spread_is g v x e))

  score_doubled : {x y : Bounds} → Within g x → 1 ≤ box_sum g v x 0 → Within g y → 1 ≤ box_sum g v y 0
      → score_of (many x) (many y) ≡ grow t (score_of (once x) (once y))
  unfolding score_of
  score_doubled {x} {y} w some w' some' =
      let all = box_doubled t g v in
      rw (
        quot_is g (doubled t v) x,
        quot_is g (doubled t v) y,
        quot_is g v x,
        quot_is g v y,
        all x 0,
        all x 1,
        all x 2,
        all x 3,
        all y 0,
        all y 1,
        all y 2,
        all y 3,
      )
      (score_grow (numbers s w some) (numbers s w' some') t few)

  -- ---- the best cut
  module _ {x : Bounds} (w : Within g x) where
    position_doubled : (d bin : ℕ) → min_at x d < bin → bin < max_at x d
        → position_at g (doubled t v) x d bin ≡ grow_position t (position_at g v x d bin)
    unfolding position_at position_of grow_position stats_of
    position_doubled d bin lo hi =
        (λ i. cond (empty low i) None (cond (empty high i) None (here (score_of (many low) (many high)))))
        ∙ go (eqb (box_sum g v low 0) 0) refl (eqb (box_sum g v high 0) 0) refl
      where
        low : Bounds
        low = low_side x d bin

        high : Bounds
        high = high_side x d bin

        here : Float → Option Position
        here score = Some (record { dimension = d; bin = bin; score = score })

        empty : (y : Bounds) → eqb (box_sum g (doubled t v) y 0) 0 ≡ eqb (box_sum g v y 0) 0
        empty y = ap (λ (n : ℕ). eqb n 0) (box_doubled t g v y 0) ∙ empty_doubled t (box_sum g v y 0)

        go : (b : Bool) → eqb (box_sum g v low 0) 0 ≡ b → (c : Bool) → eqb (box_sum g v high 0) 0 ≡ c
            → cond b None (cond c None (here (score_of (many low) (many high))))
            ≡ grow_position t (cond b None (cond c None (here (score_of (once low) (once high)))))
        go true e c f = refl
        go false e true f = refl
        go false e false f =
            ap here
            (score_doubled (low_within w d bin lo hi) (pos_of_ne-zero (eqb-false _ 0 e)) (high_within w d bin hi)
            (pos_of_ne-zero (eqb-false _ 0 f)))

    run_doubled : (d bin n : ℕ) → min_at x d < bin → bin + n ≤ max_at x d
        → best_run g (doubled t v) x d bin n ≡ grow_position t (best_run g v x d bin n)
    unfolding best_run grow_position
    run_doubled d bin zero lo hi = refl
    run_doubled d bin (suc n) lo hi =
        ap₂ better (run_doubled d bin n lo (omega arith)) (position_doubled d (bin + n) (omega arith) (omega arith))
        ∙ better_grow t (best_run g v x d bin n) (position_at g v x d (bin + n))

    in_doubled : (d : ℕ) → best_in g (doubled t v) x d ≡ grow_position t (best_in g v x d)
    unfolding best_in
    in_doubled d =
        let some = w.some d in
        run_doubled d (min_at x d + 1) (max_at x d - (min_at x d + 1)) (omega arith) (omega arith)

    pub cut_doubled : best_cut g (doubled t v) x ≡ grow_position t (best_cut g v x)
    unfolding best_cut
    cut_doubled =
        let two = better_grow t (best_in g v x 0) (best_in g v x 1) in
        ap₂ better (ap₂ better (in_doubled 0) (in_doubled 1) ∙ two) (in_doubled 2)
        ∙ better_grow t (better (best_in g v x 0) (best_in g v x 1)) (best_in g v x 2)
