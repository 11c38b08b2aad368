-- "The smallest score wins; on a tie the lowest dimension, in it the lowest bin": what the best position of a box
-- says beside every other position with weight on both sides.
-- Assumes nothing.
use Rattle.std.specs.Prelude.{Option, None, Some}
use mathlib.Core.Path.{◌≡◌, refl, sym, subst, ◌∙◌}
use mathlib.Core.Logic.{◌⊎◌, inl, inr}
use mathlib.Core.Bool.{Bool, true, false, cond}
use Prim.Native.Nat.{ℕ, zero, suc, ◌+◌, ◌-◌, ◌≤◌, ◌<◌}
use native.Mathlib.Decide.{ℕ_discrete}
use native.Mathlib.Omega.{arith}
use lib.Dec.{T}
use lib.Ieee.{Float, lt}
use lib.Ieee.Scale.{finite}
use Rattle.basics.proofs.Compare.{less_asym, less_through, not_less_trans, not_less_itself, finite_number}
use Rattle.grid.specs.declared.place.Grid.{Grid}
use Rattle.table.specs.Cell.{View}
use Rattle.table.specs.Sound.{limit}
use Rattle.table.proofs.Soundness.{Sound}
use Rattle.boxes.specs.declared.sides.Bounds.{Bounds}
use Rattle.boxes.specs.Box.{min_at, max_at, Within}
use Rattle.spread.specs.declared.position.Position.{Position}
use Rattle.spread.specs.Cut.{position_answer, position_at, better, later_wins, best_run, best_in, best_cut}
use Rattle.spread.specs.Best.{Good, Candidate, Earlier, Winner, Tells}
use Rattle.spread.proofs.Best.{position_good, good_position}
use Rattle.spread.proofs.Finite.{position_finite}

not_both : {e j d i : ℕ} → Earlier e j d i → Earlier d i e j → ⊥
not_both (inl h) (inl k) = omega arith
not_both (inl h) (inr k) = omega (arith, k.0)
not_both (inr h) (inl k) = omega (arith, h.0)
not_both (inr h) (inr k) = omega (arith, h.1, k.1)

-- a position is that one, or there is none
abbrev Wins : (ℕ → ℕ → Float → Type 0) → Option Position → Type 0
Wins A (Some p) = Winner A p.dimension p.bin p.score
Wins A None = (d i : ℕ) (s : Float) → A d i s → ⊥

abbrev AllFinite : (ℕ → ℕ → Float → Type 0) → Type 0
AllFinite A = (d i : ℕ) (s : Float) → A d i s → T (finite s)

module _ {A B : ℕ → ℕ → Float → Type 0} where
  wins_same : ((e j : ℕ) (t : Float) → A e j t → B e j t) → ((e j : ℕ) (t : Float) → B e j t → A e j t)
      → (p : Option Position) → Wins A p → Wins B p
  wins_same to back (Some p) w =
      record {
        one = to p.dimension p.bin p.score w.one;
        smallest = λ {e} {j} {t} y. w.smallest (back e j t y);
        first = λ {e} {j} {t} y. w.first (back e j t y);
      }
  wins_same to back None w = λ d i s y. w d i s (back d i s y)

-- one position
wins_alone : (o : Option Position) → Wins (λ e j t. o ≡ Some (record { dimension = e; bin = j; score = t })) o
wins_alone (Some p) =
    record {
      one = refl;
      smallest = λ {e} {j} {t} q. let same : t ≡ p.score = cc in rw same (not_less_itself p.score);
      first = λ {e} {j} {t} q k.
          let dimension : e ≡ p.dimension = cc in
          let bin : j ≡ p.bin = cc in
          let itself : Earlier p.dimension p.bin p.dimension p.bin = rw (dimension, bin) at k in
          absurd (not_both itself itself);
    }
wins_alone None = λ d i s q. cc

-- the better of two wins over the positions of both, where the second's come after the first's
module _ {A B : ℕ → ℕ → Float → Type 0} (after : (e j d i : ℕ) (t s : Float) → A e j t → B d i s → Earlier e j d i)
    (fine_a : AllFinite A) (fine_b : AllFinite B) where
  abbrev Both : ℕ → ℕ → Float → Type 0
  Both e j t = A e j t ⊎ B e j t

  wins_better : (a b : Option Position) → Wins A a → Wins B b → Wins Both (better a b)
  unfolding better later_wins
  wins_better a None w none = wins_same (λ e j t y. inl y) back a w
    where
      back : (e j : ℕ) (t : Float) → Both e j t → A e j t
      back e j t (inl y) = y
      back e j t (inr z) = absurd (none e j t z)
  wins_better None (Some p) none w = wins_same (λ e j t y. inr y) back (Some p) w
    where
      back : (e j : ℕ) (t : Float) → Both e j t → B e j t
      back e j t (inl z) = absurd (none e j t z)
      back e j t (inr y) = y
  wins_better (Some a) (Some b) w u = go (lt b.score a.score) refl
    where
      -- the later has a smaller score than all of the first's
      under : lt b.score a.score ≡ true → {f j : ℕ} {y : Float} → A f j y → lt b.score y ≡ true
      under l {f} {j} {y} z = less_through b.score a.score y (finite_number y (fine_a f j y z)) l (w.smallest z)

      later_smallest : lt b.score a.score ≡ true → {f j : ℕ} {y : Float} → Both f j y → lt y b.score ≡ false
      later_smallest l {f} {j} {y} (inl z) = less_asym b.score y (under l z)
      later_smallest l (inr z) = u.smallest z

      later_first : lt b.score a.score ≡ true → {f j : ℕ} {y : Float} → Both f j y → Earlier f j b.dimension b.bin → lt b.score y ≡ true
      later_first l (inl z) h = under l z
      later_first l (inr z) h = u.first z h

      earlier_smallest : lt b.score a.score ≡ false → {f j : ℕ} {y : Float} → Both f j y → lt y a.score ≡ false
      earlier_smallest l (inl z) = w.smallest z
      earlier_smallest l {f} {j} {y} (inr z) =
          not_less_trans y b.score a.score (finite_number b.score (fine_b b.dimension b.bin b.score u.one)) (u.smallest z) l

      earlier_first : {f j : ℕ} {y : Float} → Both f j y → Earlier f j a.dimension a.bin → lt a.score y ≡ true
      earlier_first (inl z) h = w.first z h
      earlier_first {f} {j} {y} (inr z) h = absurd (not_both h (after a.dimension a.bin f j a.score y w.one z))

      go : (x : Bool) → lt b.score a.score ≡ x → Wins Both (cond x (Some b) (Some a))
      go true l = record { one = inr u.one; smallest = later_smallest l; first = later_first l }
      go false l = record { one = inl w.one; smallest = earlier_smallest l; first = earlier_first }

-- ---- the positions of a box with weight on both sides, and their scores
-- those of one dimension, from a bin to before another
record InRun (g : Grid) (v : View) (x : Bounds) (d from until e j : ℕ) (t : Float) : Type 0 where
  same : e ≡ d
  low : from ≤ j
  high : j < until
  good : Good g v x e j t

module _ {g : Grid} {v : View} (sound : Sound limit g v) {x : Bounds} (w : Within g x) where
  run_finite : (d from until : ℕ) → AllFinite (InRun g v x d from until)
  run_finite d from until e j t r = position_finite sound w r.good

  -- a run of positions
  module _ (d from : ℕ) (low : min_at x d < from) where
    -- its last one
    here : (n e j : ℕ) (t : Float) → from + n < max_at x d → position_at g v x d (from + n) ≡ Some (record { dimension = e; bin = j; score = t })
        → InRun g v x d (from + n) (from + suc n) e j t
    here n e j t h q =
        let p = position_good g v x d (from + n) (omega arith) h q in
        record { same = p.0; low = omega (arith, p.1); high = omega (arith, p.1); good = rw (p.0, p.1) p.2 }

    there : (n e j : ℕ) (t : Float) → InRun g v x d (from + n) (from + suc n) e j t → position_at g v x d (from + n)
        ≡ Some (record { dimension = e; bin = j; score = t })
    there n e j t r =
        let bin : j ≡ from + n = omega (arith, r.low, r.high) in
        let q = good_position g v x e j r.good in
        rw (← r.same, ← bin) q

    run_wins : (n : ℕ) → from + n ≤ max_at x d → Wins (InRun g v x d from (from + n)) (best_run g v x d from n)
    unfolding best_run
    run_wins zero h = λ e j t r. absurd (omega (arith, r.low, r.high))
    run_wins (suc n) h =
        wins_same to back (better (best_run g v x d from n) (position_at g v x d (from + n)))
        (wins_better after (run_finite d from (from + n)) fine (best_run g v x d from n) (position_at g v x d (from + n))
        (run_wins n (omega arith)) (wins_alone (position_at g v x d (from + n))))
      where
        fine : AllFinite (λ e j t. position_at g v x d (from + n) ≡ Some (record { dimension = e; bin = j; score = t }))
        fine e j t q = position_finite sound w (here n e j t (omega arith) q).good

        after : (e j d' i : ℕ) (t s : Float) → InRun g v x d from (from + n) e j t → position_at g v x d (from + n)
            ≡ Some (record { dimension = d'; bin = i; score = s }) → Earlier e j d' i
        after e j d' i t s r q = let p = here n d' i s (omega arith) q in
            inr (r.same ∙ sym p.same, omega (arith, r.high, p.low))

        to : (e j : ℕ) (t : Float) → InRun g v x d from (from + n) e j t
            ⊎ (position_at g v x d (from + n) ≡ Some (record { dimension = e; bin = j; score = t })) → InRun g v x d from (from + suc n) e j t
        to e j t (inl r) = record { same = r.same; low = r.low; high = omega (arith, r.high); good = r.good }
        to e j t (inr q) = let p = here n e j t (omega arith) q in
            record { same = p.same; low = omega (arith, p.low); high = p.high; good = p.good }

        back : (e j : ℕ) (t : Float) → InRun g v x d from (from + suc n) e j t
            → InRun g v x d from (from + n) e j t ⊎ (position_at g v x d (from + n) ≡ Some (record { dimension = e; bin = j; score = t }))
        back e j t r = go (ℕ_discrete j (from + n))
          where
            go : Dec (j ≡ from + n) → InRun g v x d from (from + n) e j t ⊎ (position_at g v x d (from + n) ≡ Some (record { dimension = e; bin = j; score = t }))
            go (yes k) =
                inr (there n e j t (record { same = r.same; low = omega arith; high = r.high; good = r.good }))
            go (no k) = inl (record { same = r.same; low = r.low; high = omega (arith, r.high); good = r.good })

  -- a dimension
  abbrev In : ℕ → ℕ → ℕ → Float → Type 0
  In d = InRun g v x d (min_at x d + 1) (max_at x d)

  in_wins : (d : ℕ) → Wins (In d) (best_in g v x d)
  unfolding best_in
  in_wins d =
      let end : (min_at x d + 1) + (max_at x d - (min_at x d + 1)) ≡ max_at x d = omega (arith, w.some d) in
      subst (λ (n : ℕ). Wins (InRun g v x d (min_at x d + 1) n) (best_in g v x d)) end
      (run_wins d (min_at x d + 1) (omega arith) (max_at x d - (min_at x d + 1)) (omega arith))

  -- the box
  best_wins : Wins (Candidate g v x) (best_cut g v x)
  unfolding best_cut
  best_wins =
      wins_same to back (best_cut g v x)
      (wins_better after fine (run_finite 2 (min_at x 2 + 1) (max_at x 2)) (better (best_in g v x 0) (best_in g v x 1))
      (best_in g v x 2)
      (wins_better (λ e j d i t s r q. inl (omega (arith, r.same, q.same)))
      (run_finite 0 (min_at x 0 + 1) (max_at x 0)) (run_finite 1 (min_at x 1 + 1) (max_at x 1))
      (best_in g v x 0) (best_in g v x 1) (in_wins 0) (in_wins 1))
      (in_wins 2))
    where
      fine : AllFinite (λ e j t. In 0 e j t ⊎ In 1 e j t)
      fine e j t (inl r) = position_finite sound w r.good
      fine e j t (inr r) = position_finite sound w r.good

      after : (e j d i : ℕ) (t s : Float) → In 0 e j t ⊎ In 1 e j t → In 2 d i s → Earlier e j d i
      after e j d i t s (inl r) q = inl (omega (arith, r.same, q.same))
      after e j d i t s (inr r) q = inl (omega (arith, r.same, q.same))

      to : (e j : ℕ) (t : Float) → (In 0 e j t ⊎ In 1 e j t) ⊎ In 2 e j t → Candidate g v x e j t
      to e j t (inl (inl r)) = record { dimension = omega (arith, r.same); good = r.good }
      to e j t (inl (inr r)) = record { dimension = omega (arith, r.same); good = r.good }
      to e j t (inr r) = record { dimension = omega (arith, r.same); good = r.good }

      in_dimension : (e j : ℕ) (t : Float) → Good g v x e j t → In e e j t
      in_dimension e j t p = record { same = refl; low = omega (arith, p.inside.0); high = p.inside.1; good = p }

      back : (e j : ℕ) (t : Float) → Candidate g v x e j t → (In 0 e j t ⊎ In 1 e j t) ⊎ In 2 e j t
      back zero j t c = inl (inl (in_dimension 0 j t c.good))
      back (suc zero) j t c = inl (inr (in_dimension 1 j t c.good))
      back (suc (suc zero)) j t c = inr (in_dimension 2 j t c.good)
      back (suc (suc (suc e))) j t c = absurd (omega (arith, c.dimension))

  -- "The smallest score wins; on a tie the lowest dimension, in it the lowest bin"
  pub best_first : {p : Position} → best_cut g v x ≡ Some p → Winner (Candidate g v x) p.dimension p.bin p.score
  best_first q = subst (Wins (Candidate g v x)) q best_wins

  -- "either a position with its float score, or that no position exists; the second exactly when no position has
  -- weight on both sides"
  pub best_told : Tells (Candidate g v x) (position_answer (best_cut g v x))
  unfolding position_answer
  best_told = told (best_cut g v x) best_wins
    where
      told : (o : Option Position) → Wins (Candidate g v x) o → Tells (Candidate g v x) (position_answer o)
      told (Some p) h = inr (p.dimension, (p.bin, (p.score, (refl, h))))
      told None h = inl (refl, h)
