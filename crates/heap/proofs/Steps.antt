-- Climbing and sinking go on step by step, and more times than enough change nothing.
-- Assumes nothing.
use mathlib.Core.Path.{◌≡◌, refl, sym, ap, ◌∙◌}
use mathlib.Core.Bool.{Bool, true, false, cond, ◌&&◌}
use mathlib.Core.List.{List}
use mathlib.Core.Logic.{◌≢◌}
use Prim.Native.Nat.{ℕ, zero, suc, ◌+◌, ◌-◌, ◌*◌, ◌≤◌, ◌<◌}
use native.Mathlib.Nat.{add-zero, add-suc}
use native.Mathlib.Omega.{arith}
use borrow.Author.Tests.{lt-ltb, le-ltb, eq-eqb, ne_eqb, eqb-true, eqb-false, ltb-true, ltb-false}
use lib.Dec.{eqb, ltb}
use lib.ListN.{length, get_or, set}
use lib.Seq.{get_or-set_same, get_or-set_other, set-set}
use lib.Ieee.{Float, lt, le}
use Rattle.heap.specs.Heap.{Holed, parent, item, swap, climbs, climb, enter, child, sink, take_out}
use Rattle.heap.proofs.Cases.{by_cond}

module _ {X : Type 0} (key : X → Float) (none : X) where
  -- the element at p goes on to climb, or stays
  pub by_climbs : (P : List X → Type 0) (h k : List X) (p : ℕ)
      → (0 < p → lt (key (item none h (parent p))) (key (item none h p)) ≡ true → P k)
      → ((0 < p → lt (key (item none h (parent p))) (key (item none h p)) ≡ false) → P h)
      → P (cond (climbs key none h p) k h)
  by_climbs P h k p on stays = go (ltb 0 p) (lt (key (item none h (parent p))) (key (item none h p))) refl refl
    where
      go : (a b : Bool) → ltb 0 p ≡ a → lt (key (item none h (parent p))) (key (item none h p)) ≡ b
          → P (cond (a && b) k h)
      go true true d e = on (ltb-true 0 p d) e
      go true false d e = stays (λ l. e)
      go false b d e = let z = ltb-false 0 p d in stays (λ l. absurd (omega arith))

  -- one time more than p
  climb_more : (t : ℕ) (h : List X) (p : ℕ) → p ≤ t → climb key none (suc t) h p ≡ climb key none t h p
  unfolding climb
  climb_more zero h p l = rw (le-ltb 0 p l)
  climb_more (suc t) h zero l = refl
  climb_more (suc t) h (suc p) l =
      ap (λ (r : List X). cond (climbs key none h (suc p)) r h)
      (climb_more t (swap none h (suc p) (parent (suc p))) (parent (suc p)) (omega arith))

  climb_enough : (d : ℕ) (h : List X) (p : ℕ) → climb key none (p + d) h p ≡ climb key none p h p
  climb_enough zero h p = rw (add-zero p)
  climb_enough (suc d) h p = rw (add-suc p d) (climb_more (p + d) h p (omega arith) ∙ climb_enough d h p)

  climb_times : (t : ℕ) (h : List X) (p : ℕ) → p ≤ t → climb key none t h p ≡ climb key none p h p
  climb_times t h p l = ap (λ (n : ℕ). climb key none n h p) e ∙ climb_enough (t - p) h p
    where
      e : t ≡ p + (t - p)
      e = omega arith

  pub climb_on : (h : List X) (p : ℕ) → 0 < p → lt (key (item none h (parent p))) (key (item none h p)) ≡ true
      → climb key none p h p ≡ climb key none (parent p) (swap none h p (parent p)) (parent p)
  unfolding climb
  climb_on h zero l e = absurd (omega arith)
  climb_on h (suc p) l e =
      rw (lt-ltb 0 (suc p) l, e) (climb_times p (swap none h (suc p) (parent (suc p))) (parent (suc p)) (omega arith))

  pub climb_stays : (h : List X) (p : ℕ) → lt (key (item none h (parent p))) (key (item none h p)) ≡ false
      → climb key none p h p ≡ h
  unfolding climb
  climb_stays h zero e = refl
  climb_stays h (suc p) e = rw (lt-ltb 0 (suc p) (omega arith), e)

  -- the same with a hole in the element's place, as the code has it
  module _ (h : List X) (p : ℕ) (x : X) (within : p < length h) where
    pub enter_on : 0 < p → lt (key (item none h (parent p))) (key x) ≡ true
        → enter key none (record { room = h; hole = p }) x
        ≡ enter key none (record { room = set h p (item none h (parent p)); hole = parent p }) x
    unfolding enter
    enter_on l e =
        climb_on (set h p x) p l (rw (other, same) e)
        ∙ ap (λ (k : List X). climb key none (parent p) k (parent p)) (rw (set-set, other, same))
      where
        other : get_or (set h p x) (parent p) none ≡ get_or h (parent p) none
        other = get_or-set_other h p (parent p) x none (omega arith)

        same : get_or (set h p x) p none ≡ x
        same = get_or-set_same h p x none within

    pub enter_stays : 0 < p → lt (key (item none h (parent p))) (key x) ≡ false
        → enter key none (record { room = h; hole = p }) x ≡ set h p x
    unfolding enter
    enter_stays l e =
        climb_stays (set h p x) p
        (rw (get_or-set_other h p (parent p) x none (omega arith), get_or-set_same h p x none within) e)

    pub enter_ends : p ≤ 0 → enter key none (record { room = h; hole = p }) x ≡ set h p x
    unfolding enter climb
    enter_ends l = let e : p ≡ 0 = omega arith in rw e

  -- the child that moves up is one of the two
  pub child_is : (h : List X) (p : ℕ) (P : ℕ → Type 0) → P (2 * p + 2) → P (2 * p + 1) → P (child key none h p)
  child_is h p P r l =
      by_cond P (le (key (item none h (2 * p + 1))) (key (item none h (2 * p + 2)))) (2 * p + 2) (2 * p + 1) r l

  -- both children exist, only a left one, or none
  pub by_children : (P : Holed X → Type 0) (n p : ℕ) {both left here : Holed X}
      → (2 * p + 2 < n → P both) → (n ≤ 2 * p + 2 → 2 * p + 1 < n → P left) → (n ≤ 2 * p + 1 → P here)
      → P (cond (ltb (2 * p + 2) n) both (cond (ltb (2 * p + 1) n) left here))
  by_children P n p {both} {left} {here} x y z = go (ltb (2 * p + 2) n) (ltb (2 * p + 1) n) refl refl
    where
      go : (a b : Bool) → ltb (2 * p + 2) n ≡ a → ltb (2 * p + 1) n ≡ b → P (cond a both (cond b left here))
      go true b d e = x (ltb-true (2 * p + 2) n d)
      go false true d e = y (ltb-false (2 * p + 2) n d) (ltb-true (2 * p + 1) n e)
      go false false d e = z (ltb-false (2 * p + 1) n e)

  sink_more : (t : ℕ) (h : List X) (n p : ℕ) → n ≤ p + t → sink key none (suc t) h n p ≡ sink key none t h n p
  unfolding sink
  sink_more zero h n p l = rw (le-ltb (2 * p + 2) n (omega arith), le-ltb (2 * p + 1) n (omega arith))
  sink_more (suc t) h n p l =
      ap (λ (s : Holed X). cond (ltb (2 * p + 2) n) s
      (cond (ltb (2 * p + 1) n) (record { room = set h p (item none h (2 * p + 1)); hole = 2 * p + 1 })
      (record { room = h; hole = p })))
      (sink_more t (set h p (item none h (child key none h p))) n (child key none h p)
      (child_is h p (λ (c : ℕ). n ≤ c + t) (omega arith) (omega arith)))

  pub sink_on : (h : List X) (n p : ℕ) → 2 * p + 2 < n
      → sink key none n h n p ≡ sink key none n (set h p (item none h (child key none h p))) n (child key none h p)
  unfolding sink
  sink_on h zero p l = absurd (omega arith)
  sink_on h (suc m) p l =
      rw (lt-ltb (2 * p + 2) (suc m) l)
      (sym (sink_more m (set h p (item none h (child key none h p))) (suc m) (child key none h p)
      (child_is h p (λ (c : ℕ). suc m ≤ c + m) (omega arith) (omega arith))))

  pub sink_left : (h : List X) (n p : ℕ) → n ≤ 2 * p + 2 → 2 * p + 1 < n
      → sink key none n h n p ≡ record { room = set h p (item none h (2 * p + 1)); hole = 2 * p + 1 }
  unfolding sink
  sink_left h zero p l m = absurd (omega arith)
  sink_left h (suc n) p l m = rw (le-ltb (2 * p + 2) (suc n) l, lt-ltb (2 * p + 1) (suc n) m)

  pub sink_ends : (h : List X) (n p : ℕ) → n ≤ 2 * p + 1 → sink key none n h n p ≡ record { room = h; hole = p }
  unfolding sink
  sink_ends h zero p l = refl
  sink_ends h (suc n) p l = rw (le-ltb (2 * p + 2) (suc n) (omega arith), le-ltb (2 * p + 1) (suc n) l)

  -- "if others remain" or not
  pub by_rest : (P : List X → Type 0) (h : List X) (n : ℕ)
      → (n - 1 ≡ 0 → P h) → (n - 1 ≢ 0 → P (enter key none (sink key none (n - 1) h (n - 1) 0) (item none h (n - 1))))
      → P (take_out key none h n)
  unfolding take_out
  by_rest P h n alone others = go (eqb (n - 1) 0) refl
    where
      go : (b : Bool) → eqb (n - 1) 0 ≡ b
          → P (cond b h (enter key none (sink key none (n - 1) h (n - 1) 0) (item none h (n - 1))))
      go true e = alone (eqb-true (n - 1) 0 e)
      go false e = others (eqb-false (n - 1) 0 e)

  pub others_remain : (h : List X) (n : ℕ) {s : Holed X} {x : X} → n - 1 ≢ 0 → s ≡ sink key none (n - 1) h (n - 1) 0
      → x ≡ item none h (n - 1)
      → enter key none s x ≡ take_out key none h n
  unfolding take_out
  others_remain h n d e f = rw (ne_eqb (n - 1) 0 d) (λ i. enter key none (e i) (f i))

  pub none_remains : (h : List X) (n : ℕ) → n - 1 ≡ 0 → h ≡ take_out key none h n
  unfolding take_out
  none_remains h n e = rw (eq-eqb (n - 1) 0 e)
