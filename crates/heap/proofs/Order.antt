-- Where no spread is a NaN, putting in and taking out keep the room in order, and no spread is greater than the top's.
-- Assumes nothing.
use mathlib.Core.Path.{◌≡◌, refl, ap, ◌∙◌}
use mathlib.Core.Bool.{Bool, true, false, cond}
use mathlib.Core.List.{List}
use mathlib.Core.Logic.{◌≢◌}
use Prim.Native.Nat.{ℕ, zero, suc, ◌+◌, ◌-◌, ◌*◌, ◌≤◌, ◌<◌}
use native.Mathlib.Omega.{arith}
use lib.Ieee.{Float, nan, lt, le}
use lib.ListN.{length, set, length-set}
use lib.Seq.{get_or-set_same, get_or-set_other}
use Rattle.heap.specs.Heap.{Holed, parent, item, swap, climb, put_in, sink, enter, take_out, InOrder, NoNaN}
use Rattle.heap.proofs.Cases.{by_eq}
use Rattle.basics.proofs.Compare.{not_less_trans, less_asym, not_less_itself, at_most, not_at_most}
use Rattle.heap.proofs.Steps.{by_climbs, by_children, by_rest}
use Rattle.heap.proofs.Keeps.{Reordered, all_reordered, all_set, swapped, sunk, sink_within, sink_long}
use Rattle.heap.proofs.Keeps.{put_in_all, take_out_all}

module _ {X : Type 0} (key : X → Float) (none : X) where
  -- y is not greater than x
  abbrev NotLess : X → X → Type 0
  NotLess x y = lt (key x) (key y) ≡ false

  not_less : {x x' y y' : X} → x' ≡ x → y' ≡ y → NotLess x y → NotLess x' y'
  not_less e f l = (λ i. lt (key (e i)) (key (f i))) ∙ l

  -- r is the parent of q
  under_it : (h : List X) (q : ℕ) {r : ℕ} → parent q ≡ r → NotLess (item none h (parent q)) (item none h q)
      → NotLess (item none h r) (item none h q)
  under_it h q e l = rw e at l

  numbers_reordered : {n : ℕ} {h k : List X} → Reordered none n h k → NoNaN key none h n → NoNaN key none k n
  numbers_reordered r numbers = record { number = all_reordered key none r (λ (x : X). key x ≢ nan) numbers.number }

  -- ---- climbing

  -- in order but for the element at p against its parent; the children at p are not greater than that parent either
  record Climbing (h : List X) (n p : ℕ) : Type 0 where
    elsewhere : (q : ℕ) → 0 < q → q < n → q ≢ p → NotLess (item none h (parent q)) (item none h q)
    across : (q : ℕ) → 0 < q → q < n → 0 < p → parent q ≡ p → NotLess (item none h (parent p)) (item none h q)

  climbing_on : {h : List X} {n p : ℕ} → 0 < p → p < n → n ≤ length h → NoNaN key none h n → Climbing h n p
      → lt (key (item none h (parent p))) (key (item none h p)) ≡ true
      → Climbing (swap none h p (parent p)) n (parent p)
  climbing_on {h} {n} {p} z l m numbers c greater =
      record {
        elsewhere = λ q k j d. by_eq q p
            (λ e. not_less (ap (λ (i : ℕ). item none (swap none h p (parent p)) (parent i)) e ∙ at_parent)
            (ap (item none (swap none h p (parent p))) e ∙ at_p) down)
            (λ e. by_eq (parent q) p
            (λ f. not_less (ap (item none (swap none h p (parent p))) f ∙ at_p) (at q e d) (c.across q k j z f))
            (λ f. by_eq (parent q) (parent p)
            (λ g. not_less (ap (item none (swap none h p (parent p))) g ∙ at_parent) (at q e d)
            (not_less_trans _ _ _ (numbers.number (parent p) (omega arith)) down
            (under_it h q g (c.elsewhere q k j e))))
            (λ g. not_less (at (parent q) f g) (at q e d) (c.elsewhere q k j e))));
        across = λ q k j y e. by_eq q p
            (λ f. not_less (at (parent (parent p)) (omega arith) (omega arith))
            (ap (item none (swap none h p (parent p))) f ∙ at_p)
            (c.elsewhere (parent p) y (omega arith) (omega arith)))
            (λ f. not_less (at (parent (parent p)) (omega arith) (omega arith)) (at q f (omega arith))
            (not_less_trans _ _ _ (numbers.number (parent p) (omega arith))
            (c.elsewhere (parent p) y (omega arith) (omega arith))
            (under_it h q e (c.elsewhere q k j f))));
      }
    where
      at_p : item none (swap none h p (parent p)) p ≡ item none h (parent p)
      at_p =
          get_or-set_other (set h p (item none h (parent p))) (parent p) p (item none h p) none (omega arith)
          ∙ get_or-set_same h p (item none h (parent p)) none (omega arith)

      at_parent : item none (swap none h p (parent p)) (parent p) ≡ item none h p
      at_parent =
          get_or-set_same (set h p (item none h (parent p))) (parent p) (item none h p) none
          (rw (length-set h p (item none h (parent p))) (omega arith))

      at : (q : ℕ) → q ≢ p → q ≢ parent p → item none (swap none h p (parent p)) q ≡ item none h q
      at q d e =
          get_or-set_other (set h p (item none h (parent p))) (parent p) q (item none h p) none e
          ∙ get_or-set_other h p q (item none h (parent p)) none d

      down : NotLess (item none h p) (item none h (parent p))
      down = less_asym _ _ greater

  climb_order : (times n : ℕ) (h : List X) (p : ℕ) → p ≤ times → p < n → n ≤ length h → NoNaN key none h n
      → Climbing h n p
      → InOrder key none (climb key none times h p) n
  unfolding climb
  climb_order zero n h p t l m numbers c = record { under = λ q k j. c.elsewhere q k j (omega arith) }
  climb_order (suc times) n h p t l m numbers c =
      by_climbs key none (λ (k : List X). InOrder key none k n) h
      (climb key none times (swap none h p (parent p)) (parent p)) p
      (λ z greater.
      climb_order times n (swap none h p (parent p)) (parent p) (omega arith) (omega arith) (simp length-set m)
      (numbers_reordered (swapped key none n h p (parent p) l (omega arith) (omega arith) m) numbers)
      (climbing_on z l m numbers c greater))
      (λ still.
      record {
        under = λ q k j.
            by_eq q p
            (λ f. not_less (ap (λ (i : ℕ). item none h (parent i)) f) (ap (item none h) f) (still (omega arith)))
            (c.elsewhere q k j);
      })

  -- ---- sinking

  -- in order but for the hole at p; its children are not greater than its parent
  record Sinking (h : List X) (n p : ℕ) : Type 0 where
    elsewhere : (q : ℕ) → 0 < q → q < n → q ≢ p → parent q ≢ p → NotLess (item none h (parent q)) (item none h q)
    across : (q : ℕ) → 0 < q → q < n → 0 < p → parent q ≡ p → NotLess (item none h (parent p)) (item none h q)

  -- a child moves up that none at p is greater than
  sinking_on : {h : List X} {n p c : ℕ} → 0 < c → c < n → parent c ≡ p → n ≤ length h → Sinking h n p
      → ((q : ℕ) → 0 < q → q < n → parent q ≡ p → NotLess (item none h c) (item none h q))
      → Sinking (set h p (item none h c)) n c
  sinking_on {h} {n} {p} {c} z l is m s best =
      record {
        elsewhere = λ q k j d e. by_eq q p
            (λ f. not_less (at (parent q) (omega arith) ∙ ap (λ (i : ℕ). item none h (parent i)) f)
            (ap (item none (set h p (item none h c))) f ∙ at_p) (s.across c z l (omega arith) is))
            (λ f. by_eq (parent q) p
            (λ g. not_less (ap (item none (set h p (item none h c))) g ∙ at_p) (at q f) (best q k j g))
            (λ g. not_less (at (parent q) g) (at q f) (s.elsewhere q k j f g)));
        across = λ q k j y e. not_less (ap (item none (set h p (item none h c))) is ∙ at_p) (at q (omega arith))
            (under_it h q e (s.elsewhere q k j (omega arith) (omega arith)));
      }
    where
      at_p : item none (set h p (item none h c)) p ≡ item none h c
      at_p = get_or-set_same h p (item none h c) none (omega arith)

      at : (q : ℕ) → q ≢ p → item none (set h p (item none h c)) q ≡ item none h q
      at q d = get_or-set_other h p q (item none h c) none d

  -- a hole at the bottom: it has no child among the first n places
  record Bottom (n : ℕ) (s : Holed X) : Type 0 where
    sinking : Sinking s.room n s.hole
    leaf : n ≤ 2 * s.hole + 1

  -- one of the two children
  which : (P : ℕ → Type 0) (p q : ℕ) → 0 < q → parent q ≡ p → P (2 * p + 1) → P (2 * p + 2) → P q
  which P p q z e left right =
      by_eq q (2 * p + 1) (λ f. rw f left) (λ f. let g : q ≡ 2 * p + 2 = omega arith in rw g right)

  sink_order : (times n : ℕ) (h : List X) (p : ℕ) → n ≤ p + times → p < n → n ≤ length h → Sinking h n p
      → Bottom n (sink key none times h n p)
  unfolding sink
  sink_order zero n h p t l m s = absurd (omega arith)
  sink_order (suc times) n h p t l m s =
      by_children key none (Bottom n) n p
      (λ two.
      both (le (key (item none h (2 * p + 1))) (key (item none h (2 * p + 2)))) refl two
      (λ c z k is best.
      sink_order times n (set h p (item none h c)) c (omega arith) k (rw (length-set h p (item none h c)) m)
      (sinking_on z k is m s best)))
      (λ two one.
      record {
        sinking = sinking_on (omega arith) one (omega arith) m s (λ q z k e. let f : q ≡ 2 * p + 1 = omega arith in
            rw f (not_less_itself _));
        leaf = omega arith;
      })
      (λ one. record { sinking = s; leaf = one })
    where
      both : (b : Bool) → le (key (item none h (2 * p + 1))) (key (item none h (2 * p + 2))) ≡ b → 2 * p + 2 < n
          → ((c : ℕ) → 0 < c → c < n → parent c ≡ p
          → ((q : ℕ) → 0 < q → q < n → parent q ≡ p → NotLess (item none h c) (item none h q))
          → Bottom n (sink key none times (set h p (item none h c)) n c))
          → Bottom n
          (sink key none times (set h p (item none h (cond b (2 * p + 2) (2 * p + 1)))) n
          (cond b (2 * p + 2) (2 * p + 1)))
      both true e two on =
          on (2 * p + 2) (omega arith) two (omega arith)
          (λ q z k f. which (λ (i : ℕ). NotLess (item none h (2 * p + 2)) (item none h i)) p q z f (at_most _ _ e)
          (not_less_itself _))
      both false e two on =
          on (2 * p + 1) (omega arith) (omega arith) (omega arith)
          (λ q z k f. which (λ (i : ℕ). NotLess (item none h (2 * p + 1)) (item none h i)) p q z f (not_less_itself _)
          (not_at_most _ _ e))

  -- what enters at the bottom is in order but for its parent
  entered : (n : ℕ) (s : Holed X) (x : X) → Bottom n s → Climbing (set s.room s.hole x) n s.hole
  entered n s x bottom =
      record {
        elsewhere = λ q k j e.
            not_less (at (parent q) (omega (arith, bottom.leaf))) (at q e)
            (bottom.sinking.elsewhere q k j e (omega (arith, bottom.leaf)));
        across = λ q k j y e. absurd (omega (arith, bottom.leaf));
      }
    where
      at : (q : ℕ) → q ≢ s.hole → item none (set s.room s.hole x) q ≡ item none s.room q
      at q e = get_or-set_other s.room s.hole q x none e

-- ---- putting in

module _ {X : Type 0} (key : X → Float) (none : X) (h : List X) (n : ℕ) (x : X) (room : n < length h)
    (numbers : NoNaN key none h n) (number : key x ≢ nan) where
  pub put_in_numbers : NoNaN key none (put_in key none h n x) (suc n)
  put_in_numbers = record { number = put_in_all key none h n x room (λ (y : X). key y ≢ nan) number numbers.number }

  pub put_in_order : InOrder key none h n → InOrder key none (put_in key none h n x) (suc n)
  unfolding put_in
  put_in_order order =
      climb_order key none n (suc n) (set h n x) n (omega arith) (omega arith) (rw (length-set h n x) room)
      (record {
        number = all_set key none h x (omega arith) room (λ (y : X). key y ≢ nan) number
            (λ q k e. numbers.number q (omega arith));
      })
      (record {
        elsewhere = λ q k j e. not_less key none (at (parent q) (omega arith)) (at q e)
            (order.under q k (omega arith));
        across = λ q k j y e. absurd (omega arith);
      })
    where
      at : (q : ℕ) → q ≢ n → item none (set h n x) q ≡ item none h q
      at q e = get_or-set_other h n q x none e

-- ---- taking out

module _ {X : Type 0} (key : X → Float) (none : X) (h : List X) (n : ℕ) (some : 0 < n) (room : n ≤ length h)
    (numbers : NoNaN key none h n) where
  pub take_out_numbers : NoNaN key none (take_out key none h n) (n - 1)
  take_out_numbers = record { number = take_out_all key none h n some room (λ (x : X). key x ≢ nan) numbers.number }

  pub take_out_order : InOrder key none h n → InOrder key none (take_out key none h n) (n - 1)
  unfolding enter
  take_out_order order =
      by_rest key none (λ (k : List X). InOrder key none k (n - 1)) h n
      (λ e. record { under = λ q k j. absurd (omega arith) })
      (λ d.
      climb_order key none _ (n - 1) _ _ (omega arith) (sink_within key none (n - 1) h (omega arith) (omega arith))
      (rw length-set (rw (sink_long key none (n - 1) h (omega arith) (omega arith)) (omega arith)))
      (numbers_reordered key none
      ((sunk key none (n - 1) (n - 1) h 0 (omega arith) (omega arith)).carries (item none h (n - 1)))
      (record {
        number = all_set key none h (item none h (n - 1)) (omega arith) (omega arith) (λ (x : X). key x ≢ nan)
            (numbers.number (n - 1) (omega arith)) (λ q k e. numbers.number q (omega arith));
      }))
      (entered key none (n - 1) (sink key none (n - 1) h (n - 1) 0) (item none h (n - 1))
      (sink_order key none (n - 1) (n - 1) h 0 (omega arith) (omega arith) (omega arith)
      (record {
        elsewhere = λ q k j e f. order.under q k (omega arith);
        across = λ q k j y e.
            absurd (omega arith);
      }))))

-- ---- the top

module _ {X : Type 0} (key : X → Float) (none : X) where
  -- no element is greater than the top
  pub top_greatest : (h : List X) (n : ℕ) → InOrder key none h n → NoNaN key none h n → (p : ℕ) → p < n
      → lt (key (item none h 0)) (key (item none h p)) ≡ false
  top_greatest h n order numbers p l = go p p (omega arith) l
    where
      go : (steps q : ℕ) → q ≤ steps → q < n → NotLess key none (item none h 0) (item none h q)
      go zero q k j = let e : q ≡ 0 = omega arith in rw e (not_less_itself _)
      go (suc steps) q k j = by_eq q 0
          (λ e. rw e (not_less_itself _))
          (λ e. not_less_trans _ _ _ (numbers.number (parent q) (omega arith))
          (go steps (parent q) (omega arith) (omega arith)) (order.under q (omega arith) j))
