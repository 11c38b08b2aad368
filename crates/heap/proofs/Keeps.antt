-- Putting in and taking out keep the room's length, every place past those in use, and, of those in use, the sum of
-- every f and whatever holds of each item.
-- Assumes nothing.
use mathlib.Core.Path.{◌≡◌, refl, sym, ap, ◌∙◌}
use mathlib.Core.List.{List, [], ◌∷◌, ◌++◌}
use mathlib.Core.Logic.{◌≢◌}
use Prim.Native.Nat.{ℕ, zero, suc, ◌+◌, ◌-◌, ◌*◌, ◌≤◌, ◌<◌}
use native.Mathlib.Omega.{arith}
use lib.ListN.{length, set, take, length-set}
use lib.Seq.{get_or-set_same, get_or-set_other, get_or-take, length-take-le, take-set-lt, take-suc-set, take-suc, set-get_or}
use lib.Ieee.{Float}
use Rattle.heap.specs.Heap.{Holed, parent, item, swap, climb, put_in, child, sink, enter, take_out, sum_items}
use Rattle.heap.proofs.Cases.{by_eq}
use Rattle.heap.proofs.Steps.{by_climbs, child_is, by_children, by_rest}

-- ---- sums over items

module _ {X : Type 0} (f : X → ℕ) where
  sum_append : (h : List X) (x : X) → sum_items f (h ++ (x ∷ [])) ≡ f x + sum_items f h
  unfolding sum_items
  sum_append [] x = refl
  sum_append (y ∷ h) x = omega (arith, sum_append h x)

  sum_set : (none : X) (h : List X) (p : ℕ) (x : X) → p < length h
      → sum_items f (set h p x) + f (item none h p) ≡ sum_items f h + f x
  unfolding sum_items
  sum_set none [] p x l = absurd (omega arith)
  sum_set none (y ∷ h) zero x l = omega arith
  sum_set none (y ∷ h) (suc p) x l = omega (arith, sum_set none h p x (omega arith))

-- ---- places in another order

-- the first n places of k have the items of h's, as far as sums tell, each from one of them, and the rest is the same
pub record Reordered {X : Type 0} (none : X) (n : ℕ) (h k : List X) : Type 0 where
  pub long : length k ≡ length h
  pub past : (p : ℕ) → n ≤ p → item none k p ≡ item none h p
  pub sums : (f : X → ℕ) → sum_items f (take n k) ≡ sum_items f (take n h)
  pub whence : (p : ℕ) → p < n → (q : ℕ) × (q < n) × (item none k p ≡ item none h q)

module _ {X : Type 0} (key : X → Float) (none : X) where
  -- the sum over the first n places, one of which is written
  first_set : (f : X → ℕ) (n : ℕ) (h : List X) (p : ℕ) (x : X) → p < n → n ≤ length h
      → sum_items f (take n (set h p x)) + f (item none h p) ≡ sum_items f (take n h) + f x
  first_set f n h p x l m =
      rw (take-set-lt n h p x l, ← get_or-take n h p none l) (sum_set f none (take n h) p x (rw (length-take-le n h m) l))

  -- the sum over the first n places and the last of them
  first_last : (f : X → ℕ) (n : ℕ) (h : List X) → 0 < n → n ≤ length h
      → sum_items f (take n h) ≡ f (item none h (n - 1)) + sum_items f (take (n - 1) h)
  first_last f zero h l m = absurd (omega arith)
  first_last f (suc n) h l m =
      let e : suc n - 1 ≡ n = omega arith in rw e (rw (take-suc h n none m) (sum_append f (take n h) (item none h n)))

  reordered_itself : (n : ℕ) (h : List X) → Reordered none n h h
  reordered_itself n h = record { long = refl; past = λ p l. refl; sums = λ f. refl; whence = λ p l. (p, l, refl) }

  reordered_on : {n : ℕ} {h k r : List X} → Reordered none n h k → Reordered none n k r → Reordered none n h r
  reordered_on a b =
      record {
        long = b.long ∙ a.long;
        past = λ p l. b.past p l ∙ a.past p l;
        sums = λ f. b.sums f ∙ a.sums f;
        whence = λ p l.
            let q = b.whence p l in
            let r = a.whence q.0 q.1 in
            (r.0, r.1, q.2 ∙ r.2);
      }

  -- what holds of each item
  pub all_reordered : {n : ℕ} {h k : List X} → Reordered none n h k → (P : X → Type 0)
      → ((q : ℕ) → q < n → P (item none h q)) → (p : ℕ) → p < n → P (item none k p)
  all_reordered r P all p l = let q = r.whence p l in rw q.2 (all q.0 q.1)

  pub all_set : {n : ℕ} (h : List X) {p : ℕ} (x : X) → p < n → n ≤ length h → (P : X → Type 0) → P x
      → ((q : ℕ) → q < n → q ≢ p → P (item none h q)) → (q : ℕ) → q < n → P (item none (set h p x) q)
  all_set {n} h {p} x l m P one all q k =
      by_eq q p (λ e. rw (e, get_or-set_same h p x none (omega arith)) one)
      (λ e. rw (get_or-set_other h p q x none e) (all q k e))

  -- the hole moves from p to q, and the item at q to p: with an item x in the hole, an exchange
  moved : (n : ℕ) (h : List X) (p q : ℕ) → p < n → q < n → q ≢ p → n ≤ length h → (x : X)
      → Reordered none n (set h p x) (set (set h p (item none h q)) q x)
  moved n h p q l m d e x =
      record {
        long = simp length-set;
        past = λ i k. elsewhere i (omega arith) (omega arith);
        sums = λ f.
            omega (
              arith,
              first_set f n h p (item none h q) l e,
              first_set f n (set h p (item none h q)) q x m (rw (length-set h p (item none h q)) e),
              first_set f n h p x l e,
              ap f (get_or-set_other h p q (item none h q) none d),
            );
        whence = λ i k. by_eq i q
            (λ f. (p, l, ap (item none (set (set h p (item none h q)) q x)) f ∙ at_q))
            (λ f. by_eq i p (λ g. (q, m, ap (item none (set (set h p (item none h q)) q x)) g ∙ at_p))
            (λ g. (i, k, elsewhere i g f)));
      }
    where
      elsewhere : (i : ℕ) → i ≢ p → i ≢ q → item none (set (set h p (item none h q)) q x) i ≡ item none (set h p x) i
      elsewhere i f g =
          get_or-set_other (set h p (item none h q)) q i x none g ∙ get_or-set_other h p i (item none h q) none f
          ∙ sym (get_or-set_other h p i x none f)

      at_q : item none (set (set h p (item none h q)) q x) q ≡ item none (set h p x) p
      at_q =
          get_or-set_same (set h p (item none h q)) q x none (rw (length-set h p (item none h q)) (omega arith))
          ∙ sym (get_or-set_same h p x none (omega arith))

      at_p : item none (set (set h p (item none h q)) q x) p ≡ item none (set h p x) q
      at_p =
          get_or-set_other (set h p (item none h q)) q p x none (λ f. d (sym f))
          ∙ get_or-set_same h p (item none h q) none (omega arith)
          ∙ sym (get_or-set_other h p q x none d)

  pub swapped : (n : ℕ) (h : List X) (p q : ℕ) → p < n → q < n → q ≢ p → n ≤ length h
      → Reordered none n h (swap none h p q)
  swapped n h p q l m d e =
      rw (set-get_or h p none) at (moved n h p q l m d e (item none h p))

  -- ---- climbing and sinking

  climb_reorders : (times n : ℕ) (h : List X) (p : ℕ) → p < n → n ≤ length h
      → Reordered none n h (climb key none times h p)
  unfolding climb
  climb_reorders zero n h p l m = reordered_itself n h
  climb_reorders (suc times) n h p l m =
      by_climbs key none (Reordered none n h) h (climb key none times (swap none h p (parent p)) (parent p)) p
      (λ z e.
      reordered_on (swapped n h p (parent p) l (omega arith) (omega arith) m)
      (climb_reorders times n (swap none h p (parent p)) (parent p) (omega arith) (simp length-set m)))
      (λ e. reordered_itself n h)

  -- a hole that sank from p stands among the first n places, and what enters it would have entered at p
  pub record Sunk (n : ℕ) (h : List X) (p : ℕ) (s : Holed X) : Type 0 where
    pub within : s.hole < n
    pub carries : (x : X) → Reordered none n (set h p x) (set s.room s.hole x)

  pub sunk : (times n : ℕ) (h : List X) (p : ℕ) → p < n → n ≤ length h → Sunk n h p (sink key none times h n p)
  unfolding sink
  sunk zero n h p l m = record { within = l; carries = λ x. reordered_itself n (set h p x) }
  sunk (suc times) n h p l m =
      by_children key none (Sunk n h p) n p
      (λ b.
      on (λ c k. sunk times n (set h p (item none h c)) c k (rw (length-set h p (item none h c)) m))
      (child key none h p)
      (child_is key none h p (λ (c : ℕ). (c < n) × (c ≢ p)) (omega arith, omega arith) (omega arith, omega arith)))
      (λ a b. record { within = b; carries = moved n h p (2 * p + 1) l b (omega arith) m })
      (λ a. record { within = l; carries = λ x. reordered_itself n (set h p x) })
    where
      on : ((c : ℕ) → c < n → Sunk n (set h p (item none h c)) c (sink key none times (set h p (item none h c)) n c))
          → (c : ℕ) → (c < n) × (c ≢ p) → Sunk n h p (sink key none times (set h p (item none h c)) n c)
      on deeper c is =
          let s = deeper c is.0 in
          record {
            within = s.within;
            carries = λ x. reordered_on (moved n h p c l is.0 is.1 m x)
                (s.carries x);
          }

  pub sink_within : (n : ℕ) (h : List X) → 0 < n → n ≤ length h → (sink key none n h n 0).hole < n
  sink_within n h l m = (sunk n n h 0 l m).within

  pub sink_long : (n : ℕ) (h : List X) → 0 < n → n ≤ length h → length (sink key none n h n 0).room ≡ length h
  sink_long n h l m =
      sym (length-set (sink key none n h n 0).room (sink key none n h n 0).hole none)
      ∙ ((sunk n n h 0 l m).carries none).long ∙ length-set h 0 none

  -- the last item enters at place 0, in whatever order
  take_out_reorders : (h : List X) (n : ℕ) → 0 < n → n < length h
      → Reordered none n (set h 0 (item none h n)) (enter key none (sink key none n h n 0) (item none h n))
  unfolding enter
  take_out_reorders h n l m =
      reordered_on ((sunk n n h 0 l (omega arith)).carries (item none h n))
      (climb_reorders _ n _ _ (sink_within n h l (omega arith))
      (rw length-set (rw (sink_long n h l (omega arith)) (omega arith))))

-- ---- putting in

module _ {X : Type 0} (key : X → Float) (none : X) (h : List X) (n : ℕ) (x : X) (room : n < length h) where
  put_in_reorders : Reordered none (suc n) (set h n x) (put_in key none h n x)
  unfolding put_in
  put_in_reorders = climb_reorders key none n (suc n) (set h n x) n (omega arith) (rw (length-set h n x) (omega arith))

  pub put_in_long : length (put_in key none h n x) ≡ length h
  put_in_long = put_in_reorders.long ∙ length-set h n x

  pub put_in_past : (p : ℕ) → n < p → item none (put_in key none h n x) p ≡ item none h p
  put_in_past p l = put_in_reorders.past p (omega arith) ∙ get_or-set_other h n p x none (omega arith)

  pub put_in_sum : (f : X → ℕ) → sum_items f (take (suc n) (put_in key none h n x)) ≡ f x + sum_items f (take n h)
  put_in_sum f = put_in_reorders.sums f ∙ ap (sum_items f) (take-suc-set h n x room) ∙ sum_append f (take n h) x

  pub put_in_all : (P : X → Type 0) → P x → ((p : ℕ) → p < n → P (item none h p)) → (p : ℕ) → p < suc n
      → P (item none (put_in key none h n x) p)
  put_in_all P one all =
      all_reordered key none put_in_reorders P
      (all_set key none h x (omega arith) (omega arith) P one (λ q k e. all q (omega arith)))

-- ---- taking out

module _ {X : Type 0} (key : X → Float) (none : X) (h : List X) (n : ℕ) (some : 0 < n) (room : n ≤ length h) where
  -- where others remain, they are in another order
  rest : n - 1 ≢ 0
      → Reordered none (n - 1) (set h 0 (item none h (n - 1)))
      (enter key none (sink key none (n - 1) h (n - 1) 0) (item none h (n - 1)))
  rest d = take_out_reorders key none h (n - 1) (omega arith) (omega arith)

  pub take_out_long : length (take_out key none h n) ≡ length h
  take_out_long =
      by_rest key none (λ (k : List X). length k ≡ length h) h n (λ e. refl)
      (λ d. (rest d).long ∙ length-set h 0 (item none h (n - 1)))

  pub take_out_past : (p : ℕ) → n - 1 ≤ p → item none (take_out key none h n) p ≡ item none h p
  take_out_past p l =
      by_rest key none (λ (k : List X). item none k p ≡ item none h p) h n (λ e. refl)
      (λ d. (rest d).past p l ∙ get_or-set_other h 0 p (item none h (n - 1)) none (omega arith))

  pub take_out_sum : (f : X → ℕ)
      → f (item none h 0) + sum_items f (take (n - 1) (take_out key none h n)) ≡ sum_items f (take n h)
  take_out_sum f =
      by_rest key none (λ (k : List X). f (item none h 0) + sum_items f (take (n - 1) k) ≡ sum_items f (take n h)) h n
      (λ e. ap (λ (i : ℕ). f (item none h i) + sum_items f (take (n - 1) h)) (sym e)
      ∙ sym (first_last key none f n h some room))
      (λ d. omega (
        arith,
        (rest d).sums f,
        first_last key none f n h some room,
        first_set key none f (n - 1) h 0
            (item none h (n - 1)) (omega arith) (omega arith),
      ))

  pub take_out_all : (P : X → Type 0) → ((p : ℕ) → p < n → P (item none h p)) → (p : ℕ) → p < n - 1
      → P (item none (take_out key none h n) p)
  take_out_all P all p l =
      by_rest key none (λ (k : List X). P (item none k p)) h n
      (λ e. all p (omega arith))
      (λ d.
      all_reordered key none (rest d) P
      (all_set key none h (item none h (n - 1)) (omega arith) (omega arith) P (all (n - 1) (omega arith))
      (λ q k e. all q (omega arith))) p l)
