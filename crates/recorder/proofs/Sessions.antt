-- Laws of intervals: which is in range, what a reload leaves, which interval of a batch is in force.
-- Assumes nothing.
use mathlib.Core.Path.{◌≡◌, refl, ap, ◌∙◌}
use mathlib.Core.Bool.{Bool, true, false, not}
use Prim.Native.Nat.{ℕ, ◌≤◌, ◌<◌}
use borrow.Author.Tests.{le-leb, lt-leb, leb-true, eqb-true, eq-eqb, ne_eqb, not-false}
use lib.Dec.{leb, eqb}
use Rattle.basics.specs.Answer.{refuse, when_done}
use Rattle.basics.specs.declared.refusal.Refusal.{Refusal}
use Rattle.basics.specs.Refusal.{number_of}
use Rattle.basics.proofs.Ends.{passed}
use Rattle.basics.proofs.Exits.{not_0}
use Rattle.basics.proofs.Range.{and_left, and_right, and_stop, and_false, never_true}
use Rattle.recorder.specs.declared.session.Session.{Session}
use Rattle.recorder.specs.Session.{is_interval, interval_number, reloaded}
use Rattle.recorder.specs.Batch.{in_force}

-- ---- in range
module _ (i : ℕ) where
  pub interval_says : is_interval i ≡ true → (1 ≤ i) × (i ≤ 4096)
  unfolding is_interval
  interval_says e =
      (leb-true 1 i (and_left (leb 1 i) (leb i 4096) e), leb-true i 4096 (and_right (leb 1 i) (leb i 4096) e))

  pub interval_by : 1 ≤ i → i ≤ 4096 → is_interval i ≡ true
  unfolding is_interval
  interval_by h l = rw (le-leb 1 i h, le-leb i 4096 l) refl

  pub below_range : i < 1 → is_interval i ≡ false
  unfolding is_interval
  below_range h = and_stop (leb i 4096) (lt-leb 1 i h)

  pub above_range : 4096 < i → is_interval i ≡ false
  unfolding is_interval
  above_range h = rw (lt-leb i 4096 h) (and_false (leb 1 i))

  -- its answer
  pub number_in : is_interval i ≡ true → interval_number i ≡ 0
  unfolding interval_number refuse
  number_in e = ap (λ (b : Bool). refuse (not b) 13 0) e

  pub number_out : is_interval i ≡ false → interval_number i ≡ 13
  unfolding interval_number refuse
  number_out e = ap (λ (b : Bool). refuse (not b) 13 0) e

  -- and the other way round
  pub is_interval_lem : interval_number i ≡ 0 → is_interval i ≡ true
  unfolding interval_number
  is_interval_lem e = not-false _ (passed (not (is_interval i)) 12 0 e).0

  pub no_interval : (interval_number i ≡ 0 → ⊥) → is_interval i ≡ false
  no_interval n = never_true (is_interval i) (λ e. n (number_in e))

  -- a refusal tells that it is out of range
  pub out_by : (r : Refusal) → number_of r ≡ interval_number i → (is_interval i ≡ false) × (number_of r ≡ 13)
  out_by r e =
      let out = no_interval (λ q. not_0 r (e ∙ q)) in
      (out, e ∙ number_out out)

-- ---- a reload sets an interval that is one, and leaves the session at any other
module _ (s : Session) (i : ℕ) where
  pub reload_sets : is_interval i ≡ true → reloaded s i ≡ record { number = 0; session = record { interval = i } }
  unfolding reloaded interval_number refuse when_done
  reload_sets e = rw e refl

  pub reload_leaves : is_interval i ≡ false → reloaded s i ≡ record { number = 13; session = s }
  unfolding reloaded interval_number refuse when_done
  reload_leaves e = rw e refl

  -- ---- the interval of a batch: out of range, not in force, in force
  pub force_out : is_interval i ≡ false → in_force s i 0 ≡ 13
  unfolding in_force refuse
  force_out e = rw e refl

  pub force_other : is_interval i ≡ true → (i ≡ s.interval → ⊥) → in_force s i 0 ≡ 14
  unfolding in_force refuse
  force_other e f = rw (e, ne_eqb i s.interval f) refl

  pub force_passes : (rest : ℕ) → is_interval i ≡ true → i ≡ s.interval → in_force s i rest ≡ rest
  unfolding in_force refuse
  force_passes rest e f = rw (e, eq-eqb i s.interval f) refl

  -- both tests, passed
  pub force_passed : {rest : ℕ} → in_force s i rest ≡ 0 → (is_interval i ≡ true) × (i ≡ s.interval) × (rest ≡ 0)
  unfolding in_force
  force_passed {rest} e =
      let one = passed (not (is_interval i)) 12 (refuse (not (eqb i s.interval)) 14 rest) e in
      let two = passed (not (eqb i s.interval)) 13 rest one.1 in
      (not-false _ one.0, eqb-true i s.interval (not-false _ two.0), two.1)

  -- an interval in force is a scale; the first part is there for `grind`, which applies this wherever one is tested
  pub force_scale : in_force s i 0 ≡ 0 → (in_force s i 0 ≡ 0) × (1 ≤ i) × (i ≤ 4096)
  force_scale e =
      let range = interval_says i (force_passed e).0 in
      (e, range.0, range.1)

  -- what comes after the interval is looked at only where the interval is accepted
  pub force_then : (rest : ℕ) → in_force s i rest ≡ when_done (in_force s i 0) rest (in_force s i 0)
  unfolding in_force refuse when_done
  force_then rest = go (is_interval i) (eqb i s.interval)
    where
      go : (b c : Bool) → refuse (not b) 13 (refuse (not c) 14 rest)
          ≡ when_done (refuse (not b) 13 (refuse (not c) 14 0)) rest (refuse (not b) 13 (refuse (not c) 14 0))
      go true true = refl
      go true false = refl
      go false c = refl
