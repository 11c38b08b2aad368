-- `recorder::entries::entries_fit` meets its contract: what is left of the weights and the colours of the entries
-- passed are together all weights.
-- Assumes nothing.
use mathlib.Core.Path.{◌≡◌, sym, ap, ◌∙◌}
use mathlib.Core.Bool.{true≢false}
use Prim.Native.Nat.{◌+◌}
use native.Mathlib.Decide.{ℕ_discrete}
use native.Mathlib.Omega.{arith}
use borrow.Author.Tests.{eq-eqb, ne_eqb}
use Rattle.basics.proofs.Range.{never_true}
use Rattle.recorder.specs.Replay.{count_at, entries_in, colours_before}
use Rattle.recorder.proofs.Fitting.{fits_test, test_fits, none_before, more_before, before_grows}
use Rattle.recorder.proofs.entries.entries_fit.Goals.{then-entries-ne0-via-then-entries-ne0, then-entries-ne0-via-else-entries-ne0+then-colours-ne0, then-entries-ne0-via-else-entries-ne0+else-colours-ne0+then-colours-weights, then-entries-ne0-via-else-entries-ne0+else-colours-ne0+else-colours-weights+then-answers-n}
use Rattle.recorder.proofs.entries.entries_fit.Goals as goal

pub returns-then-entries-ne0 : goal.returns-then-entries-ne0
returns-then-entries-ne0 c =
    let a = c.args in
    sym
    (never_true _ (λ e. let f = test_fits a.entries.now a.colours a.weights a.answers e in
    elim c.then-entries-ne0.branch [
      | then-entries-ne0-via-then-entries-ne0 w ↦ w.if-entries-ne0.true f.threes
      | then-entries-ne0-via-else-entries-ne0+then-colours-ne0 w ↦ w.if-colours-ne0.true (omega (arith, f.bytes))
      | then-entries-ne0-via-else-entries-ne0+else-colours-ne0+then-colours-weights w ↦
          w.if-colours-weights.true (omega (arith, f.bytes, f.pairs))
      | then-entries-ne0-via-else-entries-ne0+else-colours-ne0+else-colours-weights+then-answers-n w ↦
          absurd (omega (arith, w.if-answers-n.true, f.room))
    ]))

pub loop-i-init : goal.loop-i-init
loop-i-init c =
    record { entries = λ k h. absurd (omega arith); counts = omega (arith, none_before c.args.entries.now) }

pub returns-then-not-is_entry : goal.returns-then-not-is_entry
returns-then-not-is_entry c =
    let a = c.args in
    sym (never_true _ (λ e. let f = test_fits a.entries.now a.colours a.weights a.answers e in
    true≢false (sym (f.each c.loop-i.i (omega arith)) ∙ sym c.is_entry.ensures ∙ c.if-not-is_entry.true)))

pub returns-then-left-count : goal.returns-then-left-count
unfolding count_at
returns-then-left-count c =
    let l = c.loop-i in
    let a = c.args in
    let es = a.entries.now in
    sym (never_true _ (λ e. let f = test_fits es a.colours a.weights a.answers e in
    absurd (omega (
      arith,
      c.if-left-count.true,
      f.pairs,
      l.invariant.counts,
      more_before es l.i,
      before_grows es (l.i + 1) (entries_in es) (omega arith),
    ))))

pub loop-i-preserved : goal.loop-i-preserved
unfolding count_at
loop-i-preserved c =
    let l = c.loop-i in
    record {
      entries =
          λ k h.
          elim (ℕ_discrete k l.i) [
            | yes e ↦ rw e (sym c.is_entry.ensures ∙ c.if-not-is_entry.false)
            | no n ↦ l.invariant.entries k (omega arith)
          ];
      counts = omega (arith, c.if-left-count.false, l.invariant.counts, more_before c.args.entries.now l.i);
    }

pub returns : goal.returns
returns c =
    let l = c.loop-i in
    let a = c.args in
    let es = a.entries.now in
    let all : l.i ≡ entries_in es = omega arith in
    let weighs = ap (colours_before es) all in
    elim (ℕ_discrete l.left 0) [
      | yes e ↦ eq-eqb _ _ e ∙ sym (fits_test es a.colours a.weights a.answers (record {
        threes = c.if-entries-ne0.false;
        each = λ k h. l.invariant.entries k (omega (arith, all));
        bytes = omega (arith, e, l.invariant.counts, weighs, c.if-colours-ne0.false, c.if-colours-weights.false);
        pairs = omega (arith, e, l.invariant.counts, weighs);
        room = omega (arith, c.if-answers-n.false);
      }))
      | no n ↦ ne_eqb _ _ n ∙ sym (never_true _ (λ e. let f = test_fits es a.colours a.weights a.answers e in
          n (omega (arith, f.pairs, l.invariant.counts, weighs))))
    ]
