-- `recorder::replay::all_entries` meets its contract: before each entry the replay stands where the entries passed led
-- it.
-- Assumes nothing.
use mathlib.Core.Path.{◌≡◌, ap, ◌∙◌}
use mathlib.Core.List.{List}
use Prim.Native.Nat.{ℕ, ◌+◌, ◌*◌, ◌≤◌, ◌<◌}
use native.Mathlib.Omega.{arith}
use lib.ListN.{length}
use Rattle.recorder.specs.Replay.{kind_at, interval_at, count_at, entries_in}
use Rattle.recorder.specs.Inner.{stand, number_on, later_on}
use Rattle.recorder.proofs.Fitting.{Fits, test_fits, more_before, before_grows}
use Rattle.recorder.proofs.Rest.{entry_is, entry_whole, reached_first, reached_next, reached_last}
use Rattle.recorder.proofs.replay.all_entries.Goals.{In-loop-i}
use Rattle.recorder.proofs.replay.all_entries.Goals as goal

-- the colours of the next entry are there
module _ (l : In-loop-i) where
  abbrev entries : List ℕ
  entries = l.args.entries.now

  fits : Fits entries (length l.args.colours.now) (length l.args.weights.now) (length l.args.answers.now)
  fits = test_fits entries _ _ _ l.requires.fit

  -- a length is far below the largest number
  narrow : length l.args.weights.now * 4 < 18446744073709551616
  narrow = omega arith

  inside : l.loop-i.at + count_at entries l.loop-i.i ≤ length l.args.weights.now
  inside =
      omega (
        arith,
        l.loop-i.invariant.place,
        more_before entries l.loop-i.i,
        before_grows entries (l.loop-i.i + 1) (entries_in entries) (omega arith),
        fits.pairs,
      )

  bytes : length l.args.colours.now ≡ 3 * length l.args.weights.now
  bytes = omega (arith, fits.bytes, fits.pairs)

pub loop-i-init : goal.loop-i-init
loop-i-init c =
    let a = c.args in
    reached_first a.steps.now.g a.entries.now a.colours.now a.weights.now a.s c.requires.known a.answers.now

pub overflow_add-end-in-loop-i : goal.overflow_add-end-in-loop-i
unfolding count_at
overflow_add-end-in-loop-i c =
    let l = (goal.at-overflow_add-end-in-loop-i c).In-loop-i in
    omega (arith, inside l, bytes l)

pub overflow_mul-from : goal.overflow_mul-from
unfolding count_at
overflow_mul-from c =
    let l = (goal.at-overflow_mul-from c).In-loop-i in
    omega (arith, inside l, bytes l)

pub overflow_mul-to : goal.overflow_mul-to
unfolding count_at
overflow_mul-to c =
    let l = (goal.at-overflow_mul-to c).In-loop-i in
    omega (arith, inside l, bytes l)

pub slice_bounds-one_entry-end : goal.slice_bounds-one_entry-end
unfolding count_at
slice_bounds-one_entry-end c =
    let l = (goal.at-slice_bounds-one_entry-end c).In-loop-i in
    omega (arith, inside l, bytes l)

pub slice_bounds-one_entry-end-in-loop-i : goal.slice_bounds-one_entry-end-in-loop-i
unfolding count_at
slice_bounds-one_entry-end-in-loop-i c =
    let l = (goal.at-slice_bounds-one_entry-end-in-loop-i c).In-loop-i in
    omega (arith, inside l)

pub offset_bounds-weights-at : goal.offset_bounds-weights-at
unfolding count_at
offset_bounds-weights-at c =
    let l = (goal.at-offset_bounds-weights-at c).In-loop-i in
    omega (arith, inside l, narrow l)

pub one_entry-done-requires : goal.one_entry-done-requires
unfolding count_at
one_entry-done-requires c =
    let l = (goal.at-one_entry-done-requires c).In-loop-i in
    let a = c.args in
    let r = c.loop-i.invariant in
    record {
      known = r.known;
      whole =
          entry_whole (entries l) a.colours.now a.weights.now c.loop-i.i r.place (omega (arith, inside l, bytes l))
          (inside l);
    }

pub bounds-answers-i : goal.bounds-answers-i
bounds-answers-i c =
    let l = (goal.at-bounds-answers-i c).In-loop-i in
    omega (arith, (fits l).room, l.loop-i.invariant.long, l.loop-i-test.true)

pub loop-i-preserved : goal.loop-i-preserved
unfolding count_at kind_at interval_at
loop-i-preserved c =
    let l = (goal.at-loop-i-preserved c).In-loop-i in
    let r = c.loop-i.invariant in
    let a = c.args in
    let g = a.steps.now.g in
    let o = c.one_entry-done in
    let is = entry_is (entries l) a.colours.now a.weights.now c.loop-i.i r.place in
    let here = stand c.loop-i.session c.loop-i.table in
    reached_next g (entries l) a.colours.now a.weights.now r c.loop-i-test.true (fits l).room
    (c.answer.ensures ∙ o.ensures.number ∙ ap (number_on g here) is) (o.ensures.later ∙ ap (later_on g here) is)
    o.ensures.known

pub returns : goal.returns
returns c =
    let a = c.args in
    let both =
    reached_last a.steps.now.g a.entries.now a.colours.now a.weights.now c.loop-i.invariant
    (omega (arith, c.loop-i.invariant.below)) in
    record { stands = both.0; answers = both.1 }
