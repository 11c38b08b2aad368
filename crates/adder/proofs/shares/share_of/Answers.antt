-- `adder::shares::share_of` meets its contract: products of a weight within the limit and of bytes fit.
-- Assumes nothing.
use mathlib.Core.Path.{sym}
use native.Mathlib.Omega.{arith}
use Rattle.grid.proofs.Places.{Bytes}
use Rattle.table.proofs.Cells.{cell_is}
use Rattle.adder.specs.Batch.{share}
use Rattle.adder.specs.Inner.{squares_of}
use Rattle.adder.proofs.Loading.{times_high}
use Rattle.adder.proofs.StepTable.{squares_small}
use Rattle.adder.proofs.shares.share_of.Goals.{Start}
use Rattle.adder.proofs.shares.share_of.Goals as goal

is_bytes : (s : Start) → Bytes s.args.x
is_bytes s =
    let known = s.well_formed.0 in
    record { one = omega (arith, known); two = omega (arith, known); three = omega (arith, known) }

pub overflow_mul-result : goal.overflow_mul-result
overflow_mul-result c =
    let s = c in
    rw c.from.ensures (omega (arith, times_high 4294967295 255 s.args.w s.args.x.c1 s.requires.0 (omega arith)))

pub overflow_mul-result-2 : goal.overflow_mul-result-2
overflow_mul-result-2 c =
    let s = c in
    rw c.from-2.ensures (omega (arith, times_high 4294967295 255 s.args.w s.args.x.c2 s.requires.0 (omega arith)))

pub overflow_mul-result-3 : goal.overflow_mul-result-3
overflow_mul-result-3 c =
    let s = c in
    rw c.from-3.ensures (omega (arith, times_high 4294967295 255 s.args.w s.args.x.c3 s.requires.0 (omega arith)))

pub overflow_mul-result-4 : goal.overflow_mul-result-4
overflow_mul-result-4 c =
    let s = (goal.at-overflow_mul-result-4 c).Start in
    omega (
      arith,
      times_high 4294967295 195075 s.args.w s.args.squares s.requires.0
          (omega (arith, s.requires.1, squares_small (is_bytes s))),
    )

pub returns : goal.returns
unfolding share squares_of
returns c =
    let s = c in
    rw (c.from.ensures, c.from-2.ensures, c.from-3.ensures, s.requires.1) (sym (cell_is (share (record { colour = s.args.x; weight = s.args.w }))))
