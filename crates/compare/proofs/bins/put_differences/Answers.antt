-- `compare::bins::put_differences` meets its contract: five differences, written where they stand.
-- Assumes nothing.
-- the machine reads back what it holds
use mathlib.Core.Path.{◌≡◌, ◌∙◌}
use Prim.Native.Nat.{◌+◌, ◌*◌, ◌^◌, ◌<◌}
use native.Mathlib.Omega.{arith}
use borrow.Author.Rules.{rules}
use lib.IntN.{ℤ}
use lib.ListN.{set, length-set}
use lib.Signed.{mag}
use mir.Syntax.{w64}
use mir.Val.{hbits, to_z, of_z}
use mir.ValLaws.{to_z-of_z}
use Rattle.compare.specs.Inner.{less, with_differences}
use Rattle.compare.proofs.bins.put_differences.Goals as goal

read : {x y : ℤ} → mag x < 2 ^ hbits w64 → x ≡ y → to_z w64 (of_z w64 x) ≡ y
read {x} h e = to_z-of_z w64 x (record { sfits = h }) ∙ e

pub overflow_mul-at : goal.overflow_mul-at
overflow_mul-at c = search rules

pub taken_from-weight-requires : goal.taken_from-weight-requires
taken_from-weight-requires c = (c.requires.1.weight, c.requires.2.weight)

pub taken_from-sum1-requires : goal.taken_from-sum1-requires
taken_from-sum1-requires c = (c.requires.1.sum1, c.requires.2.sum1)

pub taken_from-sum2-requires : goal.taken_from-sum2-requires
taken_from-sum2-requires c = (c.requires.1.sum2, c.requires.2.sum2)

pub taken_from-sum3-requires : goal.taken_from-sum3-requires
taken_from-sum3-requires c = (c.requires.1.sum3, c.requires.2.sum3)

pub taken_from-squares-requires : goal.taken_from-squares-requires
taken_from-squares-requires c =
    let pre = c.requires in
    (pre.1.squares, pre.2.squares)

pub offset_bounds-differences-at : goal.offset_bounds-differences-at
offset_bounds-differences-at c = search rules

pub bounds-differences-at : goal.bounds-differences-at
bounds-differences-at c = search rules

pub overflow_add-sum1 : goal.overflow_add-sum1
overflow_add-sum1 c = search rules

pub offset_bounds-differences-at-2 : goal.offset_bounds-differences-at-2
offset_bounds-differences-at-2 c = search rules

pub bounds-differences-at-2 : goal.bounds-differences-at-2
bounds-differences-at-2 c = simp length-set (omega arith)

pub overflow_add-sum2 : goal.overflow_add-sum2
overflow_add-sum2 c = search rules

pub offset_bounds-differences-at-3 : goal.offset_bounds-differences-at-3
offset_bounds-differences-at-3 c = search rules

pub bounds-differences-at-3 : goal.bounds-differences-at-3
bounds-differences-at-3 c = simp length-set (omega arith)

pub overflow_add-sum3 : goal.overflow_add-sum3
overflow_add-sum3 c = search rules

pub offset_bounds-differences-at-4 : goal.offset_bounds-differences-at-4
offset_bounds-differences-at-4 c = search rules

pub bounds-differences-at-4 : goal.bounds-differences-at-4
bounds-differences-at-4 c = simp length-set (omega arith)

pub overflow_add-squares : goal.overflow_add-squares
overflow_add-squares c = search rules

pub offset_bounds-differences-at-5 : goal.offset_bounds-differences-at-5
offset_bounds-differences-at-5 c = search rules

pub bounds-differences-at-5 : goal.bounds-differences-at-5
bounds-differences-at-5 c = simp length-set (omega arith)

pub shape_of-differences : goal.shape_of-differences
shape_of-differences c = search rules

pub returns : goal.returns
unfolding with_differences less
returns c =
    let four = c in
    let three = four in
    let two = three in
    let one = two in
    let a = one.args in
    let at = 5 * a.place in
    λ i.
    set
    (set
    (set
    (set
    (set a.differences.now at (read one.taken_from-weight.type_inv one.taken_from-weight.ensures i))
    (at + 1)
    (read two.taken_from-sum1.type_inv two.taken_from-sum1.ensures i))
    (at + 2)
    (read three.taken_from-sum2.type_inv three.taken_from-sum2.ensures i))
    (at + 3)
    (read four.taken_from-sum3.type_inv four.taken_from-sum3.ensures i))
    (at + 4)
    (read c.taken_from-squares.type_inv c.taken_from-squares.ensures i)
