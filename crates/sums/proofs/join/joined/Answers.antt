-- `sums::join::joined` meets its contract: number by number.
-- Assumes nothing.
use Rattle.std.proofs.Common.{ap, ◌∙◌, arith}
use Rattle.table.specs.declared.cell.Cell.{Cell}
use Rattle.table.specs.Cell.{number_of, plus_cell}
use Rattle.table.proofs.Cells.{number_plus, number_minus}
use Rattle.sums.specs.Inner.{joined_cell}
use Rattle.sums.proofs.join.joined.Goals as goal

pub plus-requires-2 : goal.plus-requires-2
plus-requires-2 c =
    let a = c.args in
    record {
      fits = λ j h.
          omega (
            arith,
            c.requires.fits j h,
            ap (λ (x : Cell). number_of x j) c.plus.ensures,
            number_plus a.line a.above j h,
            ap (λ (x : Cell). number_of x j) c.minus.ensures,
            number_minus a.before a.corner j h,
          );
    }

pub returns : goal.returns
unfolding joined_cell
returns c = c.plus-2.ensures ∙ (λ i. plus_cell (c.plus.ensures i) (c.minus.ensures i))
