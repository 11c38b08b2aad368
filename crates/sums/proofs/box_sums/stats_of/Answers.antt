-- `sums::box_sums::stats_of` meets its contract: number by number.
-- Assumes nothing.
use Rattle.std.proofs.Common.{ap, ◌∙◌}
use Rattle.sums.specs.Box.{whole}
use Rattle.sums.proofs.Corners.{cell_numbers}
use Rattle.sums.proofs.box_sums.stats_of.Goals as goal

pub returns : goal.returns
returns c =
    let f = cell_numbers c.args.c in
    λ i.
    record {
      weight = f.weight i;
      sum1 = f.sum1 i;
      sum2 = f.sum2 i;
      sum3 = f.sum3 i;
      squares = (c.in_float.ensures ∙ ap whole f.squares) i;
    }
