-- `loader::load::load` meets its contract: a load with every weight times 1 is the load.
-- Assumes nothing.
use mathlib.Core.Path.{◌∙◌}
use Rattle.std.specs.Prelude.{is_some}
use Rattle.table.specs.Layout.{TableIn, laid}
use Rattle.adder.specs.Add.{given}
use Rattle.loader.proofs.Once.{once_number, once_later}
use Rattle.loader.proofs.load.load.Goals as goal

pub returns : goal.returns
returns g c =
    let l = g.L.Layout.layout in
    let a = c.args in
    let t : TableIn l = laid l a.small.now a.large.now in record {
      number = c.load_scaled.ensures.number
          ∙ once_number a.colours.now (is_some a.weights) (given a.weights) l a.b1 a.b2 a.b3 t;
      later = c.load_scaled.ensures.later
          ∙ once_later a.colours.now (is_some a.weights) (given a.weights) l a.b1 a.b2 a.b3 t;
    }
