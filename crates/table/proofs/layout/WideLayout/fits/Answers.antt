-- `fits` of the wide layout meets its contract.
use Rattle.std.proofs.Common.{ℕ, ap, eqb}
use Rattle.table.specs.Layout.{lengths_fit}
use Rattle.table.proofs.layout.WideLayout.fits.Goals as goal

pub returns : goal.returns
unfolding lengths_fit
returns c = ap (λ (n : ℕ). eqb c.args.large n) c.table_len.ensures
