-- `fits` of the narrow layout meets its contract, list after list.
use Rattle.std.proofs.Common.{ℕ, ◌*◌, Bool, ◌&&◌, eqb, sym, ap, ◌∙◌, arith, eq-eqb, ne_eqb}
use Rattle.grid.specs.Grid.{bins_of}
use Rattle.grid.proofs.Places.{bins_high}
use Rattle.table.specs.Narrow.{narrow_fit}
use Rattle.table.specs.Layout.{lengths_fit}
use Rattle.table.proofs.layout.NarrowLayout.fits.Goals as goal

pub overflow_mul-n : goal.overflow_mul-n
overflow_mul-n c = omega (arith, c.bins-n.ensures, bins_high c.requires)

pub returns-then-small-n : goal.returns-then-small-n
unfolding lengths_fit narrow_fit
returns-then-small-n c =
    let a = c.args in
    ap (λ (n : ℕ). eqb a.large n) c.bins-n.ensures
    ∙ sym (ap (λ (b : Bool). b && eqb a.large (bins_of a.g))
    (eq-eqb a.small (4 * bins_of a.g) (omega (arith, c.if-small-n.true, c.bins-n.ensures))))

pub returns-else-small-n : goal.returns-else-small-n
unfolding lengths_fit narrow_fit
returns-else-small-n c =
    let a = c.args in
    let no = ne_eqb a.small (4 * bins_of a.g) (λ e. c.if-small-n.false (e ∙ ap (λ (n : ℕ). 4 * n) (sym c.bins-n.ensures))) in
    ap (λ (n : ℕ). eqb a.small (4 * n)) c.bins-n.ensures
    ∙ no
    ∙ sym (ap (λ (b : Bool). b && eqb a.large (bins_of a.g)) no)
