-- `ppm::header::is_magic` meets its contract.
-- Assumes nothing.
use mathlib.Core.Path.{sym, ◌∙◌}
use mathlib.Core.Bool.{true≢false}
use borrow.Author.Tests.{eq-eqb, eqb-true, lt-leb}
use Rattle.ppm.proofs.Headers.{magic_short, magic_other, magic_is}
use Rattle.ppm.proofs.header.is_magic.Goals.{then-file-ge2, else-file-ge2}
use Rattle.ppm.proofs.header.is_magic.Goals as goal

pub returns-then-file-eq80 : goal.returns-then-file-eq80
returns-then-file-eq80 c =
    elim c.if-file-ge2.branch [
      | then-file-ge2 w ↦
          sym (magic_is c.args.file.now w.if-file-ge2.true (eqb-true _ 80 (sym w.value-is ∙ c.if-file-eq80.true)))
      | else-file-ge2 w ↦
          absurd (true≢false (sym c.if-file-eq80.true ∙ w.value-is ∙ lt-leb 2 _ w.if-file-ge2.false))
    ]

pub returns-else-file-eq80 : goal.returns-else-file-eq80
returns-else-file-eq80 c =
    let f = c.args.file.now in
    elim c.if-file-ge2.branch [
      | then-file-ge2 w ↦
          c.if-file-eq80.false
          ∙ sym (magic_other f (λ e. true≢false (sym (eq-eqb _ 80 e) ∙ sym w.value-is ∙ c.if-file-eq80.false)))
      | else-file-ge2 w ↦ c.if-file-eq80.false ∙ sym (magic_short f w.if-file-ge2.false)
    ]
