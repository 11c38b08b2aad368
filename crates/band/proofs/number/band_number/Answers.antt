-- `band::number::band_number` meets its contract: the refusals in their order.
-- Assumes nothing.
use Rattle.std.proofs.Common.{sym, ◌∙◌, ap, ℕ, ltb}
use borrow.Author.Tests.{eq-eqb, ne_eqb, le-leb, lt-leb, lt-ltb, le-ltb, ltb-false, not-true, not-false}
use Rattle.basics.specs.Answer.{refuse}
use Rattle.band.specs.Band.{band_number}
use Rattle.band.proofs.Numbers.{band_accepted}
use Rattle.band.proofs.number.band_number.Goals.{then-map-bins-via-then-map-bins}
use Rattle.band.proofs.number.band_number.Goals.{then-map-bins-via-else-map-bins+then-palette_colours-lt1}
use Rattle.band.proofs.number.band_number.Goals.{then-map-bins-via-else-map-bins+else-palette_colours-lt1+then-palette_colours-gt256}
use Rattle.band.proofs.number.band_number.Goals.{then-map-bins-via-else-map-bins+else-palette_colours-lt1+else-palette_colours-gt256+then-not-fits}
use Rattle.band.proofs.number.band_number.Goals.{then-map-bins-via-else-map-bins+else-palette_colours-lt1+else-palette_colours-gt256+else-not-fits+then-reaches_past}
use Rattle.band.proofs.number.band_number.Goals as goal

pub returns-then-bytes-ne0 : goal.returns-then-bytes-ne0
unfolding band_number refuse
returns-then-bytes-ne0 c = sym (simp (ne_eqb _ _ c.if-bytes-ne0.true))

pub returns-then-map-bins : goal.returns-then-map-bins
unfolding band_number refuse
returns-then-map-bins c =
    elim c.then-map-bins.branch [
      | then-map-bins-via-then-map-bins w ↦
          sym (simp (
            eq-eqb _ _ c.if-bytes-ne0.false,
            ne_eqb _ _ (λ e. w.if-map-bins.true (e ∙ sym c.bins.ensures)),
          ))
      | then-map-bins-via-else-map-bins+then-palette_colours-lt1 w ↦
          sym (simp (
            eq-eqb _ _ c.if-bytes-ne0.false,
            eq-eqb _ _ (w.if-map-bins.false ∙ c.bins.ensures),
            lt-leb _ _ w.if-palette_colours-lt1.true,
          ))
      | then-map-bins-via-else-map-bins+else-palette_colours-lt1+then-palette_colours-gt256 w ↦
          sym (simp (
            eq-eqb _ _ c.if-bytes-ne0.false,
            eq-eqb _ _ (w.if-map-bins.false ∙ c.bins.ensures),
            le-leb _ _ w.if-palette_colours-lt1.false,
            lt-leb _ _ w.if-palette_colours-gt256.true,
          ))
      | then-map-bins-via-else-map-bins+else-palette_colours-lt1+else-palette_colours-gt256+then-not-fits w ↦
          sym (simp (
            eq-eqb _ _ c.if-bytes-ne0.false,
            eq-eqb _ _ (w.if-map-bins.false ∙ c.bins.ensures),
            le-leb _ _ w.if-palette_colours-lt1.false,
            le-leb _ _ w.if-palette_colours-gt256.false,
            not-true c.args.fits w.if-not-fits.true-raw,
          ))
      | then-map-bins-via-else-map-bins+else-palette_colours-lt1+else-palette_colours-gt256+else-not-fits+then-reaches_past w ↦
          sym (simp (
            eq-eqb _ _ c.if-bytes-ne0.false,
            eq-eqb _ _ (w.if-map-bins.false ∙ c.bins.ensures),
            le-leb _ _ w.if-palette_colours-lt1.false,
            le-leb _ _ w.if-palette_colours-gt256.false,
            not-false c.args.fits w.if-not-fits.false-raw,
            sym w.reaches_past.ensures ∙ w.if-reaches_past.true,
          ))
    ]

pub returns-then-palette_colours-from : goal.returns-then-palette_colours-from
unfolding band_number refuse
returns-then-palette_colours-from c =
    sym (simp (
      eq-eqb _ _ c.if-bytes-ne0.false,
      eq-eqb _ _ (c.if-map-bins.false ∙ c.bins.ensures),
      le-leb _ _ c.if-palette_colours-lt1.false,
      le-leb _ _ c.if-palette_colours-gt256.false,
      not-false c.args.fits c.if-not-fits.false-raw,
      sym c.reaches_past.ensures ∙ c.if-reaches_past.false,
      sym (c.largest.ensures _ c.if-palette_colours-lt1.false)
          ∙ ap (λ (n : ℕ). ltb n c.args.palette_colours) (sym c.from.ensures)
          ∙ le-ltb _ _ c.if-palette_colours-from.true,
    ))

pub returns : goal.returns
returns c =
    sym (band_accepted _ _ _ _ _ _ _
    (record {
      threes = c.if-bytes-ne0.false;
      lent = c.if-map-bins.false ∙ c.bins.ensures;
      some = c.if-palette_colours-lt1.false;
      few = c.if-palette_colours-gt256.false;
      is_fit = not-false c.args.fits c.if-not-fits.false-raw;
      inside = ltb-false _ _ (sym c.reaches_past.ensures ∙ c.if-reaches_past.false);
      below = sym (c.largest.ensures _ c.if-palette_colours-lt1.false)
          ∙ ap (λ (n : ℕ). ltb n c.args.palette_colours) (sym c.from.ensures)
          ∙ lt-ltb _ _ c.if-palette_colours-from.false;
    }))
