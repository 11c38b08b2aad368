-- `mapper::call::map` meets its contract: the answer to the band, and where it is 0 the band is written.
-- Assumes nothing.
use Rattle.std.specs.Prelude.{Option}
use Rattle.std.specs.Option.{ok_or}
use Rattle.std.proofs.Common.{sym, ap, ◌∙◌, arith}
use borrow.Author.Tests.{eqb-false}
use Rattle.basics.specs.Answer.{when_done}
use Rattle.basics.proofs.Ends.{refused_keeps}
use Rattle.basics.proofs.Refusals.{not_done, handed_on}
use Rattle.basics.specs.Refusal.{answer_of}
use Rattle.basics.specs.declared.refusal.Refusal.TheVariants as refusal
use Rattle.grid.specs.declared.place.Grid.{Grid}
use Rattle.grid.proofs.Places.{chose}
use Rattle.mapper.specs.Map.{map_number_on}
use Rattle.mapper.proofs.Laws.{can_map, map_no_grid, map_ends}
use Rattle.mapper.proofs.call.map.Goals as goal

pub returns-in_err-g : goal.returns-in_err-g
returns-in_err-g c =
    let both = map_no_grid _ _ _ _ _ _ _ _ _ (sym c.grid_of.ensures ∙ c.in_err-g.ensures.ok_part) in
    let grid = c.in_err-g.ensures.value ∙ ap (λ (o : Option Grid). ok_or o refusal.Grid) c.in_err-g.ensures.ok_part in
    record {
      number = handed_on _ _ c.from_residual.ensures.1 ∙ ap answer_of grid ∙ both.0;
      later = both.1;
    }

pub band_number-requires : goal.band_number-requires
band_number-requires c = (chose _ _ _ _ (sym c.grid_of.ensures ∙ c.in_ok-g.ensures.ok_part)).accepted

pub returns-in_err-band_number : goal.returns-in_err-band_number
unfolding map_number_on
returns-in_err-band_number c =
    let both = map_ends _ _ _ _ _ _ _ _ _ (sym c.grid_of.ensures ∙ c.in_ok-g.ensures.ok_part)
    (sym c.in_err-band_number.ensures) (refused_keeps _ (eqb-false _ 0 (not_done c.in_err-band_number.field-0.0)) _ _) in
    record { number = handed_on _ _ c.from_residual-in_err-band_number.ensures.1 ∙ both.0; later = both.1 }

pub map_band-requires : goal.map_band-requires
unfolding map_number_on
map_band-requires c =
    let m = can_map _ _ _ _ _ _ _ (sym c.in_ok-band_number.ensures) in
    record {
      of_grid = record {
        accepted = (chose _ _ _ _ (sym c.grid_of.ensures ∙ c.in_ok-g.ensures.ok_part)).accepted;
        lent = m.lent;
      };
      inside = (omega (arith, m.one_each, m.threes), omega (arith, m.one_each, m.inside));
    }

pub returns : goal.returns
unfolding map_number_on when_done
returns c =
    let both = map_ends _ _ _ _ _ _ _ _ _ (sym c.grid_of.ensures ∙ c.in_ok-g.ensures.ok_part)
    (sym c.in_ok-band_number.ensures) c.map_band.ensures in
    record { number = both.0; later = both.1 }
