-- `cutter::call::cut` meets its contract: the refusals, and else the cut.
-- Assumes nothing.
use Rattle.std.specs.Prelude.{Option}
use Rattle.std.specs.Option.{ok_or}
use mathlib.Core.Path.{◌≡◌, sym, ap, ◌∙◌}
use mathlib.Core.Bool.{Bool}
use Prim.Native.Nat.{ℕ}
use borrow.Author.Tests.{eqb-false}
use lib.ListN.{length}
use Rattle.basics.specs.Refusal.{answer_of}
use Rattle.basics.specs.declared.refusal.Refusal.TheVariants as refusal
use Rattle.basics.proofs.Refusals.{not_done}
use Rattle.grid.specs.declared.place.Grid.{Grid}
use Rattle.grid.specs.Grid.{bins_of}
use Rattle.grid.proofs.Places.{chose}
use Rattle.table.specs.Layout.{TableIn, laid, is_sized_in, view_in}
use Rattle.table.specs.Sound.{limit_of}
use Rattle.table.proofs.Layouts.{lengths_are}
use Rattle.cutter.specs.Cut.{BuffersIn, Lengths, buffers_in, refused_record, done_record}
use Rattle.cutter.specs.Cut.{lengths_right, long_enough, cut_number_on}
use Rattle.cutter.proofs.Refusals.{lengths_fit_lem, can_cut, record_handed, cut_no_grid, cut_refused, cut_done}
use Rattle.cutter.proofs.call.cut.Given.{Over}
use Rattle.cutter.proofs.call.cut.Goals.{Start}
use Rattle.cutter.proofs.call.cut.Goals as goal

module _ (g : Over) (s : Start g) where
  abbrev table : TableIn g.L.Layout.layout
  table = laid g.L.Layout.layout s.args.small.now s.args.large.now

  abbrev lent : BuffersIn g.L.Layout.layout
  lent =
      buffers_in g.L.Layout.layout (laid g.L.Layout.layout s.args.smallwork.now s.args.largework.now)
      s.args.palette.now s.args.counts.now s.args.remainders.now s.args.map.now

  abbrev lengths : Bool → Lengths
  lengths sized =
      record {
        work = sized;
        palette = length s.args.palette.now;
        counts = length s.args.counts.now;
        remainders = length s.args.remainders.now;
        map = length s.args.map.now;
      }

  abbrev answer : Grid → Bool → ℕ
  answer on sized =
      cut_number_on (limit_of g.L.Layout.layout) on s.args.k
      (long_enough s.args.source on s.args.k (is_sized_in g.L.Layout.layout table (bins_of on)) (lengths sized))
      (view_in g.L.Layout.layout table)

  -- the answer is that of a cut on the grid
  answered : (on : Grid) {n : ℕ} {sized : Bool} → n ≡ answer on sized
      → sized ≡ is_sized_in g.L.Layout.layout (laid g.L.Layout.layout s.args.smallwork.now s.args.largework.now) (bins_of on)
      → n ≡ cut_number_on (limit_of g.L.Layout.layout) on s.args.k
      (lengths_right g.L.Layout.layout s.args.source on s.args.k table lent) (view_in g.L.Layout.layout table)
  answered on e f = e ∙ ap (answer on) f

pub returns-in_err-g : goal.returns-in_err-g
returns-in_err-g g c =
    let a = c.args in
    let s = (goal.at-returns-in_err-g g c).Start in
    let e = c.in_err-g.ensures in
    let refused = e.value ∙ ap (λ (o : Option Grid). ok_or o refusal.Grid) e.ok_part in
    let both = cut_no_grid g.L.Layout.layout a.source a.b1 a.b2 a.b3 a.k (table g s) (lent g s)
    (sym c.grid_of.ensures ∙ e.ok_part)
    (record_handed _ _ c.from_residual.ensures.1 ∙ ap refused_record (ap answer_of refused)) in
    record { answer = both.0; later = both.1 }

pub fits-sized-requires : goal.fits-sized-requires
fits-sized-requires g c = (chose _ _ _ _ (sym c.grid_of.ensures ∙ c.in_ok-g.ensures.ok_part)).accepted

pub check-requires : goal.check-requires
check-requires g c = (chose _ _ _ _ (sym c.grid_of.ensures ∙ c.in_ok-g.ensures.ok_part)).accepted

pub returns-in_err-check : goal.returns-in_err-check
returns-in_err-check g c =
    let a = c.args in
    let s = (goal.at-returns-in_err-check g c).Start in
    let sized = c.fits-sized.ensures ∙ lengths_are g.L.Layout.layout a.smallwork.now a.largework.now (bins_of c.in_ok-g.g) in
    let both = cut_refused g.L.Layout.layout a.source a.b1 a.b2 a.b3 a.k (table g s) (lent g s)
    (sym c.grid_of.ensures ∙ c.in_ok-g.ensures.ok_part) (answered g s c.in_ok-g.g c.in_err-check.ensures sized)
    (eqb-false _ 0 (not_done c.in_err-check.field-0.0)) (record_handed _ _ c.from_residual-in_err-check.ensures.1) in
    record { answer = both.0; later = both.1 }

pub cut_on-requires : goal.cut_on-requires
cut_on-requires g c =
    let a = c.args in
    let s = (goal.at-cut_on-requires g c).Start in
    let sized = c.fits-sized.ensures ∙ lengths_are g.L.Layout.layout a.smallwork.now a.largework.now (bins_of c.in_ok-g.g) in
    let can = can_cut (sym (answered g s c.in_ok-g.g c.in_ok-check.ensures sized)) in
    record {
      accepted = ((chose _ _ _ _ (sym c.grid_of.ensures ∙ c.in_ok-g.ensures.ok_part)).accepted, can.0);
      lengths_fit = lengths_fit_lem can.1;
    }

pub returns : goal.returns
returns g c =
    let a = c.args in
    let s = (goal.at-returns g c).Start in
    let sized = c.fits-sized.ensures ∙ lengths_are g.L.Layout.layout a.smallwork.now a.largework.now (bins_of c.in_ok-g.g) in
    let e = c.cut_on.ensures in
    let both = cut_done g.L.Layout.layout a.source a.b1 a.b2 a.b3 a.k (table g s) (lent g s)
    (sym c.grid_of.ensures ∙ c.in_ok-g.ensures.ok_part) (sym (answered g s c.in_ok-g.g c.in_ok-check.ensures sized))
    (ap done_record e.answer) e.later in
    record { answer = both.0; later = both.1 }
