-- `recorder::replay::replayed` meets its contract: the tests in their order, and all entries.
-- Assumes nothing.
-- where the call stood: once the grid is accepted, once what is lent fits, and once the table is sound
use Rattle.std.specs.Prelude.{Some}
use mathlib.Core.Path.{◌≡◌, refl, sym, ap, ◌∙◌}
use mathlib.Core.Bool.{true}
use Rattle.basics.proofs.Exits.{handed, there, refused_with}
use Rattle.grid.specs.Grid.{grid_of, Accepted}
use Rattle.grid.proofs.Places.{chose}
use Rattle.table.specs.Table.{view_of}
use Rattle.table.specs.Layout.{TableOf}
use Rattle.table.specs.Sound.{limit}
use Rattle.table.proofs.Tables.{sized_by, not_sized_by}
use Rattle.table.proofs.Total.{total_says, unsound_says}
use Rattle.adder.specs.Add.{Known}
use Rattle.recorder.specs.Session.{is_interval}
use Rattle.recorder.specs.Replay.{Recorded, recorded, lent_fits}
use Rattle.recorder.specs.Inner.{told}
use Rattle.recorder.proofs.Sessions.{is_interval_lem, out_by}
use Rattle.recorder.proofs.Replays.{ends_no_interval, ends_no_grid, ends_length, ends_not_fitting}
use Rattle.recorder.proofs.Replays.{ends_unsound, ends_done}
use Rattle.recorder.proofs.replay.replayed.Goals.{Else-not-entries_fit, In_ok-g, In_ok-had, then-table-table_len-via-then-table-table_len, then-table-table_len-via-else-table-table_len+then-not-entries_fit}
use Rattle.recorder.proofs.replay.replayed.Goals as goal

abbrev lent : In_ok-g → Recorded
lent k =
    let a = k.args in
    recorded a.entries.now a.colours.now a.weights.now a.answers.now

ranged : (k : In_ok-g) → is_interval k.args.first ≡ true
ranged k = is_interval_lem k.args.first (sym k.in_ok-in_range.ensures)

on_grid : (k : In_ok-g) → grid_of k.args.b1 k.args.b2 k.args.b3 ≡ Some k.in_ok-g.g
on_grid k = sym k.grid_of.ensures ∙ there k.grid_of.result _ k.in_ok-g.ensures.value

accepted : (k : In_ok-g) → Accepted k.in_ok-g.g
accepted k = (chose _ _ _ k.in_ok-g.g (on_grid k)).accepted

the_table : (k : Else-not-entries_fit) → TableOf k.in_ok-g.g k.args.table.now
the_table k =
    record {
      accepted = accepted (goal.at-Else-not-entries_fit k).In_ok-g;
      lent = sized_by (k.if-table-table_len.false ∙ k.table_len.ensures);
    }

fitted : (k : Else-not-entries_fit) → lent_fits (lent (goal.at-Else-not-entries_fit k).In_ok-g) ≡ true
unfolding lent_fits
fitted k = sym k.entries_fit.ensures ∙ k.if-not-entries_fit.false

known : (k : In_ok-had) → Known limit k.in_ok-g.g k.args.table.now k.in_ok-had.had
known k =
    let says =
    total_says limit k.in_ok-g.g (view_of k.args.table.now) _
    (sym k.sound_total.ensures ∙ there k.sound_total.result _ k.in_ok-had.ensures.value) in
    record { table = the_table (goal.at-In_ok-had k).Else-not-entries_fit; is_sound = says.0; total_is = says.1 }

pub returns-in_err-in_range : goal.returns-in_err-in_range
returns-in_err-in_range c =
    let a = c.args in
    let r = c.in_err-in_range.field-0.0 in
    let out = out_by a.first r c.in_err-in_range.ensures in
    let both =
    ends_no_interval a.first a.b1 a.b2 a.b3 a.table.now
    (recorded a.entries.now a.colours.now a.weights.now a.answers.now) out.0
    (ap told (handed c.from_residual.result r c.from_residual.ensures.1)
    ∙ (λ j. record { number = out.1 j; session = record { interval = 0 } })) in
    record { answer = both.0; table = both.1.0; answers = both.1.1 }

pub returns-in_err-g : goal.returns-in_err-g
returns-in_err-g c =
    let a = c.args in
    let r =
    refused_with c.grid_of.result _ c.from_residual-in_err-g.result c.in_err-g.ensures.value
    c.from_residual-in_err-g.ensures.1 in
    let both =
    ends_no_grid a.first a.b1 a.b2 a.b3 a.table.now (recorded a.entries.now a.colours.now a.weights.now a.answers.now)
    (is_interval_lem a.first (sym c.in_ok-in_range.ensures)) (sym c.grid_of.ensures ∙ r.0) (ap told r.1) in
    record { answer = both.0; table = both.1.0; answers = both.1.1 }

pub table_len-requires : goal.table_len-requires
table_len-requires c = accepted c

pub returns-then-table-table_len : goal.returns-then-table-table_len
unfolding lent_fits
returns-then-table-table_len c =
    let a = c.args in
    let k = (goal.at-returns-then-table-table_len c).In_ok-g in
    let size = c.table_len.ensures in
    elim c.then-table-table_len.branch [
      | then-table-table_len-via-then-table-table_len w ↦
          let both =
          ends_length a.first a.b1 a.b2 a.b3 a.table.now (lent k) (ranged k) (on_grid k)
          (not_sized_by (λ q. w.if-table-table_len.true (q ∙ sym size))) refl in
          record { answer = both.0; table = both.1.0; answers = both.1.1 }
      | then-table-table_len-via-else-table-table_len+then-not-entries_fit w ↦
          let both =
          ends_not_fitting a.first a.b1 a.b2 a.b3 a.table.now (lent k) (ranged k) (on_grid k)
          (sized_by (w.if-table-table_len.false ∙ size)) (sym w.entries_fit.ensures ∙ w.if-not-entries_fit.true) refl in
          record { answer = both.0; table = both.1.0; answers = both.1.1 }
    ]

pub sound_total-requires : goal.sound_total-requires
sound_total-requires c = the_table (goal.at-sound_total-requires c).Else-not-entries_fit

pub returns-in_err-had : goal.returns-in_err-had
returns-in_err-had c =
    let a = c.args in
    let k = (goal.at-returns-in_err-had c).In_ok-g in
    let f = (goal.at-returns-in_err-had c).Else-not-entries_fit in
    let r =
    refused_with c.sound_total.result _ c.from_residual-in_err-had.result c.in_err-had.ensures.value
    c.from_residual-in_err-had.ensures.1 in
    let both =
    ends_unsound a.first a.b1 a.b2 a.b3 a.table.now (lent k) (ranged k) (on_grid k) (the_table f).lent (fitted f)
    (unsound_says limit _ _ (sym c.sound_total.ensures ∙ r.0)) (ap told r.1) in
    record { answer = both.0; table = both.1.0; answers = both.1.1 }

pub of-steps-requires : goal.of-steps-requires
of-steps-requires c = accepted (goal.at-of-steps-requires c).In_ok-g

pub all_entries-requires-clause-known : goal.all_entries-requires-clause-known
all_entries-requires-clause-known c =
    rw c.of-steps.ensures.grid (known (goal.at-all_entries-requires-clause-known c).In_ok-had)

pub returns : goal.returns
returns c =
    let a = c.args in
    let k = (goal.at-returns c).In_ok-g in
    let f = (goal.at-returns c).Else-not-entries_fit in
    let both =
    ends_done a.first a.b1 a.b2 a.b3 a.table.now (lent k) (ranged k) (on_grid k) (the_table f).lent (fitted f)
    (known (goal.at-returns c).In_ok-had).is_sound (rw c.of-steps.ensures.grid at c.all_entries.ensures.stands)
    (rw c.of-steps.ensures.grid at c.all_entries.ensures.answers) in
    record { answer = both.0; table = both.1.0; answers = both.1.1 }
