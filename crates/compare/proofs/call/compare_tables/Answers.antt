-- `compare::call::compare_tables` meets its contract: the refusals in their order, and then the bins are compared.
-- Assumes nothing.
-- where the call stood: once the grid is accepted, once the lengths are right, and once each table is sound
use Rattle.std.specs.Prelude.{Some}
use mathlib.Core.Bool.{true}
use mathlib.Core.Path.{◌≡◌, sym, ap, ◌∙◌}
use lib.ListN.{length}
use Rattle.basics.proofs.Exits.{there, refused_with}
use Rattle.grid.specs.Grid.{grid_of, Accepted, bins_of}
use Rattle.grid.proofs.Places.{chose}
use Rattle.table.specs.Sound.{limit, sound}
use Rattle.table.specs.Table.{table_len, view_of}
use Rattle.table.specs.Layout.{TableOf}
use Rattle.table.proofs.Tables.{sized_by, not_sized_by}
use Rattle.table.proofs.Total.{unsound_says, total_says}
use Rattle.compare.specs.Inner.{told}
use Rattle.compare.proofs.Calls.{no_grid_lem, first_length, second_length, list_length, first_unsound}
use Rattle.compare.proofs.Calls.{second_unsound, all_done}
use Rattle.compare.proofs.call.compare_tables.Goals.{Else-differences-numbers, In_ok-g, In_ok-ok_or, In_ok-ok_or-2, then-first-numbers-via-then-first-numbers, then-first-numbers-via-else-first-numbers+then-second-numbers, then-first-numbers-via-else-first-numbers+else-second-numbers+then-differences-numbers}
use Rattle.compare.proofs.call.compare_tables.Goals as goal

-- the grid, once it is accepted
on_grid : (k : In_ok-g) → grid_of k.args.b1 k.args.b2 k.args.b3 ≡ Some k.in_ok-g.g
on_grid k = sym k.grid_of.ensures ∙ there k.grid_of.result _ k.in_ok-g.ensures.value

accepted : (k : In_ok-g) → Accepted k.in_ok-g.g
accepted k = (chose _ _ _ k.in_ok-g.g (on_grid k)).accepted

-- the tables and the list, once their lengths are right
first_table : (k : Else-differences-numbers) → TableOf k.in_ok-g.g k.args.first.now
first_table k =
    record {
      accepted = accepted (goal.at-Else-differences-numbers k).In_ok-g;
      lent = sized_by (k.if-first-numbers.false ∙ k.table_len-numbers.ensures);
    }

second_table : (k : Else-differences-numbers) → TableOf k.in_ok-g.g k.args.second.now
second_table k =
    record {
      accepted = accepted (goal.at-Else-differences-numbers k).In_ok-g;
      lent = sized_by (k.if-second-numbers.false ∙ k.table_len-numbers.ensures);
    }

list_long : (k : Else-differences-numbers) → length k.args.differences.now ≡ table_len (bins_of k.in_ok-g.g)
list_long k = k.if-differences-numbers.false ∙ k.table_len-numbers.ensures

-- the tables are sound
first_sound : (k : In_ok-ok_or) → sound limit k.in_ok-g.g (view_of k.args.first.now) ≡ true
first_sound k =
    (total_says limit _ _ _ (sym k.sound_total.ensures ∙ there k.sound_total.result _ k.in_ok-ok_or.ensures.value)).0

second_sound : (k : In_ok-ok_or-2) → sound limit k.in_ok-g.g (view_of k.args.second.now) ≡ true
second_sound k =
    (total_says limit _ _ _
    (sym k.sound_total-2.ensures ∙ there k.sound_total-2.result _ k.in_ok-ok_or-2.ensures.value)).0

pub returns-in_err-g : goal.returns-in_err-g
returns-in_err-g c =
    let r = refused_with c.grid_of.result _ c.from_residual.result c.in_err-g.ensures.value c.from_residual.ensures.1 in
    let both = no_grid_lem _ _ _ _ _ _ (sym c.grid_of.ensures ∙ r.0) in
    record { «record» = ap told r.1 ∙ both.0; later = both.1 }

pub table_len-numbers-requires : goal.table_len-numbers-requires
table_len-numbers-requires c = accepted c

pub returns-then-first-numbers : goal.returns-then-first-numbers
returns-then-first-numbers c =
    let a = c.args in
    let e = on_grid (goal.at-returns-then-first-numbers c).In_ok-g in
    let size = c.table_len-numbers.ensures in
    elim c.then-first-numbers.branch [
      | then-first-numbers-via-then-first-numbers w ↦
          let both =
          first_length a.b1 a.b2 a.b3 a.first.now a.second.now a.differences.now e
          (not_sized_by (λ q. w.if-first-numbers.true (q ∙ sym size))) in
          record { «record» = both.0; later = both.1 }
      | then-first-numbers-via-else-first-numbers+then-second-numbers w ↦
          let both =
          second_length a.b1 a.b2 a.b3 a.first.now a.second.now a.differences.now e
          (sized_by (w.if-first-numbers.false ∙ size)) (not_sized_by (λ q. w.if-second-numbers.true (q ∙ sym size))) in
          record { «record» = both.0; later = both.1 }
      | then-first-numbers-via-else-first-numbers+else-second-numbers+then-differences-numbers w ↦
          let both =
          list_length a.b1 a.b2 a.b3 a.first.now a.second.now a.differences.now e
          (sized_by (w.if-first-numbers.false ∙ size)) (sized_by (w.if-second-numbers.false ∙ size))
          (λ q. w.if-differences-numbers.true (q ∙ sym size)) in
          record { «record» = both.0; later = both.1 }
    ]

pub sound_total-requires : goal.sound_total-requires
sound_total-requires c = first_table (goal.at-sound_total-requires c).Else-differences-numbers

pub returns-in_err-ok_or : goal.returns-in_err-ok_or
returns-in_err-ok_or c =
    let k = (goal.at-returns-in_err-ok_or c).Else-differences-numbers in
    let r =
    refused_with c.sound_total.result _ c.from_residual-in_err-ok_or.result c.in_err-ok_or.ensures.value
    c.from_residual-in_err-ok_or.ensures.1 in
    let both =
    first_unsound _ _ _ _ _ _ (on_grid (goal.at-returns-in_err-ok_or c).In_ok-g) (first_table k).lent
    (second_table k).lent (list_long k) (unsound_says limit _ _ (sym c.sound_total.ensures ∙ r.0)) in
    record { «record» = ap told r.1 ∙ both.0; later = both.1 }

pub sound_total-requires-2 : goal.sound_total-requires-2
sound_total-requires-2 c = second_table (goal.at-sound_total-requires-2 c).Else-differences-numbers

pub returns-in_err-ok_or-2 : goal.returns-in_err-ok_or-2
returns-in_err-ok_or-2 c =
    let k = (goal.at-returns-in_err-ok_or-2 c).Else-differences-numbers in
    let r =
    refused_with c.sound_total-2.result _ c.from_residual-in_err-ok_or-2.result c.in_err-ok_or-2.ensures.value
    c.from_residual-in_err-ok_or-2.ensures.1 in
    let both =
    second_unsound _ _ _ _ _ _ (on_grid (goal.at-returns-in_err-ok_or-2 c).In_ok-g) (first_table k).lent
    (second_table k).lent (list_long k) (first_sound (goal.at-returns-in_err-ok_or-2 c).In_ok-ok_or)
    (unsound_says limit _ _ (sym c.sound_total-2.ensures ∙ r.0)) in
    record { «record» = ap told r.1 ∙ both.0; later = both.1 }

pub compare_bins-requires : goal.compare_bins-requires
compare_bins-requires c =
    let k = (goal.at-compare_bins-requires c).Else-differences-numbers in
    record {
      first = first_table k;
      second = second_table k;
      list = list_long k;
      first_sound = first_sound (goal.at-compare_bins-requires c).In_ok-ok_or;
      second_sound = second_sound (goal.at-compare_bins-requires c).In_ok-ok_or-2;
    }

pub returns : goal.returns
returns c =
    let k = (goal.at-returns c).Else-differences-numbers in
    let both =
    all_done _ _ _ _ _ _ (on_grid (goal.at-returns c).In_ok-g) (first_table k).lent (second_table k).lent (list_long k)
    (first_sound (goal.at-returns c).In_ok-ok_or) (second_sound (goal.at-returns c).In_ok-ok_or-2)
    c.compare_bins.ensures.record c.compare_bins.ensures.later in
    record { «record» = both.0; later = both.1 }
