-- `loader::merge::merge` meets its contract: the refusals in their order, and then the cells are added.
-- Assumes nothing.
-- where the call stood: once the grid is accepted, once the lengths are right, and once each table is sound
use Rattle.std.specs.Prelude.{Some}
use mathlib.Core.Bool.{Bool, true}
use mathlib.Core.List.{List}
use lib.ListN.{length}
use mathlib.Core.Path.{◌≡◌, sym, ◌∙◌}
use Prim.Native.Nat.{ℕ, ◌≤◌}
use native.Mathlib.Omega.{arith}
use Rattle.basics.proofs.Exits.{there, not_there}
use Rattle.grid.specs.declared.place.Grid.{Grid}
use Rattle.grid.specs.Grid.{grid_of, Accepted, bins_of}
use Rattle.grid.proofs.Places.{chose}
use Rattle.table.specs.Layouts.{Layout}
use Rattle.table.specs.Sound.{limit_of, total, sound}
use Rattle.table.specs.Layout.{TableIn, laid, lengths_fit, is_sized_in, view_in, TableOfIn}
use Rattle.table.proofs.Layouts.{lengths_are, sized_in}
use Rattle.table.proofs.Total.{unsound_says, total_says}
use Rattle.table.proofs.Soundness.{total_high}
use Rattle.loader.proofs.Calls.{merge_no_grid_in, merge_first_length, merge_second_length, merge_first_unsound}
use Rattle.loader.proofs.Calls.{merge_second_unsound, merge_over, merge_done}
use Rattle.loader.proofs.merge.merge.Given.{Over}
use Rattle.loader.proofs.merge.merge.Goals.{Else-not-fits, Else-not-fits-2, In_ok-g, In_ok-had, In_ok-more, then-not-fits-via-then-not-fits, then-not-fits-via-else-not-fits+then-not-fits-2}
use Rattle.loader.proofs.merge.merge.Goals as goal

-- the grid, once it is accepted
on_grid : (g : Over) (k : In_ok-g g) → grid_of k.args.b1 k.args.b2 k.args.b3 ≡ Some k.in_ok-g.g
on_grid g k = sym k.grid_of.ensures ∙ there k.grid_of.result _ k.in_ok-g.ensures.value

accepted : (g : Over) (k : In_ok-g g) → Accepted k.in_ok-g.g
accepted g k = (chose _ _ _ k.in_ok-g.g (on_grid g k)).accepted

-- the tables, once their lengths are right
abbrev first : (g : Over) → In_ok-g g → TableIn g.L.Layout.layout
first g k = laid g.L.Layout.layout k.args.small.now k.args.large.now

abbrev second : (g : Over) → In_ok-g g → TableIn g.L.Layout.layout
second g k = laid g.L.Layout.layout k.args.smallsecond.now k.args.largesecond.now

sized : (g : Over) (k : In_ok-g g) (small large : List ℕ) (fits : Bool)
    → fits ≡ lengths_fit g.L.Layout.layout (length small) (length large) (bins_of k.in_ok-g.g) → {b : Bool} → fits ≡ b
    → is_sized_in g.L.Layout.layout (laid g.L.Layout.layout small large) (bins_of k.in_ok-g.g) ≡ b
sized g k small large fits p q = sym (lengths_are g.L.Layout.layout small large (bins_of k.in_ok-g.g)) ∙ sym p ∙ q

first_table : (g : Over) (k : Else-not-fits g) → TableOfIn g.L.Layout.layout k.in_ok-g.g (first g (goal.at-Else-not-fits g k).In_ok-g)
first_table g k =
    let j = (goal.at-Else-not-fits g k).In_ok-g in
    record {
      accepted = accepted g j;
      lent =
          sized_in g.L.Layout.layout (first g j) (bins_of k.in_ok-g.g)
          (sized g j k.args.small.now k.args.large.now k.fits.result k.fits.ensures k.if-not-fits.false);
    }

second_table : (g : Over) (k : Else-not-fits-2 g) → TableOfIn g.L.Layout.layout k.in_ok-g.g (second g (goal.at-Else-not-fits-2 g k).In_ok-g)
second_table g k =
    let j = (goal.at-Else-not-fits-2 g k).In_ok-g in
    record {
      accepted = accepted g j;
      lent =
          sized_in g.L.Layout.layout (second g j) (bins_of k.in_ok-g.g)
          (sized g j k.args.smallsecond.now k.args.largesecond.now k.fits-else-not-fits.result k.fits-else-not-fits.ensures
          k.if-not-fits-2.false);
    }

-- a table is sound, with a total
abbrev SoundWith : (l : Layout) → Grid → TableIn l → ℕ → Type 0
SoundWith l g t n = (sound (limit_of l) g (view_in l t) ≡ true) × (n ≡ total g (view_in l t))

first_sound : (g : Over) (k : In_ok-had g)
    → SoundWith g.L.Layout.layout k.in_ok-g.g (first g (goal.at-In_ok-had g k).In_ok-g) k.in_ok-had.had
first_sound g k =
    total_says _ _ _ k.in_ok-had.had
    (sym k.sound_total.ensures ∙ there k.sound_total.result _ k.in_ok-had.ensures.value)

second_sound : (g : Over) (k : In_ok-more g)
    → SoundWith g.L.Layout.layout k.in_ok-g.g (second g (goal.at-In_ok-more g k).In_ok-g) k.in_ok-more.more
second_sound g k =
    total_says _ _ _ k.in_ok-more.more
    (sym k.sound_total-2.ensures ∙ there k.sound_total-2.result _ k.in_ok-more.ensures.value)

under : (g : Over) (k : In_ok-had g) → k.in_ok-had.had ≤ limit_of g.L.Layout.layout
under g k =
    let l = g.L.Layout.layout in
    let f = first_sound g k in
    let high = total_high {v = view_in l (first g (goal.at-In_ok-had g k).In_ok-g)} (record { holds = f.0 }) in
    omega (arith, f.1, high)

pub returns-in_err-g : goal.returns-in_err-g
returns-in_err-g g c =
    let r = not_there c.grid_of.result _ c.from_residual.result c.in_err-g.ensures.value c.from_residual.ensures.1 in
    let both = merge_no_grid_in g.L.Layout.layout _ _ _ _ _ (sym c.grid_of.ensures ∙ r.0) in
    record { number = r.1 ∙ both.0; later = both.1 }

pub fits-requires : goal.fits-requires
fits-requires g c = accepted g c

pub fits-requires-else-not-fits : goal.fits-requires-else-not-fits
fits-requires-else-not-fits g c = accepted g (goal.at-fits-requires-else-not-fits g c).In_ok-g

pub returns-then-not-fits : goal.returns-then-not-fits
returns-then-not-fits g c =
    let j = (goal.at-returns-then-not-fits g c).In_ok-g in
    let a = c.args in
    let l = g.L.Layout.layout in
    elim c.then-not-fits.branch [
      | then-not-fits-via-then-not-fits w ↦
          let both =
          merge_first_length l a.b1 a.b2 a.b3 (first g j) (second g j) (on_grid g j)
          (sized g j a.small.now a.large.now c.fits.result c.fits.ensures w.if-not-fits.true) in
          record { number = both.0; later = both.1 }
      | then-not-fits-via-else-not-fits+then-not-fits-2 w ↦
          let both =
          merge_second_length l a.b1 a.b2 a.b3 (first g j) (second g j) (on_grid g j)
          (sized_in l (first g j) (bins_of c.in_ok-g.g)
          (sized g j a.small.now a.large.now c.fits.result c.fits.ensures w.if-not-fits.false))
          (sized g j a.smallsecond.now a.largesecond.now w.fits-else-not-fits.result w.fits-else-not-fits.ensures
          w.if-not-fits-2.true) in
          record { number = both.0; later = both.1 }
    ]

pub sound_total-requires : goal.sound_total-requires
sound_total-requires g c = first_table g (goal.at-sound_total-requires g c).Else-not-fits

pub returns-in_err-had : goal.returns-in_err-had
returns-in_err-had g c =
    let k = goal.at-returns-in_err-had g c in
    let r =
    not_there c.sound_total.result _ c.from_residual-in_err-had.result c.in_err-had.ensures.value
    c.from_residual-in_err-had.ensures.1 in
    let both =
    merge_first_unsound g.L.Layout.layout _ _ _ _ _ (on_grid g k.In_ok-g) (first_table g k.Else-not-fits).lent
    (second_table g k.Else-not-fits-2).lent (unsound_says _ _ _ (sym c.sound_total.ensures ∙ r.0)) in
    record { number = r.1 ∙ both.0; later = both.1 }

pub sound_total-requires-2 : goal.sound_total-requires-2
sound_total-requires-2 g c = second_table g (goal.at-sound_total-requires-2 g c).Else-not-fits-2

pub returns-in_err-more : goal.returns-in_err-more
returns-in_err-more g c =
    let k = goal.at-returns-in_err-more g c in
    let r =
    not_there c.sound_total-2.result _ c.from_residual-in_err-more.result c.in_err-more.ensures.value
    c.from_residual-in_err-more.ensures.1 in
    let both =
    merge_second_unsound g.L.Layout.layout _ _ _ _ _ (on_grid g k.In_ok-g) (first_table g k.Else-not-fits).lent
    (second_table g k.Else-not-fits-2).lent (first_sound g k.In_ok-had).0
    (unsound_says _ _ _ (sym c.sound_total-2.ensures ∙ r.0)) in
    record { number = r.1 ∙ both.0; later = both.1 }

pub overflow_sub-limit : goal.overflow_sub-limit
overflow_sub-limit g c = omega (arith, c.limit.ensures, under g (goal.at-overflow_sub-limit g c).In_ok-had)

pub returns-then-limit-had : goal.returns-then-limit-had
returns-then-limit-had g c =
    let k = goal.at-returns-then-limit-had g c in
    let f = first_sound g k.In_ok-had in
    let s = second_sound g k.In_ok-more in
    let both =
    merge_over g.L.Layout.layout _ _ _ _ _ (on_grid g k.In_ok-g) (first_table g k.Else-not-fits).lent
    (second_table g k.Else-not-fits-2).lent f.0 s.0
    (omega (arith, f.1, s.1, c.limit.ensures, c.if-limit-had.true)) in
    record { number = c.too_heavy.ensures ∙ both.0; later = both.1 }

pub add_cells-requires : goal.add_cells-requires
add_cells-requires g c =
    let k = goal.at-add_cells-requires g c in
    let f = first_sound g k.In_ok-had in
    let s = second_sound g k.In_ok-more in
    record {
      first = first_table g k.Else-not-fits;
      second = second_table g k.Else-not-fits-2;
      first_sound = f.0;
      second_sound = s.0;
      under = omega (arith, f.1, s.1, c.limit.ensures, c.if-limit-had.false, under g k.In_ok-had);
    }

pub returns : goal.returns
returns g c =
    let k = goal.at-returns g c in
    let f = first_sound g k.In_ok-had in
    let s = second_sound g k.In_ok-more in
    let both =
    merge_done g.L.Layout.layout _ _ _ _ _ (on_grid g k.In_ok-g) (first_table g k.Else-not-fits).lent
    (second_table g k.Else-not-fits-2).lent f.0 s.0
    (omega (arith, f.1, s.1, c.limit.ensures, c.if-limit-had.false, under g k.In_ok-had)) c.add_cells.ensures in
    record { number = both.0; later = both.1 }
