-- `cutter::number::check` meets its contract: the refusals in their order.
-- Assumes nothing.
use Rattle.std.specs.Prelude.{Option}
use Rattle.std.specs.Option.{ok_or}
use mathlib.Core.Path.{◌≡◌, sym, ap, ◌∙◌}
use mathlib.Core.Bool.{Bool, true}
use Prim.Native.Nat.{ℕ}
use native.Mathlib.Omega.{arith}
use Rattle.basics.specs.Refusal.{answer_of}
use Rattle.basics.specs.declared.refusal.Refusal.TheVariants as refusal
use Rattle.basics.proofs.Refusals.{handed_on}
use Rattle.grid.specs.Grid.{bins_of}
use Rattle.table.specs.Cell.{View}
use Rattle.table.specs.Layout.{laid, laid_view, is_sized_in}
use Rattle.table.specs.Sound.{limit_of}
use Rattle.table.proofs.Layouts.{lengths_are, sized_in}
use Rattle.table.proofs.Total.{unsound_says, total_says}
use Rattle.cutter.specs.Cut.{Lengths, long_enough}
use Rattle.cutter.proofs.Refusals.{k_low, k_high, too_short, not_sound, no_total, accepts, lengths_fit_lem}
use Rattle.cutter.proofs.number.check.Given.{Over}
use Rattle.cutter.proofs.number.check.Goals.{Start, After-long_enough, Else-not-long_enough}
use Rattle.cutter.proofs.number.check.Goals.{then-k-lt1-via-then-k-lt1, then-k-lt1-via-else-k-lt1+then-k-gt256}
use Rattle.cutter.proofs.number.check.Goals as goal

module _ (g : Over) (s : Start g) where
  abbrev lengths : Lengths
  lengths =
      record {
        work = s.args.work;
        palette = s.args.palette;
        counts = s.args.counts;
        remainders = s.args.remainders;
        map = s.args.map;
      }

  abbrev sized : Bool
  sized = is_sized_in g.L.Layout.layout (laid g.L.Layout.layout s.args.small.now s.args.large.now) (bins_of s.args.g)

  abbrev most : ℕ
  most = limit_of g.L.Layout.layout

  abbrev view : View
  view = laid_view g.L.Layout.layout s.args.small.now s.args.large.now

  abbrev fit : Bool
  fit = long_enough s.args.source s.args.g s.args.k sized lengths

pub returns-then-k-lt1 : goal.returns-then-k-lt1
returns-then-k-lt1 g c =
    let s = (goal.at-returns-then-k-lt1 g c).Start in
    elim c.then-k-lt1.branch [
      | then-k-lt1-via-then-k-lt1 w ↦ sym (k_low (most g s) c.args.g c.args.k (fit g s) (view g s) w.if-k-lt1.true)
      | then-k-lt1-via-else-k-lt1+then-k-gt256 w ↦
          sym (k_high (most g s) c.args.g c.args.k (fit g s) (view g s) w.if-k-gt256.true)
    ]

-- what was asked is whether the lengths are right
asked : (g : Over) (k : After-long_enough g) → k.long_enough.result ≡ fit g (goal.at-After-long_enough g k).Start
asked g k =
    k.long_enough.ensures
    ∙ ap (λ (x : Bool). long_enough k.args.source k.args.g k.args.k x (lengths g (goal.at-After-long_enough g k).Start))
    (k.fits-table.ensures
    ∙ lengths_are g.L.Layout.layout k.args.small.now k.args.large.now (bins_of k.args.g))

pub returns-then-not-long_enough : goal.returns-then-not-long_enough
returns-then-not-long_enough g c =
    let k = goal.at-returns-then-not-long_enough g c in
    let s = k.Start in
    sym (too_short (most g s) c.args.g c.args.k (fit g s) (view g s) (omega arith) (omega arith)
    (sym (asked g k.After-long_enough) ∙ c.if-not-long_enough.true))

-- the lengths are right
right : (g : Over) (k : Else-not-long_enough g) → fit g (goal.at-Else-not-long_enough g k).Start ≡ true
right g k = sym (asked g (goal.at-Else-not-long_enough g k).After-long_enough) ∙ k.if-not-long_enough.false

pub sound_total-requires : goal.sound_total-requires
sound_total-requires g c =
    record {
      accepted = c.requires;
      lent = sized_in g.L.Layout.layout (laid g.L.Layout.layout c.args.small.now c.args.large.now) (bins_of c.args.g)
          (lengths_fit_lem (right g (goal.at-sound_total-requires g c).Else-not-long_enough)).sized;
    }

pub returns-in_err-total : goal.returns-in_err-total
returns-in_err-total g c =
    let k = goal.at-returns-in_err-total g c in
    let s = k.Start in
    let e = c.in_err-total.ensures in
    let unsound = e.value ∙ ap (λ (o : Option ℕ). ok_or o refusal.Unsound) e.ok_part in
    handed_on _ _ c.from_residual.ensures.1
    ∙ ap answer_of unsound
    ∙ sym (not_sound (most g s) c.args.g c.args.k (fit g s) (view g s) (omega arith) (omega arith)
    (right g k.Else-not-long_enough)
    (unsound_says (most g s) c.args.g (view g s) (sym c.sound_total.ensures ∙ e.ok_part)))

pub returns-then-total-eq0 : goal.returns-then-total-eq0
returns-then-total-eq0 g c =
    let k = goal.at-returns-then-total-eq0 g c in
    let s = k.Start in
    let w = total_says (most g s) c.args.g (view g s) _ (sym c.sound_total.ensures ∙ c.in_ok-total.ensures.ok_part) in
    sym (no_total (most g s) c.args.g c.args.k (fit g s) (view g s) (omega arith) (omega arith)
    (right g k.Else-not-long_enough) w.0 (sym w.1 ∙ c.if-total-eq0.true))

pub returns : goal.returns
returns g c =
    let k = goal.at-returns g c in
    let s = k.Start in
    let w = total_says (most g s) c.args.g (view g s) _ (sym c.sound_total.ensures ∙ c.in_ok-total.ensures.ok_part) in
    sym (accepts (most g s) c.args.g c.args.k (fit g s) (view g s) (omega arith) (omega arith)
    (right g k.Else-not-long_enough) w.0 (λ e. c.if-total-eq0.false (w.1 ∙ e)))
