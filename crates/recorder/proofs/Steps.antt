-- One entry, by what its interval answers and by what comes of its batch, at a table that is known to be sound. Each
-- lemma is one that `grind` applies by its bare name, so no proof follows the branches of `one_entry`.
-- Assumes nothing.
use Rattle.std.specs.Prelude.{None, Option, Some}
use mathlib.Core.Path.{◌≡◌, refl, sym, ap, ◌∙◌}
use mathlib.Core.Bool.{true, false}
use mathlib.Core.List.{List}
use Prim.Native.Nat.{ℕ, ◌<◌}
use borrow.Author.Tests.{eqb-false, ne_eqb}
use lib.Dec.{eqb}
use lib.ListN.{get_or}
use Rattle.basics.specs.Answer.{when_done}
use Rattle.basics.proofs.Ends.{refused_keeps}
use Rattle.basics.proofs.Refusals.{not_done}
use Rattle.grid.specs.declared.place.Grid.{Grid}
use Rattle.grid.proofs.Places.{sizes_chosen}
use Rattle.table.specs.Table.{Table, view_of}
use Rattle.table.specs.Layout.{TableOf}
use Rattle.table.specs.Sound.{limit, sound, total}
use Rattle.adder.specs.Batch.{Weighted}
use Rattle.adder.specs.Add.{Known, Whole, scaled_batch, added_to, added_answer, added_later}
use Rattle.adder.proofs.Scaled.{scaled_bytes}
use Rattle.adder.proofs.Adding.{known_after, known_still}
use Rattle.loader.proofs.ByAdding.{number_says, later_says}
use Rattle.recorder.specs.Session.{interval_number, reloaded}
use Rattle.recorder.specs.Batch.{in_force}
use Rattle.recorder.specs.Replay.{Entry, Standing, entry_number, entry_later}
use Rattle.recorder.specs.Inner.{stand}
use Rattle.recorder.proofs.Sessions.{force_scale}
use Rattle.recorder.proofs.Batches.{refused_number, refused_later, loads_number, loads_later}

-- ---- a reload, and a batch that its interval refuses
module _ (b1 b2 b3 : ℕ) (s : Standing) (e : Entry) where
  abbrev number : ℕ
  number = entry_number b1 b2 b3 s e

  abbrev later : Standing
  later = entry_later b1 b2 b3 s e

  module _ (kind : e.kind ≡ 0) where
    pub reload_number : number ≡ interval_number e.interval
    unfolding entry_number reloaded
    reload_number = rw kind refl

    pub reload_leaves : eqb (interval_number e.interval) 0 ≡ false → later ≡ s
    unfolding entry_later reloaded
    reload_leaves n =
        let kept = refused_keeps _ (eqb-false _ 0 n) s.session.interval e.interval in
        rw kind (ap (λ (x : ℕ). stand (record { interval = x }) s.table) (sym kept))

    pub reload_sets : interval_number e.interval ≡ 0 → later ≡ stand (record { interval = e.interval }) s.table
    unfolding entry_later reloaded when_done
    reload_sets n = rw (kind, n) refl

  module _ (other : e.kind ≡ 0 → ⊥) (out : eqb (in_force s.session e.interval 0) 0 ≡ false) where
    pub out_number : number ≡ in_force s.session e.interval 0
    unfolding entry_number
    out_number =
        rw (ne_eqb e.kind 0 other)
        (refused_number s.session e.interval b1 b2 b3 s.table e.colours true e.weights out)

    pub out_later : later ≡ s
    unfolding entry_later
    out_later =
        rw (ne_eqb e.kind 0 other)
        (ap (stand s.session) (refused_later s.session e.interval b1 b2 b3 s.table e.colours true e.weights out))

-- ---- a batch in force
module _ (g : Grid) (s : Standing) (e : Entry) (other : e.kind ≡ 0 → ⊥) (force : in_force s.session e.interval 0 ≡ 0)
    (table : TableOf g s.table) (holds : sound limit g (view_of s.table) ≡ true)
    (whole : Whole e.colours true e.weights) where
  abbrev had : ℕ
  had = total g (view_of s.table)

  abbrev batch : List Weighted
  batch = scaled_batch e.interval e.colours true e.weights

  known : Known limit g s.table had
  known = record { table = table; is_sound = holds; total_is = refl }

  pub in_number : entry_number g.size1 g.size2 g.size3 s e ≡ (added_answer (added_to limit had batch)).number
  unfolding entry_number
  in_number =
      let a = sizes_chosen table.accepted in
      rw (ne_eqb e.kind 0 other)
      (loads_number s.session e.interval g.size1 g.size2 g.size3 s.table e.colours true e.weights force
      ∙ number_says g.size1 g.size2 g.size3 a known whole e.interval)

  pub in_later : entry_later g.size1 g.size2 g.size3 s e ≡ stand s.session (added_later limit g s.table had batch)
  unfolding entry_later
  in_later =
      let a = sizes_chosen table.accepted in
      rw (ne_eqb e.kind 0 other)
      (ap (stand s.session)
      (loads_later s.session e.interval g.size1 g.size2 g.size3 s.table e.colours true e.weights force
      ∙ later_says g.size1 g.size2 g.size3 a known whole e.interval))

-- ---- the total of the table then
abbrev total_then : ℕ → Option ℕ → ℕ
total_then before (Some n) = n
total_then before None = before

module _ (g : Grid) (t : Table) (had i : ℕ) (colours weights : List ℕ) (known : Known limit g t had)
    (bytes : (k : ℕ) → get_or colours k 0 < 256) where
  abbrev cs : List Weighted
  cs = scaled_batch i colours true weights

  -- the first part is there for `grind`, which applies this wherever a batch is added
  pub known_then : (added_later limit g t had cs ≡ added_later limit g t had cs)
      × Known limit g (added_later limit g t had cs) (total_then had (added_to limit had cs))
  known_then = (refl, go _ refl)
    where
      go : (o : Option ℕ) → added_to limit had cs ≡ o → Known limit g (added_later limit g t had cs) (total_then had o)
      go None e = known_still known cs e
      go (Some n) e = known_after known cs (scaled_bytes i colours true weights bytes) e

pub ruleset not_added = (reload_number, reload_leaves, reload_sets, out_number, out_later)

-- what `one_entry` needs at each of its ends
pub ruleset entry_ends = (not_done, force_scale, not_added, in_number, in_later, known_then)
