-- How a batch ends: refused for its interval, or as the load with scaled weights does.
-- Assumes nothing.
use Rattle.std.specs.Prelude.{Some}
use mathlib.Core.Path.{◌≡◌, refl, sym, ap, ◌∙◌}
use mathlib.Core.Bool.{Bool, true, false, not, ◌&&◌}
use mathlib.Core.List.{List}
use Prim.Native.Nat.{ℕ, suc, ◌+◌, ◌/◌, ◌%◌, ◌≤◌}
use borrow.Author.Tests.{eq-eqb, eqb-false, ltb-false}
use lib.Dec.{eqb, ltb}
use lib.ListN.{length}
use Rattle.grid.specs.declared.place.Grid.{Grid}
use Rattle.basics.specs.Answer.{refuse, when_done}
use Rattle.basics.proofs.Ends.{passed, refused_keeps}
use Rattle.basics.proofs.Refusals.{not_done}
use Rattle.grid.specs.Grid.{grid_of, bins_of}
use Rattle.table.specs.Table.{Table, Sized, view_of, written}
use Rattle.table.specs.Sound.{limit, total, sound}
use Rattle.table.proofs.Tables.{sized_test}
use Rattle.adder.specs.Batch.{Weighted, weight_of, loaded, scaled_weights}
use Rattle.adder.specs.Add.{scaled_batch}
use Rattle.loader.specs.Load.{load_number, load_later}
use Rattle.adder.proofs.Scaled.{scaled_pairs}
use Rattle.loader.proofs.Calls.{pairs, load_done}
use Rattle.loader.proofs.Laws.{load_refused, load_tests_lem}
use Rattle.recorder.specs.declared.session.Session.{Session}
use Rattle.recorder.specs.Session.{is_interval}
use Rattle.recorder.specs.Batch.{in_force, batch_number, batch_later}
use Rattle.recorder.proofs.Sessions.{force_passes, force_passed, force_then, force_scale}

module _ (s : Session) (i b1 b2 b3 : ℕ) (t : Table) (colours : List ℕ) (weighted : Bool) (weights : List ℕ) where
  abbrev batch : ℕ
  batch = batch_number s i b1 b2 b3 t colours weighted weights

  abbrev later : Table
  later = batch_later s i b1 b2 b3 t colours weighted weights

  -- the weights that it loads, and the colours with them
  abbrev scaled : List ℕ
  scaled = scaled_weights i (length colours / 3) weighted weights

  abbrev its : List Weighted
  its = scaled_batch i colours weighted weights

  -- the load
  abbrev load : ℕ
  load = load_number b1 b2 b3 t colours true scaled

  abbrev loaded_table : Table
  loaded_table = load_later b1 b2 b3 t colours true scaled

  -- by what its interval answers: it refuses, or the batch loads
  pub refused_number : eqb (in_force s i 0) 0 ≡ false → batch ≡ in_force s i 0
  unfolding batch_number
  refused_number r = force_then s i load ∙ sym (refused_keeps _ (eqb-false _ 0 r) (in_force s i 0) load)

  pub refused_later : eqb (in_force s i 0) 0 ≡ false → later ≡ t
  unfolding batch_later
  refused_later r = sym (refused_keeps _ (eqb-false _ 0 r) t loaded_table)

  pub loads_number : in_force s i 0 ≡ 0 → batch ≡ load
  unfolding batch_number when_done
  loads_number force = force_then s i load ∙ ap (λ (m : ℕ). when_done m load (in_force s i 0)) force

  pub loads_later : in_force s i 0 ≡ 0 → later ≡ loaded_table
  unfolding batch_later when_done
  loads_later force = ap (λ (m : ℕ). when_done m loaded_table t) force

  -- a refusal leaves the table
  pub batch_kept : {n : ℕ} → batch ≡ suc n → later ≡ t
  unfolding batch_number batch_later in_force refuse when_done
  batch_kept {n} = go (is_interval i) (eqb i s.interval)
    where
      go : (a b : Bool)
          → refuse (not a) 13 (refuse (not b) 14 (load_number b1 b2 b3 t colours true scaled)) ≡ suc n
          → when_done (refuse (not a) 13 (refuse (not b) 14 0)) (load_later b1 b2 b3 t colours true scaled) t ≡ t
      go true true e = load_refused b1 b2 b3 t colours true scaled e
      go true false e = refl
      go false b e = refl

  -- how it ends on a sound table with whole colours: by its interval, and then by the total
  module _ {g : Grid} (e : grid_of b1 b2 b3 ≡ Some g) (threes : length colours % 3 ≡ 0)
      (paired : weighted ≡ true → length weights ≡ length colours / 3) (lent : Sized t (bins_of g))
      (is_sound : sound limit g (view_of t) ≡ true) where
    four : (true && not (eqb (length scaled) (length colours / 3))) ≡ false
    four =
        scaled_pairs i colours weighted weights
        ∙ pairs weighted (length weights) (length colours / 3) paired

    on_sound : load_number b1 b2 b3 t colours true scaled
        ≡ refuse (ltb limit (total g (view_of t) + weight_of its)) 7 0
    unfolding refuse
    on_sound =
        load_tests_lem b1 b2 b3 t colours true scaled e
        ∙ simp (
          eq-eqb (length colours % 3) 0 threes,
          four,
          sized_test lent,
          is_sound,
        )

    pub batch_number_lem : batch ≡ in_force s i (refuse (ltb limit (total g (view_of t) + weight_of its)) 7 0)
    unfolding batch_number
    batch_number_lem = ap (in_force s i) on_sound

    -- done, the total fits and its colours are loaded
    pub batch_table : batch ≡ 0
        → (total g (view_of t) + weight_of its ≤ limit)
        × (later ≡ written (bins_of g) (loaded g its (view_of t)))
    batch_table d =
        let in_force_lem = force_passed s i (sym batch_number_lem ∙ d) in
        let fits : total g (view_of t) + weight_of its ≤ limit =
        ltb-false limit (total g (view_of t) + weight_of its) (passed _ 6 0 in_force_lem.2).0 in
        let ends = load_done b1 b2 b3 t colours true scaled e threes four lent is_sound fits refl in
        let force = force_passes s i 0 in_force_lem.0 in_force_lem.1 in
        (fits, loads_later force ∙ sym ends.1)

-- what `batch` needs at each of its ends
pub ruleset batch_ends = (not_done, force_scale, refused_number, refused_later, loads_number, loads_later)
