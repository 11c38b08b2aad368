-- Rescuing a damaged table: what is kept and what is cleared, and why; of a sound table, and a second time.
-- Assumes nothing.
use Rattle.std.specs.Prelude.{Some}
use mathlib.Core.Path.{◌≡◌, refl, sym, ap, ◌∙◌}
use mathlib.Core.Bool.{Bool, true, cond}
use mathlib.Core.List.{List}
use Prim.Native.Nat.{ℕ, ◌≤◌, ◌<◌}
use native.Mathlib.Omega.{arith}
use lib.Dec.{eqb}
use lib.ListN.{length, get_or, replicate, length-replicate, get_or-replicate}
use lib.Seq.{ext_get_or}
use Rattle.basics.proofs.Range.{sum_same}
use Rattle.grid.specs.declared.place.Grid.{Grid}
use Rattle.grid.specs.Grid.{grid_of, bins_of}
use Rattle.table.specs.Table.{Table, view_of}
use Rattle.table.specs.Sound.{limit, sound}
use Rattle.table.proofs.Tables.{holds_list, holds_itself, holds_same}
use Rattle.table.proofs.Soundness.{sound_same, total_is}
use Rattle.rescue.specs.Rescue.{keeps_bounds, reason_for, kept_before, reason_at, rescued}
use Rattle.rescue.specs.Rescue.{rescue_number, rescue_table, rescue_reasons}
use Rattle.rescue.proofs.Walks.{out_of_bounds, no_room}
use Rattle.rescue.proofs.Views.{reason_high, tells_bounds, tells_total, kept_stays, cleared_zeros, kept_sum}
use Rattle.rescue.proofs.Views.{rescued_sound, sound_kept}
use Rattle.rescue.proofs.Laws.{RescueDone, rescue_says, rescue_accepts}
use Rattle.promises.specs.Rescue.{may_stay, total_before, kept_total, Rescued}

module _ (b1 b2 b3 : ℕ) {g : Grid} (chosen : grid_of b1 b2 b3 ≡ Some g) where
  module _ (t l : List ℕ) (done : rescue_number b1 b2 b3 t l ≡ 0) where
    abbrev later : Table
    later = rescue_table b1 b2 b3 t l

    abbrev reasons : List ℕ
    reasons = rescue_reasons b1 b2 b3 t l

    abbrev had : ℕ → ℕ
    had p = kept_before limit g (view_of t) p

    abbrev keeps : ℕ → Bool
    keeps p = keeps_bounds limit g (view_of t) p

    told : RescueDone b1 b2 b3 t l g
    told = rescue_says b1 b2 b3 t l chosen done

    stays : (p : ℕ) → may_stay g t p ≡ keeps p
    unfolding may_stay keeps_bounds
    stays p = refl

    before : (p : ℕ) → p ≤ bins_of g → total_before later p ≡ had p
    unfolding total_before
    before p h =
        sum_same 0 p (λ q. view_of later q 0) (λ q. rescued limit g (view_of t) q 0)
        (λ q a b. told.holds.at q 0 (omega arith) (omega arith))
        ∙ sym (kept_sum limit g (view_of t) p)

    -- the byte of a bin
    due : (p : ℕ) → p < bins_of g → get_or reasons p 0 ≡ reason_for limit (keeps p) (had p) (view_of t p 0)
    unfolding reason_at
    due p h = told.reason p h

    weight_then : (p : ℕ) → p < bins_of g → view_of later p 0 ≡ cond (eqb (get_or reasons p 0) 0) (view_of t p 0) 0
    unfolding rescued
    weight_then p h =
        told.holds.at p 0 h (omega arith)
        ∙ ap (λ (n : ℕ). cond (eqb n 0) (view_of t p 0) 0) (sym (told.reason p h))

    pub rescue_tells : Rescued g t (rescue_table b1 b2 b3 t l) (rescue_reasons b1 b2 b3 t l)
    unfolding kept_total
    rescue_tells =
        record {
          is_sound = sound_same g (view_of later) (rescued limit g (view_of t)) told.holds.at limit
              ∙ (rescued_sound limit g (view_of t)).holds;
          as_many = told.as_many;
          no_other = λ p h. rw (due p h) (reason_high limit (had p) (view_of t p 0) (keeps p));
          kept = λ p h e j k. told.holds.at p j h k ∙ kept_stays limit g (view_of t) p (sym (told.reason p h) ∙ e) j;
          cleared = λ p h d j k. told.holds.at p j h k
              ∙ cleared_zeros limit g (view_of t) p (λ e. d (told.reason p h ∙ e)) j;
          out_of_bounds = λ p h. (
            λ e. stays p ∙ tells_bounds limit (had p) (view_of t p 0) (keeps p) (sym (due p h) ∙ e),
            λ e. due p h ∙ out_of_bounds limit (had p) (view_of t p 0) (sym (stays p) ∙ e),
          );
          past_total = λ p h. (
            λ e.
                let f = tells_total limit (had p) (view_of t p 0) (keeps p) (sym (due p h) ∙ e) in
                (stays p ∙ f.0, omega (arith, f.1, before p (omega arith))),
            λ e.
                due p h
                ∙ no_room limit (had p) (view_of t p 0) (sym (stays p) ∙ e.0)
                (omega (arith, e.1, before p (omega arith))),
          );
          total_kept = total_is g (view_of later)
              ∙ sum_same 0 (bins_of g) (λ p. view_of later p 0)
              (λ p. cond (eqb (get_or reasons p 0) 0) (view_of t p 0) 0)
              (λ p a b. weight_then p (omega arith));
        }

    -- ---- "a sound table comes back as it was with all bytes 0"
    module _ (is_sound : sound limit g (view_of t) ≡ true) where
      pub sound_comes_back : rescue_table b1 b2 b3 t l ≡ t
      sound_comes_back =
          holds_list
          (holds_same told.holds
          (λ p j h k. kept_stays limit g (view_of t) p (sound_kept (record { holds = is_sound }) p h) j))
          ∙ sym (holds_list (holds_itself (bins_of g) t told.lent))

      pub sound_all_kept : rescue_reasons b1 b2 b3 t l ≡ replicate (bins_of g) 0
      sound_all_kept =
          ext_get_or 0 reasons (replicate (bins_of g) 0) (told.as_many ∙ sym (length-replicate (bins_of g) 0))
          (λ p h.
          let inside : p < bins_of g = rw told.as_many at h in
          told.reason p inside ∙ sound_kept (record { holds = is_sound }) p inside
          ∙ sym (get_or-replicate (bins_of g) p 0 0 inside))

  -- ---- "a second rescue changes no bin"
  module _ (t l m : List ℕ) (done : rescue_number b1 b2 b3 t l ≡ 0) (as_many : length m ≡ bins_of g) where
    again : rescue_number b1 b2 b3 (rescue_table b1 b2 b3 t l) m ≡ 0
    again =
        rescue_accepts b1 b2 b3 (rescue_table b1 b2 b3 t l) m chosen
        (rescue_says b1 b2 b3 t l chosen done).holds.lent as_many

    pub second_rescue :
        (rescue_table b1 b2 b3 (rescue_table b1 b2 b3 t l) m ≡ rescue_table b1 b2 b3 t l)
        × (rescue_reasons b1 b2 b3 (rescue_table b1 b2 b3 t l) m ≡ replicate (bins_of g) 0)
    second_rescue =
        let sound-then = (rescue_tells t l done).is_sound in (
          sound_comes_back (rescue_table b1 b2 b3 t l) m again sound-then,
          sound_all_kept (rescue_table b1 b2 b3 t l) m again sound-then,
        )
