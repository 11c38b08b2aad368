-- `seluvava::arrays::check_room` meets its contract: the refusals in their order.
-- Assumes nothing.
use Rattle.std.specs.Prelude.{Option}
use Rattle.std.specs.Option.{ok_or}
use mathlib.Core.Path.{sym, ap, ◌∙◌}
use native.Mathlib.Omega.{arith}
use Rattle.basics.specs.Refusal.{answer_of}
use Rattle.basics.specs.declared.refusal.Refusal.TheVariants as refusal
use Rattle.basics.proofs.Refusals.{handed_on}
use Rattle.grid.specs.declared.place.Grid.{Grid}
use Rattle.seluvava.proofs.Calls.{room_refused, room_on_lem, room_k_low, room_k_high, room_boxes_short}
use Rattle.seluvava.proofs.Calls.{room_spreads_short, room_enough}
use Rattle.seluvava.proofs.arrays.check_room.Goals.{then-k-lt1-via-then-k-lt1, then-k-lt1-via-else-k-lt1+then-k-gt256}
use Rattle.seluvava.proofs.arrays.check_room.Goals.{then-boxes-k-via-then-boxes-k}
use Rattle.seluvava.proofs.arrays.check_room.Goals.{then-boxes-k-via-else-boxes-k+then-spreads-k}
use Rattle.seluvava.proofs.arrays.check_room.Goals as goal

pub returns-in_err-ok_or : goal.returns-in_err-ok_or
returns-in_err-ok_or c =
    let a = c.args in
    let e = c.in_err-ok_or.ensures in
    handed_on _ _ c.from_residual.ensures.1
    ∙ ap answer_of (e.value ∙ ap (λ (o : Option Grid). ok_or o refusal.Grid) e.ok_part)
    ∙ sym (room_refused a.b1 a.b2 a.b3 a.k a.boxes a.spreads (sym c.grid_of.ensures ∙ e.ok_part))

pub returns-then-k-lt1 : goal.returns-then-k-lt1
returns-then-k-lt1 c =
    let a = c.args in
    sym (room_on_lem a.b1 a.b2 a.b3 a.k a.boxes a.spreads (sym c.grid_of.ensures ∙ c.in_ok-ok_or.ensures.ok_part)
    ∙ elim c.then-k-lt1.branch [
      | then-k-lt1-via-then-k-lt1 w ↦ room_k_low a.k a.boxes a.spreads w.if-k-lt1.true
      | then-k-lt1-via-else-k-lt1+then-k-gt256 w ↦ room_k_high a.k a.boxes a.spreads w.if-k-gt256.true
    ])

pub returns-then-boxes-k : goal.returns-then-boxes-k
returns-then-boxes-k c =
    let a = c.args in
    sym (room_on_lem a.b1 a.b2 a.b3 a.k a.boxes a.spreads (sym c.grid_of.ensures ∙ c.in_ok-ok_or.ensures.ok_part)
    ∙ elim c.then-boxes-k.branch [
      | then-boxes-k-via-then-boxes-k w ↦
          room_boxes_short a.k a.boxes a.spreads (omega arith) (omega arith) w.if-boxes-k.true
      | then-boxes-k-via-else-boxes-k+then-spreads-k w ↦
          room_spreads_short a.k a.boxes a.spreads (omega arith) (omega arith) w.if-boxes-k.false w.if-spreads-k.true
    ])

pub returns : goal.returns
returns c =
    let a = c.args in
    sym (room_on_lem a.b1 a.b2 a.b3 a.k a.boxes a.spreads (sym c.grid_of.ensures ∙ c.in_ok-ok_or.ensures.ok_part)
    ∙ room_enough a.k a.boxes a.spreads (omega arith) (omega arith) (omega arith) (omega arith))
