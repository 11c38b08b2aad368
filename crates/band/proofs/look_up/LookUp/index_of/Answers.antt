-- `band::look_up::LookUp::index_of` meets its contract: two steps and a bin lead to the place of the colour, which lies in the
-- map.
-- Assumes nothing.
use mathlib.Core.Path.{◌≡◌, refl, ap}
use Prim.Native.Nat.{ℕ, ◌+◌, ◌<◌, ◌^◌}
use native.Mathlib.Omega.{arith}
use lib.ListN.{get_or, length}
use Rattle.grid.specs.Grid.{colour_place, steps_of, StepsOf}
use Rattle.grid.specs.Size.{bin_of}
use Rattle.grid.proofs.Places.{Bytes, three, last_step, steps_place, colour_place_lt}
use Rattle.band.proofs.look_up.LookUp.index_of.Goals.{Start}
use Rattle.band.proofs.look_up.LookUp.index_of.Goals as goal

bytes : (s : Start) → Bytes s.args.x
bytes s =
    let known = s.well_formed in
    record { one = omega (arith, known); two = omega (arith, known); three = omega (arith, known) }

-- what the code adds up
place_is : (s : Start) {i1 i2 n : ℕ} → i1 ≡ s.args.x.c1 → i2 ≡ s.args.x.c2
    → n ≡ bin_of s.args.self.now.g.shift3 s.args.x.c3
    → get_or s.args.self.now.t1 i1 0 + get_or s.args.self.now.t2 i2 0 + n ≡ colour_place s.args.self.now.g s.args.x
place_is s p q e =
    let l = s.args.self.now in
    let steps : StepsOf l.g l.t1 l.t2 (steps_of l.g 2) =
    record { accepted = l.ready.of_grid.accepted; one = l.ready.one; two = l.ready.two; three = refl } in
    rw (p, q)
    (omega (
      arith,
      e,
      last_step l.g s.args.x.c3 (bytes s).three,
      steps_place steps {x = s.args.x} (bytes s),
    ))

inside : (s : Start) → colour_place s.args.self.now.g s.args.x < length s.args.self.now.map.now
inside s =
    let of_grid = s.args.self.now.ready.of_grid in omega (arith, colour_place_lt of_grid.accepted (bytes s), of_grid.lent)

-- and it is small
small : (s : Start) → colour_place s.args.self.now.g s.args.x < 2 ^ 64
small s = omega (arith, inside s)

pub overflow_add-p : goal.overflow_add-p
overflow_add-p c =
    let s = (goal.at-overflow_add-p c).Start in
    omega (arith, place_is s c.from-i1.ensures c.from-i2.ensures refl, small s)

pub bin_of-requires : goal.bin_of-requires
bin_of-requires c = omega (arith, (three c.args.self.now.ready.of_grid.accepted).few)

pub overflow_add-p-2 : goal.overflow_add-p-2
overflow_add-p-2 c =
    let s = (goal.at-overflow_add-p-2 c).Start in
    omega (arith, place_is s c.from-i1.ensures c.from-i2.ensures c.bin_of.ensures, small s)

pub bounds-self-p : goal.bounds-self-p
bounds-self-p c =
    let s = (goal.at-bounds-self-p c).Start in
    omega (arith, place_is s c.from-i1.ensures c.from-i2.ensures c.bin_of.ensures, inside s)

pub returns : goal.returns
returns c =
    let s = (goal.at-returns c).Start in
    ap (λ (p : ℕ). get_or s.args.self.now.map.now p 0) (place_is s c.from-i1.ensures c.from-i2.ensures c.bin_of.ensures)
