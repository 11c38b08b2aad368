-- `ppm::load::load_frame` meets its contract: the number of bytes, and then the load of what follows the header.
-- Assumes nothing.
use mathlib.Core.Path.{ap, ◌∙◌}
use mathlib.Core.Bool.{false}
use mathlib.Core.List.{List, []}
use Prim.Native.Nat.{ℕ}
use native.Mathlib.Omega.{arith}
use Rattle.loader.specs.Load.{load_number, load_later}
use Rattle.ppm.proofs.Calls.{all_left, few_bytes, other_length, frame_loads}
use Rattle.ppm.proofs.load.load_frame.Goals as goal

pub overflow_mul-f : goal.overflow_mul-f
overflow_mul-f c = omega (arith, few_bytes c.requires)

pub overflow_mul-f-2 : goal.overflow_mul-f-2
overflow_mul-f-2 c = omega (arith, few_bytes c.requires)

pub returns-then-file-from : goal.returns-then-file-from
returns-then-file-from c =
    let a = c.args in let both = other_length a.b1 a.b2 a.b3 a.table.now a.file.now a.f c.if-file-from.true in record { number = both.0; later = both.1 }

pub returns : goal.returns
returns c =
    let a = c.args in
    let l = c.load in
    let all = all_left a.file.now a.f.pixels in let both = frame_loads a.b1 a.b2 a.b3 a.table.now a.file.now a.f
    c.if-file-from.false
    (l.ensures.number ∙ ap (λ (x : List ℕ). load_number a.b1 a.b2 a.b3 a.table.now x false []) all)
    (l.ensures.later ∙ ap (λ (x : List ℕ). load_later a.b1 a.b2 a.b3 a.table.now x false []) all) in record { number = both.0; later = both.1 }
