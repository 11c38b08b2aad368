-- Without weights a batch looks at no list.
-- Assumes nothing.
use Rattle.std.proofs.Common.{◌≡◌, ap, false, ℕ, List, ◌/◌, length, true}
use Rattle.basics.specs.Answer.{when_done}
use Rattle.table.specs.Table.{Table}
use Rattle.loader.specs.Load.{load_number, load_later}
use Rattle.loader.proofs.Once.{unlisted_scaled}
use Rattle.recorder.specs.declared.session.Session.{Session}
use Rattle.recorder.specs.Batch.{in_force, batch_number, batch_later}

pub unlisted_number : (s : Session) (i b1 b2 b3 : ℕ) (t : Table) (colours weights other : List ℕ)
    → batch_number s i b1 b2 b3 t colours false weights ≡ batch_number s i b1 b2 b3 t colours false other
unfolding batch_number
unlisted_number s i b1 b2 b3 t colours weights other =
    ap (λ (x : List ℕ). in_force s i (load_number b1 b2 b3 t colours true x))
    (unlisted_scaled i (length colours / 3) weights other)

pub unlisted_later : (s : Session) (i b1 b2 b3 : ℕ) (t : Table) (colours weights other : List ℕ)
    → batch_later s i b1 b2 b3 t colours false weights ≡ batch_later s i b1 b2 b3 t colours false other
unfolding batch_later
unlisted_later s i b1 b2 b3 t colours weights other =
    ap (λ (x : List ℕ). when_done (in_force s i 0) (load_later b1 b2 b3 t colours true x) t)
    (unlisted_scaled i (length colours / 3) weights other)
